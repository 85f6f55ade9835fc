use Rattle.std.proofs.Common.{◌≡◌, map}
use Rattle.std.specs.List.{list_any, range_with_len}
use Rattle.pt_reach.specs.May.{is_at}
use Rattle.pt_prune.proofs.marks.marked.Given as goal

abbrev pub invariant-loop-part : goal.invariant-loop-part
invariant-loop-part l = l.marks.items ≡ map (λ part. list_any (is_at part) l.places) (range_with_len 0 l.part)
