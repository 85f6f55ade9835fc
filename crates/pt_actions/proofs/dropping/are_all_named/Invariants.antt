use Rattle.std.proofs.Common.{◌≡◌, drop}
use Rattle.std.specs.List.{list_all}
use Rattle.pt_actions.specs.Dropped.{is_named_in}
use Rattle.pt_actions.proofs.dropping.are_all_named.Given as goal

abbrev pub invariant-loop-part : goal.invariant-loop-part
invariant-loop-part l = list_all (is_named_in l.named) (drop l.part-index l.parts) ≡ list_all (is_named_in l.named) l.parts
