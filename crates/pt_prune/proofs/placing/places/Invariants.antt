use Rattle.std.proofs.Common.{◌≡◌, map}
use Rattle.pt_prune.specs.Marks.{placed, row_with}
use Rattle.pt_prune.proofs.placing.places.Given as goal

abbrev pub invariant-loop-value : goal.invariant-loop-value
invariant-loop-value l = l.places.items ≡ map (λ v. placed l.columns l.by l.parts l.count (row_with l.columns l.at v)) l.yielded
