use Rattle.std.proofs.Common.{◌≡◌, ◌++◌}
use Rattle.std.specs.Option.{option_map}
use Rattle.pt_rowfile.specs.Reader.{cells_at}
use Rattle.pt_rowfile.proofs.source.Source.cells.Given as goal

abbrev pub invariant-loop-left : goal.invariant-loop-left
invariant-loop-left l = cells_at l.count l.initial.self ≡ option_map (λ more. (l.cells ++ more.0, more.1)) (cells_at l.left l.self)

abbrev pub decreases-loop-left : goal.decreases-loop-left
decreases-loop-left l = l.left
