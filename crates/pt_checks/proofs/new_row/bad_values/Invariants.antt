use Rattle.std.proofs.Common.{◌≡◌, drop}
use Rattle.std.specs.Prelude.{zip}
use Rattle.pt_place.specs.First.{first_in}
use Rattle.pt_checks.specs.Cells.{bad_given}
use Rattle.pt_checks.specs.Given.{AreGiven}
use Rattle.pt_checks.proofs.new_row.bad_values.Given as goal

abbrev pub invariant-loop-at : goal.invariant-loop-at
invariant-loop-at l =
    (first_in (bad_given l.columns l.number) (zip (drop l.at l.targets) (drop l.at l.specs)) ≡ first_in (bad_given l.columns l.number) (zip l.targets l.specs))
    × AreGiven l.columns l.targets l.specs l.at
