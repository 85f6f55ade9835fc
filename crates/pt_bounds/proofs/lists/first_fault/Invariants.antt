use Rattle.std.proofs.Common.{◌≡◌, ◌<◌, ℕ, false}
use Rattle.pt_ast.specs.Lists.{is_list_fault}
use Rattle.pt_bounds.proofs.lists.first_fault.Given as goal

abbrev pub invariant-loop-at : goal.invariant-loop-at
invariant-loop-at l = (k : ℕ) → k < l.at → is_list_fault l.parts k ≡ false
