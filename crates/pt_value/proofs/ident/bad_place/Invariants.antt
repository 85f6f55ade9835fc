use Rattle.std.proofs.Common.{take, All, IsTrue}
use Rattle.pt_value.specs.Ident.{is_ident_byte}
use Rattle.pt_value.proofs.ident.bad_place.Given as goal

abbrev pub invariant-loop-place : goal.invariant-loop-place
invariant-loop-place l = All (λ b. IsTrue (is_ident_byte b)) (take l.place l.bytes)
