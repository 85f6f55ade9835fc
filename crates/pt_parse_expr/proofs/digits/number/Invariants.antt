-- The number of the digits so far, within 128 bits.
use Rattle.std.proofs.Common.{◌≡◌, ◌-◌, ◌^◌, min, take}
use Rattle.pt_token.specs.Bytes.{digits_number}
use Rattle.pt_parse_expr.proofs.digits.number.Given as goal

abbrev pub invariant-loop-b : goal.invariant-loop-b
invariant-loop-b l = l.number ≡ min (digits_number (take l.b-index l.digits)) (2 ^ 128 - 1)
