use Rattle.std.proofs.Common.{◌≡◌, ◌<◌, ◌^◌, take}
use Rattle.pt_token.specs.Bytes.{digits_number}
use Rattle.pt_token.proofs.comment.number_of.Given as goal

abbrev pub invariant-loop-b : goal.invariant-loop-b
invariant-loop-b l = record {
  value : l.number ≡ digits_number (take l.b-index l.digits);
  small : l.number < 10 ^ l.b-index;
}
