use Rattle.std.proofs.Common.{◌≡◌, drop, fold}
use Rattle.pt_written.specs.Reading.{cut_step}
use Rattle.pt_written.proofs.constants.digits_cut.Given as goal

abbrev pub invariant-loop-byte : goal.invariant-loop-byte
invariant-loop-byte l = fold cut_step l.n (drop l.byte-index l.bytes) ≡ fold cut_step 0 l.bytes
