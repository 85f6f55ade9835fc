use Rattle.std.proofs.Common.{◌≡◌, ◌++◌, length, All, IsTrue}
use Rattle.pt_token.specs.Bytes.{is_hex_digit}
use Rattle.pt_token.specs.Quoting.{hex_bytes}
use Rattle.pt_token.proofs.quoting.hex_bytes.Given as goal

abbrev pub invariant-loop-rest : goal.invariant-loop-rest
invariant-loop-rest l = record {
  value : hex_bytes l.digits ≡ l.bytes ++ hex_bytes l.rest;
  each : All (λ b. IsTrue (is_hex_digit b)) l.rest;
}

abbrev pub decreases-loop-rest : goal.decreases-loop-rest
decreases-loop-rest l = length l.rest
