-- The counts that a host in memory holds.
use Rattle.std.proofs.Common.{◌≡◌, ℕ, ◌+◌, ◌-◌, ◌^◌, min, arith}
use Rattle.pt_memhost.specs.Memory.{capped}

-- A capped count and more of it.
pub capped_more : (held n more sum : ℕ) → held ≡ capped n → sum ≡ min (held + more) (2 ^ 64 - 1) → sum ≡ capped (n + more)
capped_more held n more sum e f = omega (arith, e, f)
