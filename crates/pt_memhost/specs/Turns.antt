-- Which calls of a host in memory fail, and what is done of them.
use Rattle.std.specs.Prelude.{◌≡◌, ◌⊎◌, ℕ, ◌+◌, ◌-◌, ◌%◌, ◌≤◌, Bool, false, cond, ◌==◌, Option, Some, None, Result, OnErr, IsErr}
use Rattle.std.specs.List.{list_any}
use Rattle.pt_host.specs.World.{World}
use Rattle.pt_host.specs.Counts.{Rose, HasCause}
use Rattle.pt_memhost.specs.declared.host.turns.Turn.{Turn}
use Rattle.pt_memhost.specs.declared.host.turns.Turn.TheVariants.{Passes, Ordered, Spent}
use Rattle.pt_memhost.specs.Memory.{Memory, capped, world_in}

abbrev pub is_spent : Option ℕ → Bool
is_spent None = false
is_spent (Some left) = left == 0

-- how the next call goes
abbrev pub turn_of : Memory → Turn
turn_of memory = cond (is_spent memory.fuse) Spent (cond (list_any (λ number. number == memory.calls) memory.ordered) Ordered Passes)

-- the fuse after one more call
abbrev pub burnt : Option ℕ → Option ℕ
burnt None = None
burnt (Some left) = Some (left - 1)

-- A count rose, or stands at its last value.
pub record Raised (before now : ℕ) : Type 0 where
  pub later : before ≤ now
  pub rose : Rose before now

-- This was done, and memory was not wanting.
pub record IsDone (part : World → World) (old new : Memory) : Type 0 where
  pub world : world_in new ≡ part (world_in old)
  pub starved : new.starved ≡ old.starved

-- Memory was wanting, and nothing was done.
pub record IsStarved (old new : Memory) : Type 0 where
  pub world : world_in new ≡ world_in old
  pub starved : Raised old.starved new.starved

-- A call of `Host`, which is counted. `part` is what is done where it was ordered to fail.
pub record Obeys {T E : Type 0} (part : World → World) (old new : Memory) (result : Result T E) : Type 0 where
  pub calls : new.calls ≡ capped (old.calls + 1)
  pub fuse : new.fuse ≡ burnt old.fuse
  pub orders : new.ordered ≡ old.ordered
  -- Let through, it fails exactly where memory was wanting, and then nothing was done.
  pub passes : turn_of old ≡ Passes → HasCause old.starved new.starved result
  pub starved : turn_of old ≡ Passes → OnErr result (world_in new ≡ world_in old)
  -- Ordered to fail, it fails after its part, or after nothing where memory was wanting.
  pub fails : turn_of old ≡ Ordered → IsErr result
  pub ordered : turn_of old ≡ Ordered → IsDone part old new ⊎ IsStarved old new
  -- Past the fuse it fails after nothing.
  pub ends : turn_of old ≡ Spent → IsErr result
  pub idle : turn_of old ≡ Spent → IsDone (λ w. w) old new

-- A call of `Host` that fails after nothing, whatever its turn.
pub record Refuses {T E : Type 0} (old new : Memory) (result : Result T E) : Type 0 where
  pub calls : new.calls ≡ capped (old.calls + 1)
  pub fuse : new.fuse ≡ burnt old.fuse
  pub orders : new.ordered ≡ old.ordered
  pub fails : IsErr result
  pub idle : IsDone (λ w. w) old new

-- what is done of a change of names that was ordered to fail: the change exactly where the call's number is odd
abbrev pub if_odd : ℕ → (World → World) → World → World
if_odd number change w = cond (number % 2 == 1) (change w) w
