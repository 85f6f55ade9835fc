-- What a host in memory holds of the world at present.
use Rattle.std.specs.Prelude.{◌≡◌, drop}
use Rattle.pt_host.specs.World.{World}
use Rattle.pt_memhost.specs.declared.state.State.{State}
use Rattle.pt_memhost.specs.Held.{fs_of}
use Rattle.pt_memhost.specs.Memory.{capped}

pub record Mirrors (w : World) (state : State) : Type 0 where
  pub input_is : w.input ≡ drop state.taken state.input
  pub said_is : w.now.said ≡ state.said.items
  pub fs_is : w.now.fs ≡ fs_of state.disk
  pub syncs_is : state.syncs ≡ capped w.now.syncs
  pub written_is : state.written ≡ capped w.now.bytes
