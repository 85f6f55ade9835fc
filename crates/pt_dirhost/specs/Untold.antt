-- A host that tells no content names this world at every moment. No clause says anything of it.
use Rattle.std.specs.Prelude.{[], ◌∷◌, None}
use Rattle.pt_host.specs.Disk.{empty_object}
use Rattle.pt_host.specs.World.{Moment, World}

abbrev pub untold_moment : Moment
untold_moment = record {
  fs = record { objects = λ _. empty_object; made = 0; names = λ _. None; pending = [] };
  said = [];
  looks = [];
  syncs = 0;
  bytes = 0;
}

abbrev pub untold : World
untold = record { dir = None; input = []; now = untold_moment; moments = untold_moment ∷ [] }
