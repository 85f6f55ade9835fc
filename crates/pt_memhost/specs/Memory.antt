-- A host in memory, as its callers see it.
use Rattle.std.specs.Prelude.{ℕ, ◌-◌, ◌^◌, min, List, [], Option, None}
use Rattle.pt_host.specs.Listed.{FileList}
use Rattle.pt_host.specs.World.{World}
use Rattle.pt_host.specs.Counts.{Counts}
use Rattle.pt_memhost.specs.Story.{Story, world_of}

pub record Memory : Type 0 where
  -- what it was given, and each call that moved its world on
  pub story : Story
  -- how many trait calls were made, and in how many memory was wanting
  pub calls : ℕ
  pub starved : ℕ
  -- how often the directory, the input and the output have failed
  pub counts : Counts
  -- the numbers of the calls that are to fail, counted from 0
  pub ordered : List ℕ
  -- how many more calls pass, where not all do
  pub fuse : Option ℕ

-- No call was made, and none is to fail.
abbrev pub fresh : FileList → List ℕ → Memory
fresh files input = record {
  story = record { files = files; input = input; events = [] };
  calls = 0;
  starved = 0;
  counts = record { disk = 0; input = 0; output = 0 };
  ordered = [];
  fuse = None;
}

abbrev pub world_in : Memory → World
world_in memory = world_of memory.story

-- a count that stays at its last value
abbrev pub capped : ℕ → ℕ
capped n = min n (2 ^ 64 - 1)
