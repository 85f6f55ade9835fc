-- Two theorems on clean chains.
use Rattle.std.specs.Prelude.{◌≡◌, ℕ, List, Contains}
use Rattle.std.specs.List.Sorted.{IsPermutation}
use Rattle.pt_host.specs.Disk.{Files}
use Rattle.pt_ddl_log.specs.declared.chain.Act.{Act}
use Rattle.pt_ddl_log.specs.declared.chain.Chain.{Chain}
use Rattle.pt_ddl_log.specs.Chain.{names_of, after_act, act_on}
use Rattle.pt_ddl_log.specs.Clean.{IsClean}

-- What acts make of files, name by name: what the one act makes of a name in which it stands, and nothing of any other name.
pub record ActsByName (acts : List Act) (files : Files) : Type 0 where
  pub here : (act : Act) (name : List ℕ) → Contains acts act → Contains (names_of act) name → act_on acts files name ≡ after_act act files name
  pub others : (name : List ℕ) → ((act : Act) → Contains acts act → Contains (names_of act) name → ⊥) → act_on acts files name ≡ files name

-- A clean chain is a function from names to acts.
abbrev pub OneActEach : Type 0
OneActEach = (chain : Chain) (files : Files) → IsClean chain → ActsByName chain.acts files

-- The order of the acts of a clean chain plays no part.
abbrev pub InAnyOrder : Type 0
InAnyOrder = (chain : Chain) (acts : List Act) (files : Files) (name : List ℕ) → IsClean chain → IsPermutation chain.acts acts → act_on acts files name ≡ act_on chain.acts files name
