-- Tests in the shape of the code.
use Rattle.std.specs.Prelude.{◌≡◌, ℕ, ◌≤◌, Bool, false, List, length, All, Contains}
use Rattle.std.specs.List.{list_any}
use Rattle.std.specs.Str.{bytes_eq}
use Rattle.pt_host.specs.Listed.{FileList}
use Rattle.pt_ddl_log.specs.declared.chain.Act.{Act}
use Rattle.pt_ddl_log.specs.declared.chain.Act.TheVariants.{Delete, Rename, Replace, Exchange}
use Rattle.pt_ddl_log.specs.Chain.{names_of}
use Rattle.pt_ddl_log.specs.Clean.{names_but_from}
use Rattle.pt_store.specs.Reshape.{Fits, Gives, fixed_names}

-- whether one of the files has the name
abbrev pub has_file : FileList → List ℕ → Bool
has_file files name = list_any (λ file. bytes_eq file.0 name) files

-- whether the act gives this name its bytes
abbrev pub gives : List ℕ → Act → Bool
gives name (Delete other) = false
gives name (Rename from to) = bytes_eq to name
gives name (Replace from to) = bytes_eq to name
gives name (Exchange a b) = false

-- whether one of the acts does
abbrev pub any_gives : List Act → List ℕ → Bool
any_gives acts name = list_any (gives name) acts

-- whether each directory has a file of this name
abbrev pub is_fixed : List ℕ → Bool
is_fixed name = list_any (bytes_eq name) fixed_names

-- One of the acts gives this name its bytes.
pub record IsGiven (acts : List Act) (name : List ℕ) : Type 0 where
  pub act : Act
  pub there : Contains acts act
  pub is : Gives name act

-- What a reshape asks of acts that are clean, and of fresh files whose names rise.
pub record MayBeDone (sizes : List (List ℕ × ℕ)) (fresh : FileList) (acts : List Act) : Type 0 where
  pub few : length acts ≤ 1000
  pub fit : All (Fits sizes fresh) acts
  pub given : All (λ file. IsGiven acts file.0) fresh
  pub free : All (λ act. All (λ name. is_fixed name ≡ false) (names_of act)) acts
  pub short : All (λ act. All (λ name. length name ≤ 154) (names_but_from act)) acts
