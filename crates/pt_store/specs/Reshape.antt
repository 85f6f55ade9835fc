-- What a reshape asks, and what it makes of a map.
use Rattle.std.specs.Prelude.{◌≡◌, ◌≢◌, false, true, ℕ, ◌<◌, ◌≤◌, ◌^◌, List, [], ◌∷◌, ◌++◌, length, cond, All, AllPairs, Contains, IsSome, Some, None, is_some, codes}
use Rattle.std.specs.Option.{option_map}
use Rattle.pt_host.specs.Disk.{Files, put}
use Rattle.pt_host.specs.Name.{is_extra, shadow_end}
use Rattle.pt_host.specs.Images.{AreSame}
use Rattle.pt_host.specs.Listed.{FileList, AreRising, by_name}
use Rattle.pt_ddl_log.specs.declared.chain.Act.{Act}
use Rattle.pt_ddl_log.specs.declared.chain.Act.TheVariants.{Delete, Rename, Replace, Exchange}
use Rattle.pt_ddl_log.specs.declared.chain.Chain.{Chain}
use Rattle.pt_ddl_log.specs.Chain.{act_on, names_of}
use Rattle.pt_ddl_log.specs.Clean.{IsClean, names_but_from}
use Rattle.pt_store.specs.Entries.{length_in}
use Rattle.pt_left.specs.Left.{serials_name}

-- files, and the fresh bytes of each name under its shadow
abbrev pub with_shadows : FileList → Files → Files
with_shadows [] files = files
with_shadows (file ∷ fresh) files = with_shadows fresh (put files (file.0 ++ shadow_end) (Some file.1))

-- files, but those whose names end in `.new` or `.swap`
abbrev pub without_extra : Files → Files
without_extra files query = cond (is_extra query) None (files query)

-- What the acts make of a map with the fresh bytes under their shadows.
abbrev pub reshaped : FileList → Chain → Files → Files
reshaped fresh chain files = without_extra (act_on chain.acts (with_shadows fresh files))

-- The list of files that it makes of a map, name by name.
pub record IsReshaped (fresh : FileList) (chain : Chain) (map next : FileList) : Type 0 where
  pub rising : AreRising next
  pub files : AreSame (reshaped fresh chain (by_name map)) (by_name next)

-- names that are held, with no bytes
abbrev pub held : List (List ℕ × ℕ) → Files
held sizes query = option_map (λ size. []) (length_in sizes query)

-- Over every host: the files rise, and their names are those that the acts make of the names that were held.
pub record HasNames (sizes : List (List ℕ × ℕ)) (fresh : FileList) (chain : Chain) (next : FileList) : Type 0 where
  pub rising : AreRising next
  pub names : (name : List ℕ) → is_some (by_name next name) ≡ is_some (reshaped fresh chain (held sizes) name)

-- A fresh name gets its bytes from its shadow.
pub record IsFresh (fresh : FileList) (from to : List ℕ) : Type 0 where
  pub shadow : from ≡ to ++ shadow_end
  pub bytes : IsSome (by_name fresh to)

-- The act may be done to a map that holds such names: what it puts there is fresh; a rename makes a name that isn't held, every
-- other act speaks of names that are.
abbrev pub Fits : List (List ℕ × ℕ) → FileList → Act → Type 0
Fits sizes fresh (Delete name) = IsSome (length_in sizes name)
Fits sizes fresh (Rename from to) = IsFresh fresh from to × (length_in sizes to ≡ None)
Fits sizes fresh (Replace from to) = IsFresh fresh from to × IsSome (length_in sizes to)
Fits sizes fresh (Exchange a b) = IsSome (length_in sizes a) × IsSome (length_in sizes b)

-- the act gives this name its bytes
abbrev pub Gives : List ℕ → Act → Type 0
Gives name (Delete other) = ⊥
Gives name (Rename from to) = to ≡ name
Gives name (Replace from to) = to ≡ name
Gives name (Exchange a b) = ⊥

-- the files that each directory has, which no act names
abbrev pub fixed_names : List (List ℕ)
fixed_names = serials_name ∷ codes "row_journal.log" ∷ codes "ddl_log.log" ∷ []

-- The chain is clean and each of its acts may be done; the fresh names are distinct, and each is given by one act. No name of
-- it is a fixed one, and each leaves room for the end of a shadow's name.
pub record IsReshape (sizes : List (List ℕ × ℕ)) (fresh : FileList) (chain : Chain) : Type 0 where
  pub clean : IsClean chain
  pub few : length chain.acts < 2 ^ 32
  pub fit : All (Fits sizes fresh) chain.acts
  pub distinct : AllPairs (λ a b. a.0 ≢ b.0) fresh
  pub given : All (λ file. (act : Act) × Contains chain.acts act × Gives file.0 act) fresh
  pub free : All (λ act. All (λ name. Contains fixed_names name → ⊥) (names_of act)) chain.acts
  pub short : All (λ act. All (λ name. length name ≤ 154) (names_but_from act)) chain.acts

-- What a reshape makes of a map, name by name: nothing of an extra name and of a deleted one, the fresh bytes of a fresh one,
-- each other's bytes of two that are exchanged, and what was there of any other.
pub record ReshapesByName (fresh : FileList) (chain : Chain) (files : Files) : Type 0 where
  pub extra : (name : List ℕ) → is_extra name ≡ true → reshaped fresh chain files name ≡ None
  pub deleted : (name : List ℕ) → Contains chain.acts (Delete name) → reshaped fresh chain files name ≡ None
  pub given : (name bytes : List ℕ) → by_name fresh name ≡ Some bytes → reshaped fresh chain files name ≡ Some bytes
  pub exchanged : (a b : List ℕ) → Contains chain.acts (Exchange a b) → (reshaped fresh chain files a ≡ files b) × (reshaped fresh chain files b ≡ files a)
  pub others : (name : List ℕ) → is_extra name ≡ false → ((act : Act) → Contains chain.acts act → Contains (names_of act) name → ⊥) → reshaped fresh chain files name ≡ files name

abbrev pub EachName : Type 0
EachName = (sizes : List (List ℕ × ℕ)) (fresh : FileList) (chain : Chain) (files : Files) → IsReshape sizes fresh chain → ReshapesByName fresh chain files
