-- The chains that a directory may be changed by.
use Rattle.std.specs.Prelude.{◌≡◌, ◌≢◌, ℕ, Bool, true, false, List, [], ◌∷◌, length, All, AllPairs, Contains, IsTrue}
use Rattle.std.specs.List.{list_any}
use Rattle.pt_host.specs.Name.{is_extra}
use Rattle.pt_ddl_log.specs.declared.chain.Act.{Act}
use Rattle.pt_ddl_log.specs.declared.chain.Act.TheVariants.{Delete, Rename, Replace, Exchange}
use Rattle.pt_ddl_log.specs.declared.chain.Chain.{Chain}
use Rattle.pt_ddl_log.specs.Chain.{names_of}

-- No name stands in both.
abbrev pub AreApart : Act → Act → Type 0
AreApart a b = (name : List ℕ) → Contains (names_of a) name → Contains (names_of b) name → ⊥

-- the names of an act but its `from`
abbrev pub names_but_from : Act → List (List ℕ)
names_but_from (Delete name) = name ∷ []
names_but_from (Rename from to) = to ∷ []
names_but_from (Replace from to) = to ∷ []
names_but_from (Exchange a b) = a ∷ b ∷ []

-- A name that ends in `.new` or `.swap` stands as `from` alone.
abbrev pub IsLasting : Act → Type 0
IsLasting act = All (λ name. is_extra name ≡ false) (names_but_from act)

abbrev pub is_exchange : Act → Bool
is_exchange (Exchange a b) = true
is_exchange (Delete name) = false
is_exchange (Rename from to) = false
is_exchange (Replace from to) = false

-- An exchange has two different names.
abbrev pub HasTwo : Act → Type 0
HasTwo (Exchange a b) = a ≢ b
HasTwo (Delete name) = Unit {0}
HasTwo (Rename from to) = Unit {0}
HasTwo (Replace from to) = Unit {0}

-- No name stands in two acts, a name that ends in `.new` or `.swap` stands as `from` alone, and an exchange has two different
-- names and is the only act.
pub record IsClean (chain : Chain) : Type 0 where
  pub apart : AllPairs AreApart chain.acts
  pub lasting : All IsLasting chain.acts
  pub two : All HasTwo chain.acts
  pub alone : IsTrue (list_any is_exchange chain.acts) → length chain.acts ≡ 1
