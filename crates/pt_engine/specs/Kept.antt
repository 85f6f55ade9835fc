-- What a directory holds while a script is executed.
use Rattle.std.specs.Prelude.{◌⊎◌, ℕ, ◌+◌, ◌≤◌, List}
use Rattle.pt_host.specs.Disk.{Files, EachImage}
use Rattle.pt_host.specs.World.{World, Since}
use Rattle.pt_ast.specs.declared.database.Db.{Db}
use Rattle.pt_session.specs.Directory.{HoldsIn}
use Rattle.pt_engine.specs.Answers.{HoldsAfter, SaysWhole, SaysUpTo}

-- The directory holds the database after the first k statements, where of what was said since then the answers to k - 1 of
-- them are whole, and nothing is past the k-th's.
pub record IsInOrder (db : Db) (statements : List (List ℕ)) (before said : List ℕ) (files : Files) : Type 0 where
  pub k : ℕ
  pub holds : HoldsAfter (HoldsIn files) db statements k
  pub says : SaysUpTo db statements before said k

-- The headline: so is each image that a stop may leave, at each moment that was added.
abbrev pub KeepsInOrder : Db → List (List ℕ) → World → World → Type 0
KeepsInOrder db statements old new = Since old new (λ m. EachImage m.fs (IsInOrder db statements old.now.said m.said))

-- Behind what was said before, the answers to the first k statements are said and nothing else, and each image holds the
-- database after them.
pub record StandsAfter (db : Db) (statements : List (List ℕ)) (before : List ℕ) (new : World) (k : ℕ) : Type 0 where
  pub says : SaysWhole db statements before new.now.said k
  pub holds : EachImage new.now.fs (λ files. HoldsAfter (HoldsIn files) db statements k)

-- The same, where the next statement may be kept already.
pub record StandsKeeping (db : Db) (statements : List (List ℕ)) (before : List ℕ) (new : World) (k : ℕ) : Type 0 where
  pub says : SaysWhole db statements before new.now.said k
  pub holds : EachImage new.now.fs (λ files. HoldsAfter (HoldsIn files) db statements k ⊎ HoldsAfter (HoldsIn files) db statements (k + 1))

-- A part of the k-th answer is said, behind those before it, and each image holds the database after that statement.
pub record StandsSaying (db : Db) (statements : List (List ℕ)) (before : List ℕ) (new : World) (k : ℕ) : Type 0 where
  pub some : 1 ≤ k
  pub says : SaysUpTo db statements before new.now.said k
  pub holds : EachImage new.now.fs (λ files. HoldsAfter (HoldsIn files) db statements k)
