-- What a reader of the code returns, against what reading gives. Nothing public cites these.
use Rattle.std.specs.Prelude.{◌≡◌, ℕ, List, ◌++◌, Result, Ok, Err}
use Rattle.pt_defs.specs.Reading.{◌>>=◌, Read}
use Rattle.pt_defs.specs.declared.fault.Stop.{Stop}
use Rattle.pt_defs.specs.declared.fault.Stop.TheVariants as why
use Rattle.pt_defs.specs.declared.fault.DefRead.{DefRead}
use Rattle.pt_defs.specs.declared.fault.DefRead.TheVariants as told
use Rattle.pt_ast.specs.declared.table.TableDef.{TableDef}

-- an error is the one that reading gives, unless memory runs out
abbrev pub Fails : {B : Type 0} → Stop → Result B ℕ → Type 0
Fails why.NoMemory read = Unit {0}
Fails (why.Left left) read = read ≡ Err left

-- what is returned, as it is viewed, is what reading gives
abbrev pub Gives : {A B : Type 0} → (A → B) → Result A Stop → Result B ℕ → Type 0
Gives view (Ok x) read = read ≡ Ok (view x)
Gives view (Err stop) read = Fails stop read

-- what was read before, and what is still read
abbrev pub with_front : {A : Type 0} → List A → Read (List A) → Read (List A)
with_front front read = read >>= λ x. Ok (front ++ x.0, x.1)

-- the definition, or the place where the bytes can't be read, unless memory runs out
abbrev pub Tells : Result TableDef DefRead → Result TableDef ℕ → Type 0
Tells (Ok def) read = read ≡ Ok def
Tells (Err (told.Bad place)) read = read ≡ Err place
Tells (Err told.NoMemory) read = Unit {0}
