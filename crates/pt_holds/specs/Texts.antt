-- Texts that are added to files, by the names of these. In the shape of the code; nothing public cites them.
use Rattle.std.specs.Prelude.{◌≡◌, ◌⊎◌, ℕ, List, [], ◌++◌, cond, IsSome}
use Rattle.std.specs.List.{flat_map}
use Rattle.std.specs.Option.{unwrap_or}
use Rattle.std.specs.Str.{bytes_eq}
use Rattle.pt_host.specs.Disk.{Files}
use Rattle.pt_ast.specs.declared.database.Row.{Row}
use Rattle.pt_ast.specs.declared.database.Spot.{Spot}
use Rattle.pt_ast.specs.declared.table.TableDef.{TableDef}
use Rattle.pt_rowfile.specs.declared.record.Record.TheVariants.{Put, Delete}
use Rattle.pt_rowfile.specs.Records.{record_bytes}
use Rattle.pt_holds.specs.Holds.{spot_file}

-- the text of a name so far
abbrev pub text_at : Files → List ℕ → List ℕ
text_at texts query = unwrap_or (texts query) []

-- a text at one name
abbrev pub only_at : List ℕ → List ℕ → List ℕ → List ℕ
only_at name text query = cond (bytes_eq name query) text []

-- More is added to each text, and names come of which this holds.
pub record Adds (old new : Files) (more : List ℕ → List ℕ) (May : List ℕ → Type 0) : Type 0 where
  pub text : (query : List ℕ) → text_at new query ≡ text_at old query ++ more query
  pub names : (query : List ℕ) → IsSome (new query) → IsSome (old query) ⊎ May query

-- the records of deletes at the file of a name, and those of puts
abbrev pub deletes_text : List ℕ → TableDef → List (Spot × ℕ) → List ℕ → List ℕ
deletes_text name def deletes query = flat_map (λ delete. only_at (spot_file name def delete.0) (record_bytes (Delete delete.1)) query) deletes

abbrev pub puts_text : List ℕ → TableDef → List (Spot × Row) → List ℕ → List ℕ
puts_text name def puts query = flat_map (λ put. only_at (spot_file name def put.0) (record_bytes (Put put.1)) query) puts
