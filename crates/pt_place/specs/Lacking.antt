-- In the shape of the code: the keys that lack a column, rank by rank. Nothing public cites these.
use Rattle.std.specs.Prelude.{ℕ, Bool, true, not, ◌++◌, if◌then◌else◌, Option, Some, None}
use Rattle.std.specs.List.{list_all}
use Rattle.pt_ast.specs.declared.table.KeyDef.{KeyDef}
use Rattle.pt_ast.specs.declared.table.TableDef.{TableDef}
use Rattle.pt_ast.specs.declared.refusal.Refusal.{Refusal}
use Rattle.pt_ast.specs.declared.refusal.Refusal.TheVariants as refusal
use Rattle.pt_place.specs.First.{refused_if}
use Rattle.pt_place.specs.Checks.{has_column, is_primary_rank, is_unique_rank, key_arg}
use Rattle.pt_place.specs.Names.{columns_used}

-- a column that isn't there is no column to lack
abbrev pub has_place : KeyDef → Option ℕ → Bool
has_place key (Some number) = has_column key number
has_place key None = true

abbrev pub has_used : TableDef → KeyDef → Bool
has_used def key = list_all (has_column key) (columns_used def.columns def.by ++ columns_used def.columns def.sub)

abbrev pub lacks_used : TableDef → KeyDef → Option Refusal
lacks_used def key = refused_if (not (has_used def key)) (refusal.KeyNeedsColumns (key_arg key))

abbrev pub lacks_primary : TableDef → KeyDef → Option Refusal
lacks_primary def key = if is_primary_rank key.rank then lacks_used def key else None

abbrev pub lacks_unique : TableDef → KeyDef → Option Refusal
lacks_unique def key = if is_unique_rank key.rank then lacks_used def key else None
