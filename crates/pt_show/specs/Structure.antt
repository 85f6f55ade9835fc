-- Which tables have the same structure, so that a partition of one may be exchanged with the other. MySQL 5.7 manual, section 22.3.3,
-- "Exchanging Partitions and Subpartitions with Tables".
use Rattle.std.specs.Prelude.{ℕ, ◌+◌, Bool, ◌&&◌, ◌==◌, nat_eq, if◌then◌else◌, List, [], ◌∷◌}
use Rattle.std.specs.Str.{str_eq_ignore_ascii_case}
use Rattle.std.specs.Cmp.Lexicographic.{pointwise}
use Rattle.pt_value.specs.declared.value.Kind.{Kind}
use Rattle.pt_value.specs.declared.value.Kind.TheVariants as kind
use Rattle.pt_ast.specs.declared.table.Column.{Column}
use Rattle.pt_ast.specs.declared.table.Rank.{Rank}
use Rattle.pt_ast.specs.declared.table.Rank.TheVariants as rank
use Rattle.pt_ast.specs.declared.table.KeyDef.{KeyDef}
use Rattle.pt_ast.specs.declared.table.TableDef.{TableDef}
use Rattle.pt_defs.specs.Spelling.{flag, rank_code}

-- a type as a number: two types have the same one exactly where they are the same, the greatest length of a VARBINARY counted
abbrev pub kind_code : Kind → ℕ
kind_code kind.Int = 1
kind_code kind.BigInt = 2
kind_code kind.Date = 3
kind_code (kind.Binary most) = 4 + most

-- the same column: its name but for case, its type, and NULL or NOT NULL
abbrev pub same_column : Column → Column → Bool
same_column a b = str_eq_ignore_ascii_case a.name b.name && (kind_code a.kind == kind_code b.kind && flag a.not_null == flag b.not_null)

-- the columns of the keys of a rank, key by key in the order of the definition
unfoldable pub columns_of : Rank → List KeyDef → List (List ℕ)
columns_of wanted [] = []
columns_of wanted (key ∷ keys) = if rank_code key.rank == rank_code wanted then key.columns ∷ columns_of wanted keys else columns_of wanted keys

-- the same lists of columns, key by key
abbrev pub same_keys : Rank → List KeyDef → List KeyDef → Bool
same_keys wanted a b = pointwise (pointwise nat_eq) (columns_of wanted a) (columns_of wanted b)

-- The same columns in order, the same columns of the primary key, and the same list of unique keys. Plain keys, names of keys and
-- defaults aren't looked at.
abbrev pub same_structure : TableDef → TableDef → Bool
same_structure a b = pointwise same_column a.columns b.columns && (same_keys rank.Primary a.keys b.keys && same_keys rank.Unique a.keys b.keys)
