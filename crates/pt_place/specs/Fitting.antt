-- Which values a column, a bound or a list value may have, as tests.
use Rattle.std.specs.Prelude.{ℕ, pos, neg_ℤ, int_le, Bool, true, false, ◌&&◌, nat_le, List, map, length, slice_index_or, [], ◌∷◌}
use Rattle.pt_value.specs.Fits.{fits_date}
use Rattle.pt_value.specs.declared.value.Value.{Value}
use Rattle.pt_value.specs.declared.value.Value.TheVariants as value
use Rattle.pt_value.specs.declared.value.Kind.{Kind}
use Rattle.pt_value.specs.declared.value.Kind.TheVariants as kind
use Rattle.pt_ast.specs.declared.table.Column.{Column}
use Rattle.pt_ast.specs.declared.table.PartBy.{PartBy}
use Rattle.pt_ast.specs.declared.table.PartBy.TheVariants as by

-- the value is of the column's kind, however large: NULL has every kind
abbrev pub is_of_kind : Kind → Value → Bool
is_of_kind k value.Null = true
is_of_kind kind.Int (value.Int n) = true
is_of_kind kind.BigInt (value.Int n) = true
is_of_kind kind.Date (value.Day day) = true
is_of_kind (kind.Binary most) (value.Bytes bytes) = true
is_of_kind _ _ = false

-- a value of the kind that isn't too large for it
abbrev pub is_in_range : Kind → Value → Bool
is_in_range kind.Int (value.Int n) = int_le (neg_ℤ (pos 2_147_483_648)) n && int_le n (pos 2_147_483_647)
is_in_range kind.BigInt (value.Int n) = int_le (neg_ℤ (pos 9_223_372_036_854_775_808)) n && int_le n (pos 9_223_372_036_854_775_807)
is_in_range kind.Date (value.Day day) = fits_date day
is_in_range (kind.Binary most) (value.Bytes bytes) = nat_le (length bytes) most
is_in_range _ _ = true

-- the kind of the column at a position
abbrev pub kind_at : List Column → ℕ → Kind
kind_at columns number = slice_index_or (map (λ column. column.kind) columns) number kind.BigInt

-- the kind of each item of a bound or a list value: under COLUMNS that of its column, and else an integer that fits BIGINT
abbrev pub kinds_of : List Column → PartBy → List Kind
kinds_of columns (by.Range expr) = kind.BigInt ∷ []
kinds_of columns (by.List expr) = kind.BigInt ∷ []
kinds_of columns (by.RangeColumns numbers) = map (kind_at columns) numbers
kinds_of columns (by.ListColumns numbers) = map (kind_at columns) numbers
kinds_of columns _ = []
