-- RANGE and RANGE COLUMNS. MySQL 5.7 manual, section 22.2.1, "RANGE Partitioning"; section 22.2.3.1, "RANGE COLUMNS partitioning";
-- and section 22.2.7, "How MySQL Partitioning Handles NULL".
use Rattle.std.specs.Prelude.{ℕ, ◌+◌, ◌-◌, Bool, not, ◌&&◌, ◌||◌, nat_lt, if◌then◌else◌, ℤ, List, [], ◌∷◌, map, length, slice_index_or, Option, Some, None}
use Rattle.std.specs.List.{list_all, position, range_with_len}
use Rattle.std.specs.Option.{option_map}
use Rattle.std.specs.Ordering.{is_gt}
use Rattle.pt_value.specs.declared.value.Value.{Value}
use Rattle.pt_value.specs.declared.value.Value.TheVariants.{Int}
use Rattle.pt_ast.specs.declared.table.Bound.{Bound}
use Rattle.pt_ast.specs.declared.table.Bound.TheVariants.{Val}
use Rattle.pt_ast.specs.declared.table.PartDef.{PartDef}
use Rattle.pt_ast.specs.Bounds.{tuple_cmp, is_max}

-- the bound of a range: it has this one tuple
abbrev pub only : List (List Bound) → List Bound
only [] = []
only (tuple ∷ tuples) = tuple

abbrev pub bound_of : PartDef → List Bound
bound_of part = only part.bounds

-- the partition's bound is above a tuple
abbrev pub is_above : List Bound → PartDef → Bool
is_above tuple part = is_gt (tuple_cmp (bound_of part) tuple)

-- RANGE COLUMNS: the first partition whose bound is above the values
abbrev pub range_columns_part : List PartDef → List Value → Option ℕ
range_columns_part parts values = position (is_above (map Val values)) parts

-- RANGE: NULL goes to the first partition, and a number to the first whose bound is above it
abbrev pub range_part : List PartDef → Option ℤ → Option ℕ
range_part [] None = None
range_part (part ∷ parts) None = Some 0
range_part parts (Some number) = range_columns_part parts (Int number ∷ [])

-- ---- which bounds a table may have

-- MAXVALUE in all columns, and not the last one
abbrev pub is_early_max : List (List Bound) → ℕ → Bool
is_early_max bounds i = list_all is_max (slice_index_or bounds i []) && nat_lt (i + 1) (length bounds)

-- not above the one before
abbrev pub is_low : List (List Bound) → ℕ → Bool
is_low bounds i = nat_lt 0 i && not (is_gt (tuple_cmp (slice_index_or bounds i []) (slice_index_or bounds (i - 1) [])))

abbrev pub is_range_fault : List (List Bound) → ℕ → Bool
is_range_fault bounds i = is_early_max bounds i || is_low bounds i

-- The first position with a fault, and its code: 31 for a MAXVALUE that isn't the last, else 30
abbrev pub fault_code : List (List Bound) → ℕ → ℕ × ℕ
fault_code bounds i = (i, if is_early_max bounds i then 31 else 30)

abbrev pub bounds_fault : List (List Bound) → Option (ℕ × ℕ)
bounds_fault bounds = option_map (fault_code bounds) (position (is_range_fault bounds) (range_with_len 0 (length bounds)))

abbrev pub range_fault : List PartDef → Option (ℕ × ℕ)
range_fault parts = bounds_fault (map bound_of parts)
