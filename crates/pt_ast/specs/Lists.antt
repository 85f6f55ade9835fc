-- LIST and LIST COLUMNS. MySQL 5.7 manual, section 22.2.2, "LIST Partitioning"; section 22.2.3.2, "LIST COLUMNS partitioning"; and
-- section 22.2.7, "How MySQL Partitioning Handles NULL".
use Rattle.std.specs.Prelude.{ℕ, Bool, false, ◌||◌, List, [], ◌∷◌, ◌++◌, map, length, take, slice_index_or, Option}
use Rattle.std.specs.List.{list_any, flat_map, position, range_with_len}
use Rattle.std.specs.Ordering.{is_eq}
use Rattle.pt_value.specs.declared.value.Value.{Value}
use Rattle.pt_ast.specs.declared.table.Bound.{Bound}
use Rattle.pt_ast.specs.declared.table.Bound.TheVariants.{Val}
use Rattle.pt_ast.specs.declared.table.PartDef.{PartDef}
use Rattle.pt_ast.specs.Bounds.{tuple_cmp}

-- a tuple stands among these: NULL is equal to NULL
abbrev pub stands_among : List (List Bound) → List Bound → Bool
stands_among tuples tuple = list_any (λ other. is_eq (tuple_cmp other tuple)) tuples

-- the partition's list has the tuple
abbrev pub has_tuple : List Bound → PartDef → Bool
has_tuple tuple part = stands_among part.bounds tuple

-- LIST and LIST COLUMNS: the first partition whose list has the values
abbrev pub list_part : List PartDef → List Value → Option ℕ
list_part parts values = position (has_tuple (map Val values)) parts

-- ---- which lists a table may have

-- some tuple of a list stands before, among those or earlier in the list
abbrev pub repeats : List (List Bound) → List (List Bound) → Bool
repeats before [] = false
repeats before (tuple ∷ tuples) = stands_among before tuple || repeats (before ++ tuple ∷ []) tuples

-- all tuples of the lists, in their order
abbrev pub entries : List PartDef → List (List Bound)
entries parts = flat_map (λ part. part.bounds) parts

-- some tuple of the list i stands before, in an earlier list or earlier in its own
abbrev pub is_list_fault : List PartDef → ℕ → Bool
is_list_fault parts i = repeats (entries (take i parts)) (slice_index_or (map (λ part. part.bounds) parts) i [])

-- the first position with a value that stands already
abbrev pub list_fault : List PartDef → Option ℕ
list_fault parts = position (is_list_fault parts) (range_with_len 0 (length parts))
