-- What the definitions come to. Each is proved.
use Rattle.std.specs.Prelude.{◌≡◌, ℕ, ◌<◌, true, List, length, slice_index_or, None}
use Rattle.std.specs.declared.cmp.Ordering.TheVariants.{Equal}
use Rattle.pt_ast.specs.declared.table.Bound.{Bound}
use Rattle.pt_ast.specs.declared.table.PartDef.{PartDef}
use Rattle.pt_ast.specs.Bounds.{tuple_cmp}
use Rattle.pt_ast.specs.Lists.{has_tuple, list_fault}

-- none but equal tuples tie
abbrev pub OneTuple : Type 0
OneTuple = (a b : List Bound) → tuple_cmp a b ≡ Equal → a ≡ b

-- where no value stands twice, no two partitions have the same tuple
abbrev pub OneList : Type 0
OneList =
    (parts : List PartDef) (tuple : List Bound) (i j : ℕ) (part : PartDef) → list_fault parts ≡ None → i < j → j < length parts →
    has_tuple tuple (slice_index_or parts i part) ≡ true → has_tuple tuple (slice_index_or parts j part) ≡ true → ⊥
