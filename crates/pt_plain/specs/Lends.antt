-- What a list ends as, where a `&mut` to one of its elements is returned.
use Rattle.std.specs.Prelude.{ℕ, List as Listed, slice_set}
use Rattle.std.specs.Borrow.{Lends, MutBor, Fml, RattleType}
use Rattle.pt_plain.specs.contracts.list.List.{the_row}

-- once the loan ends, the element at that place is the last one written through it
abbrev pub LendsItem : (T : RattleType) → MutBor (Listed T.Denot) → ℕ → MutBor T.Denot → Fml
LendsItem T list at item = Lends (the_row T) T list item (slice_set list.now at)
