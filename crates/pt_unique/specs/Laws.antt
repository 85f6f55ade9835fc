-- What the definitions come to. It is proved.
use Rattle.std.specs.Prelude.{◌≡◌, ℕ, List}
use Rattle.pt_value.specs.declared.value.Value.{Value}
use Rattle.pt_ast.specs.Keys.{agree_on}
use Rattle.pt_unique.specs.Book.{entry_of, shares}

-- The entries of two rows agree exactly where the rows' cells agree on one of the keys.
abbrev pub Agreeing : Type 0
Agreeing = (keys : List (List ℕ)) (a b : List Value) → shares (entry_of keys a) (entry_of keys b) ≡ agree_on keys a b
