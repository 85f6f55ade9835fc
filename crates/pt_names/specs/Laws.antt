-- What the names come to. Each is proved.
use Rattle.std.specs.Prelude.{◌≡◌, ℕ, List, Option, IfSome}
use Rattle.std.specs.Option.{option_map}
use Rattle.pt_value.specs.Ident.{IsIdent}
use Rattle.pt_names.specs.declared.owner.Owner.{Owner}
use Rattle.pt_names.specs.declared.owner.Owner.TheVariants.{Def, Row}
use Rattle.pt_names.specs.Names.{IsOwner, def_name, lowered, row_name}

pub record OneOwner : Type 0 where
  -- a definition's file has one name a table, and is told as that table's
  pub defs : (a b : List ℕ) → def_name a ≡ def_name b → a ≡ b
  pub def_owned : (table : List ℕ) (owner : Owner) → IsIdent table → IsOwner (def_name table) owner → owner ≡ Def table
  -- a row file has one name a table and partition, partitions compared without case, and is told as theirs
  pub rows : (a b : List ℕ) (l m : Option (List ℕ)) → IsIdent a → IsIdent b → IfSome l IsIdent → IfSome m IsIdent → row_name a l ≡ row_name b m
      → (a ≡ b) × (option_map lowered l ≡ option_map lowered m)
  pub row_owned : (table : List ℕ) (leaf : Option (List ℕ)) (owner : Owner) → IsIdent table → IfSome leaf IsIdent → IsOwner (row_name table leaf) owner
      → owner ≡ Row table (option_map lowered leaf)
  -- no name is that of a definition and of rows
  pub apart : (a b : List ℕ) (leaf : Option (List ℕ)) → def_name a ≡ row_name b leaf → ⊥
