-- The grammar of what a table has: columns and keys.
--
--     item    = name type {colopt} | PRIMARY KEY cols
--             | UNIQUE [KEY | INDEX] [name] cols | (KEY | INDEX) [name] cols
--     cols    = ( name {, name} )
--
-- After the manual's section 13.1.18, "CREATE TABLE Syntax".
use Rattle.std.specs.Prelude.{ℕ, List, ◌∷◌, Option, None}
use Rattle.pt_ast.specs.declared.table.Rank.TheVariants as rank
use Rattle.pt_ast.specs.declared.written.KindSpec.{KindSpec}
use Rattle.pt_ast.specs.declared.written.ColOption.{ColOption}
use Rattle.pt_ast.specs.declared.written.Item.{Item}
use Rattle.pt_ast.specs.declared.written.Item.TheVariants as item
use Rattle.pt_parse_expr.specs.declared.alphabet.Reserved.TheVariants as word
use Rattle.pt_parse_expr.specs.declared.alphabet.Symbol.{Symbol}
use Rattle.pt_parse_expr.specs.Grammar.{Symbols}
use Rattle.pt_parse_ddl.specs.Words.{the, IsName}
use Rattle.pt_parse_ddl.specs.Lists.{IsOptional, AreRepeated, InTuple}
use Rattle.pt_parse_ddl.specs.Columns.{IsKind, IsColOption, kept}

abbrev pub AreColumns : Symbols → List (List ℕ) → Symbols → Type 0
AreColumns = InTuple IsName

-- KEY | INDEX
pub data IsIndexWord : Symbol → Type 0 where
  key_word : IsIndexWord (the word.Key)
  index_word : IsIndexWord (the word.Index)

pub data IsItem : Symbols → Item → Symbols → Type 0 where
  column : {ts us vs rest : Symbols} {name : List ℕ} {kind : KindSpec} {options : List (Option ColOption)} → IsName ts name us → IsKind us kind vs
      → AreRepeated IsColOption vs options rest → IsItem ts (item.Column name kind (kept options)) rest
  primary_key : {ts rest : Symbols} {columns : List (List ℕ)} → AreColumns ts columns rest
      → IsItem (the word.Primary ∷ the word.Key ∷ ts) (item.Key rank.Primary None columns) rest
  unique_item : {ts us rest : Symbols} {name : Option (List ℕ)} {columns : List (List ℕ)} → IsOptional IsName ts name us → AreColumns us columns rest
      → IsItem (the word.Unique ∷ ts) (item.Key rank.Unique name columns) rest
  unique_index : {s : Symbol} {ts us rest : Symbols} {name : Option (List ℕ)} {columns : List (List ℕ)} → IsIndexWord s → IsOptional IsName ts name us
      → AreColumns us columns rest → IsItem (the word.Unique ∷ s ∷ ts) (item.Key rank.Unique name columns) rest
  plain_index : {s : Symbol} {ts us rest : Symbols} {name : Option (List ℕ)} {columns : List (List ℕ)} → IsIndexWord s → IsOptional IsName ts name us
      → AreColumns us columns rest → IsItem (s ∷ ts) (item.Key rank.Plain name columns) rest
