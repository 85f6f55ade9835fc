-- The reading of columns and keys of a table, as functions on lists of symbols. (In the shape of the code.)
use Rattle.std.specs.Prelude.{ℕ, List, ◌∷◌, Option, Some, None}
use Rattle.pt_ast.specs.declared.table.Rank.{Rank}
use Rattle.pt_ast.specs.declared.table.Rank.TheVariants as rank
use Rattle.pt_ast.specs.declared.written.KindSpec.{KindSpec}
use Rattle.pt_ast.specs.declared.written.Item.{Item}
use Rattle.pt_ast.specs.declared.written.Item.TheVariants as item
use Rattle.pt_parse_expr.specs.declared.alphabet.Mark.TheVariants.{Other}
use Rattle.pt_parse_expr.specs.declared.alphabet.Reserved.TheVariants as word
use Rattle.pt_parse_expr.specs.declared.alphabet.Symbol.TheVariants.{Fixed}
use Rattle.pt_parse_expr.specs.Grammar.{Symbols}
use Rattle.pt_parse_expr.specs.Reader.{Reading, Reader, mapped}
use Rattle.pt_parse_ddl.specs.Steps.{and_then, optional, tuple, named}
use Rattle.pt_parse_ddl.specs.ColumnReader.{kinded, col_options, past_key}

-- KEY | INDEX
unfoldable pub past_index : Reader (Unit {0})
past_index (Fixed (Other word.Key) ∷ ts) = Some (tt, ts)
past_index (Fixed (Other word.Index) ∷ ts) = Some (tt, ts)
past_index _ = None

-- [name] cols
abbrev pub keyed_by : Rank → Option (List ℕ) × Symbols → Reading Item
keyed_by rank p = mapped (item.Key rank p.0) (tuple named p.1)

unfoldable pub keyed : Rank → Reader Item
keyed rank ts = keyed_by rank (optional named ts)

-- [KEY | INDEX] and the key
abbrev pub unique : Reader Item
unique ts = keyed rank.Unique (optional past_index ts).1

unfoldable pub primary_key : Reader Item
primary_key ts = and_then (past_key ts) (λ u us. mapped (item.Key rank.Primary None) (tuple named us))

abbrev pub with_options : List ℕ → KindSpec → Symbols → Reading Item
with_options name kind ts = let options = col_options ts in Some (item.Column name kind options.0, options.1)

unfoldable pub column : Reader Item
column ts = and_then (named ts) (λ name us. and_then (kinded us) (with_options name))

unfoldable pub table_item : Reader Item
table_item (Fixed (Other word.Primary) ∷ ts) = primary_key ts
table_item (Fixed (Other word.Unique) ∷ ts) = unique ts
table_item (Fixed (Other word.Key) ∷ ts) = keyed rank.Plain ts
table_item (Fixed (Other word.Index) ∷ ts) = keyed rank.Plain ts
table_item ts = column ts
