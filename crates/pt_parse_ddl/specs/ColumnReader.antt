-- The reading of columns and of what a table is stored by, as functions on lists of symbols. (In the shape of the code.)
use Rattle.std.specs.Prelude.{ℤ, List, ◌∷◌, Bool, true, false, Option, Some, None}
use Rattle.pt_value.specs.Text.{day_of}
use Rattle.pt_ast.specs.declared.tree.Cmp.TheVariants.{Eq}
use Rattle.pt_ast.specs.declared.written.Literal.{Literal}
use Rattle.pt_ast.specs.declared.written.Literal.TheVariants as literal
use Rattle.pt_ast.specs.declared.written.KindSpec.{KindSpec}
use Rattle.pt_ast.specs.declared.written.KindSpec.TheVariants as kind
use Rattle.pt_ast.specs.declared.written.ColOption.{ColOption}
use Rattle.pt_ast.specs.declared.written.ColOption.TheVariants as option
use Rattle.pt_parse_expr.specs.declared.alphabet.Mark.TheVariants.{Compare, Minus, Not, Null, Other, Plus}
use Rattle.pt_parse_expr.specs.declared.alphabet.Reserved.TheVariants as word
use Rattle.pt_parse_expr.specs.declared.alphabet.Symbol.TheVariants.{Fixed, Number, Text, Hex}
use Rattle.pt_parse_expr.specs.Grammar.{Symbols}
use Rattle.pt_parse_expr.specs.Reader.{Reader, mapped, or_else, many}
use Rattle.pt_parse_ddl.specs.declared.words.Keyword.TheVariants as keyword
use Rattle.pt_parse_ddl.specs.Columns.{kept}
use Rattle.pt_parse_ddl.specs.Steps.{and_then, optional, in_parens, named, numbered, worded}

-- ---- types

unfoldable pub past_set : Reader (Unit {0})
past_set (Fixed (Other word.Set) ∷ ts) = Some (tt, ts)
past_set _ = None

unfoldable pub charset : Reader (Unit {0})
charset (Fixed (Other word.Character) ∷ ts) = past_set ts
charset ts = worded keyword.Charset ts

-- a number's kind, with a display width or without
abbrev pub widened : KindSpec → Reader KindSpec
widened k ts = Some (k, (optional (in_parens numbered) ts).1)

unfoldable pub binary_chars : ℤ → Reader KindSpec
binary_chars n ts = and_then (charset ts) (λ u us. mapped (λ v. kind.Binary n) (worded keyword.Binary us))

abbrev pub binary : Reader KindSpec
binary ts = mapped kind.Binary (in_parens numbered ts)

abbrev pub chars : Reader KindSpec
chars ts = and_then (in_parens numbered ts) binary_chars

abbrev pub date_kind : Reader KindSpec
date_kind ts = mapped (λ u. kind.Date) (worded keyword.Date ts)

unfoldable pub kinded : Reader KindSpec
kinded (Fixed (Other word.Int) ∷ ts) = widened kind.Int ts
kinded (Fixed (Other word.Integer) ∷ ts) = widened kind.Int ts
kinded (Fixed (Other word.BigInt) ∷ ts) = widened kind.BigInt ts
kinded (Fixed (Other word.VarBinary) ∷ ts) = binary ts
kinded (Fixed (Other word.VarChar) ∷ ts) = chars ts
kinded ts = date_kind ts

-- ---- options of columns

abbrev pub signed : Bool → Reader Literal
signed is_minus ts = mapped (literal.Number is_minus) (numbered ts)

unfoldable pub dated : Reader Literal
dated (Text bytes ∷ ts) = Some (literal.Date (day_of bytes), ts)
dated _ = None

abbrev pub day : Reader Literal
day ts = and_then (worded keyword.Date ts) (λ u us. dated us)

unfoldable pub constant : Reader Literal
constant (Number n ∷ ts) = Some (literal.Number false n, ts)
constant (Fixed Plus ∷ ts) = signed false ts
constant (Fixed Minus ∷ ts) = signed true ts
constant (Text bytes ∷ ts) = Some (literal.Text bytes, ts)
constant (Hex bytes ∷ ts) = Some (literal.Hex bytes, ts)
constant (Fixed Null ∷ ts) = Some (literal.Null, ts)
constant ts = day ts

unfoldable pub past_key : Reader (Unit {0})
past_key (Fixed (Other word.Key) ∷ ts) = Some (tt, ts)
past_key _ = None

unfoldable pub past_null : Reader (Unit {0})
past_null (Fixed Null ∷ ts) = Some (tt, ts)
past_null _ = None

unfoldable pub past_text : Reader (Unit {0})
past_text (Text bytes ∷ ts) = Some (tt, ts)
past_text _ = None

abbrev pub not_null : Reader (Option ColOption)
not_null ts = mapped (λ u. Some option.NotNull) (past_null ts)

abbrev pub default : Reader (Option ColOption)
default ts = mapped (λ x. Some (option.Default x)) (constant ts)

abbrev pub primary : Reader (Option ColOption)
primary ts = mapped (λ u. Some option.Primary) (past_key ts)

abbrev pub remark : Reader (Option ColOption)
remark ts = and_then (worded keyword.Comment ts) (λ u us. mapped (λ v. None) (past_text us))

-- the option, which a comment is not
unfoldable pub col_option : Reader (Option ColOption)
col_option (Fixed Not ∷ ts) = not_null ts
col_option (Fixed Null ∷ ts) = Some (Some option.Null, ts)
col_option (Fixed (Other word.Default) ∷ ts) = default ts
col_option (Fixed (Other word.Primary) ∷ ts) = primary ts
col_option (Fixed (Other word.Unique) ∷ ts) = Some (Some option.Unique, (optional past_key ts).1)
col_option ts = remark ts

abbrev pub col_options : Symbols → List ColOption × Symbols
col_options ts = let more = many col_option ts in (kept more.0, more.1)

-- ---- options of tables and partitions

unfoldable pub equals : Reader (Unit {0})
equals (Fixed (Compare Eq) ∷ ts) = Some (tt, ts)
equals _ = None

abbrev pub past_equals : Symbols → Symbols
past_equals ts = (optional equals ts).1

-- [=] name
unfoldable pub equals_name : Reader (Unit {0})
equals_name ts = mapped (λ name. tt) (named (past_equals ts))

unfoldable pub engine : Reader (Unit {0})
engine ts = and_then (worded keyword.Engine ts) (λ u us. equals_name us)

unfoldable pub comment : Reader (Unit {0})
comment ts = and_then (worded keyword.Comment ts) (λ u us. past_text (past_equals us))

unfoldable pub table_charset : Reader (Unit {0})
table_charset ts = and_then (charset ts) (λ u us. equals_name us)

unfoldable pub part_option : Reader (Unit {0})
part_option ts = or_else (engine ts) (comment ts)

abbrev pub undefaulted : Reader (Unit {0})
undefaulted ts = or_else (part_option ts) (table_charset ts)

unfoldable pub table_option : Reader (Unit {0})
table_option (Fixed (Other word.Default) ∷ ts) = table_charset ts
table_option ts = undefaulted ts
