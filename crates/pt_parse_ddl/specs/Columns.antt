-- The grammar of columns and of what a table is stored by.
--
--     type    = (INT | INTEGER | BIGINT) [( n )] | DATE | VARBINARY ( n )
--             | VARCHAR ( n ) (CHARACTER SET | CHARSET) BINARY
--     colopt  = NOT NULL | NULL | DEFAULT literal | PRIMARY KEY | UNIQUE [KEY] | COMMENT s
--     literal = [+ | -] n | s | Hex | DATE s | NULL
--     option  = ENGINE [=] name | [DEFAULT] (CHARSET | CHARACTER SET) [=] name | COMMENT [=] s
--
-- After the manual's section 13.1.18, "CREATE TABLE Syntax". Display widths, comments, engines and the character set of a table have
-- no part in a tree.
use Rattle.std.specs.Prelude.{ℕ, ℤ, List, [], ◌∷◌, Bool, false, Option, Some, None}
use Rattle.pt_value.specs.Text.{day_of}
use Rattle.pt_ast.specs.declared.tree.Cmp.TheVariants.{Eq}
use Rattle.pt_ast.specs.declared.written.Literal.{Literal}
use Rattle.pt_ast.specs.declared.written.Literal.TheVariants as literal
use Rattle.pt_ast.specs.declared.written.KindSpec.{KindSpec}
use Rattle.pt_ast.specs.declared.written.KindSpec.TheVariants as kind
use Rattle.pt_ast.specs.declared.written.ColOption.{ColOption}
use Rattle.pt_ast.specs.declared.written.ColOption.TheVariants as option
use Rattle.pt_parse_expr.specs.declared.alphabet.Mark.TheVariants.{Compare, Not, Null}
use Rattle.pt_parse_expr.specs.declared.alphabet.Reserved.TheVariants as word
use Rattle.pt_parse_expr.specs.declared.alphabet.Symbol.{Symbol}
use Rattle.pt_parse_expr.specs.declared.alphabet.Symbol.TheVariants.{Fixed, Number, Text, Hex}
use Rattle.pt_parse_expr.specs.Grammar.{Symbols, IsSign}
use Rattle.pt_parse_ddl.specs.declared.words.Keyword.TheVariants as keyword
use Rattle.pt_parse_ddl.specs.Words.{the, IsName, IsWord}
use Rattle.pt_parse_ddl.specs.Lists.{IsOptional, InParens}

-- ---- types

pub data IsNumber : Symbols → ℤ → Symbols → Type 0 where
  number : {rest : Symbols} {n : ℤ} → IsNumber (Number n ∷ rest) n rest

-- CHARACTER SET | CHARSET
pub data IsCharset : Symbols → Unit {0} → Symbols → Type 0 where
  character_set : {rest : Symbols} → IsCharset (the word.Character ∷ the word.Set ∷ rest) tt rest
  charset : {ts rest : Symbols} → IsWord keyword.Charset ts tt rest → IsCharset ts tt rest

pub data IsKind : Symbols → KindSpec → Symbols → Type 0 where
  int : {ts rest : Symbols} {width : Option ℤ} → IsOptional (InParens IsNumber) ts width rest → IsKind (the word.Int ∷ ts) kind.Int rest
  integer : {ts rest : Symbols} {width : Option ℤ} → IsOptional (InParens IsNumber) ts width rest → IsKind (the word.Integer ∷ ts) kind.Int rest
  big_int : {ts rest : Symbols} {width : Option ℤ} → IsOptional (InParens IsNumber) ts width rest → IsKind (the word.BigInt ∷ ts) kind.BigInt rest
  date : {ts rest : Symbols} → IsWord keyword.Date ts tt rest → IsKind ts kind.Date rest
  var_binary : {ts rest : Symbols} {n : ℤ} → InParens IsNumber ts n rest → IsKind (the word.VarBinary ∷ ts) (kind.Binary n) rest
  var_char : {ts us vs rest : Symbols} {n : ℤ} → InParens IsNumber ts n us → IsCharset us tt vs → IsWord keyword.Binary vs tt rest
      → IsKind (the word.VarChar ∷ ts) (kind.Binary n) rest

-- ---- options of columns

-- the number is true for minus
pub data IsLiteral : Symbols → Literal → Symbols → Type 0 where
  unsigned : {rest : Symbols} {n : ℤ} → IsLiteral (Number n ∷ rest) (literal.Number false n) rest
  signed : {s : Symbol} {rest : Symbols} {is_minus : Bool} {n : ℤ} → IsSign s is_minus → IsLiteral (s ∷ Number n ∷ rest) (literal.Number is_minus n) rest
  text : {rest : Symbols} {bytes : List ℕ} → IsLiteral (Text bytes ∷ rest) (literal.Text bytes) rest
  hex : {rest : Symbols} {bytes : List ℕ} → IsLiteral (Hex bytes ∷ rest) (literal.Hex bytes) rest
  day : {ts rest : Symbols} {bytes : List ℕ} → IsWord keyword.Date ts tt (Text bytes ∷ rest) → IsLiteral ts (literal.Date (day_of bytes)) rest
  null_literal : {rest : Symbols} → IsLiteral (Fixed Null ∷ rest) literal.Null rest

-- an option of a column; a comment is none
pub data IsColOption : Symbols → Option ColOption → Symbols → Type 0 where
  not_null : {rest : Symbols} → IsColOption (Fixed Not ∷ Fixed Null ∷ rest) (Some option.NotNull) rest
  null : {rest : Symbols} → IsColOption (Fixed Null ∷ rest) (Some option.Null) rest
  default : {ts rest : Symbols} {x : Literal} → IsLiteral ts x rest → IsColOption (the word.Default ∷ ts) (Some (option.Default x)) rest
  primary : {rest : Symbols} → IsColOption (the word.Primary ∷ the word.Key ∷ rest) (Some option.Primary) rest
  unique : {rest : Symbols} → IsColOption (the word.Unique ∷ rest) (Some option.Unique) rest
  unique_key : {rest : Symbols} → IsColOption (the word.Unique ∷ the word.Key ∷ rest) (Some option.Unique) rest
  remark : {ts rest : Symbols} {bytes : List ℕ} → IsWord keyword.Comment ts tt (Text bytes ∷ rest) → IsColOption ts None rest

-- those that are there
abbrev pub kept : {A : Type 0} → List (Option A) → List A
kept [] = []
kept (None ∷ xs) = kept xs
kept (Some x ∷ xs) = x ∷ kept xs

-- ---- options of tables and partitions

-- [=]
pub data IsEquals : Symbols → Unit {0} → Symbols → Type 0 where
  without : {ts : Symbols} → IsEquals ts tt ts
  equals : {rest : Symbols} → IsEquals (Fixed (Compare Eq) ∷ rest) tt rest

-- ENGINE [=] name
pub data IsEngine : Symbols → Unit {0} → Symbols → Type 0 where
  engine : {ts us vs rest : Symbols} {name : List ℕ} → IsWord keyword.Engine ts tt us → IsEquals us tt vs → IsName vs name rest → IsEngine ts tt rest

-- COMMENT [=] s
pub data IsComment : Symbols → Unit {0} → Symbols → Type 0 where
  comment : {ts us rest : Symbols} {bytes : List ℕ} → IsWord keyword.Comment ts tt us → IsEquals us tt (Text bytes ∷ rest) → IsComment ts tt rest

-- (CHARSET | CHARACTER SET) [=] name
pub data IsTableCharset : Symbols → Unit {0} → Symbols → Type 0 where
  table_charset : {ts us vs rest : Symbols} {name : List ℕ} → IsCharset ts tt us → IsEquals us tt vs → IsName vs name rest → IsTableCharset ts tt rest

pub data IsTableOption : Symbols → Unit {0} → Symbols → Type 0 where
  of_engine : {ts rest : Symbols} → IsEngine ts tt rest → IsTableOption ts tt rest
  of_charset : {ts rest : Symbols} → IsTableCharset ts tt rest → IsTableOption ts tt rest
  of_default_charset : {ts rest : Symbols} → IsTableCharset ts tt rest → IsTableOption (the word.Default ∷ ts) tt rest
  of_comment : {ts rest : Symbols} → IsComment ts tt rest → IsTableOption ts tt rest
