-- The grammar of partitionings.
--
--     partby  = PARTITION BY main [PARTITIONS n]
--               [SUBPARTITION BY hash [SUBPARTITIONS n]] [( partdef {, partdef} )]
--     main    = RANGE ( expr ) | LIST ( expr ) | RANGE COLUMNS cols | LIST COLUMNS cols | hash
--     hash    = [LINEAR] HASH ( expr ) | [LINEAR] KEY ( [name {, name}] )
--     partdef = PARTITION name [values] {partopt} [( subdef {, subdef} )]
--     subdef  = SUBPARTITION name {partopt}
--     partopt = ENGINE [=] name | COMMENT [=] s
--     values  = VALUES LESS THAN (MAXVALUE | ( bound {, bound} )) | VALUES IN ( entry {, entry} )
--     bound   = MAXVALUE | expr
--     entry   = bound | ( bound , bound {, bound} )
--
-- After the manual's chapter 22 and its section 13.1.18, "CREATE TABLE Syntax". An entry of one value in parentheses is an
-- expression in parentheses.
use Rattle.std.specs.Prelude.{ℕ, ℤ, List, [], ◌∷◌, Bool, true, false, Option}
use Rattle.pt_ast.specs.declared.tree.Expr.{Expr}
use Rattle.pt_ast.specs.declared.written.BoundSpec.{BoundSpec}
use Rattle.pt_ast.specs.declared.written.BoundSpec.TheVariants as bound
use Rattle.pt_ast.specs.declared.written.Entry.{Entry}
use Rattle.pt_ast.specs.declared.written.Entry.TheVariants as entry
use Rattle.pt_ast.specs.declared.written.ValuesSpec.{ValuesSpec}
use Rattle.pt_ast.specs.declared.written.ValuesSpec.TheVariants as values
use Rattle.pt_ast.specs.declared.written.HashSpec.{HashSpec}
use Rattle.pt_ast.specs.declared.written.HashSpec.TheVariants as hash
use Rattle.pt_ast.specs.declared.written.MainSpec.{MainSpec}
use Rattle.pt_ast.specs.declared.written.MainSpec.TheVariants as main
use Rattle.pt_ast.specs.declared.written.SubSpec.{SubSpec}
use Rattle.pt_ast.specs.declared.written.PartItem.{PartItem}
use Rattle.pt_ast.specs.declared.written.PartSpec.{PartSpec}
use Rattle.pt_parse_expr.specs.declared.alphabet.Mark.TheVariants.{Open, Close, Comma, In}
use Rattle.pt_parse_expr.specs.declared.alphabet.Reserved.TheVariants as word
use Rattle.pt_parse_expr.specs.declared.alphabet.Symbol.TheVariants.{Fixed, Number}
use Rattle.pt_parse_expr.specs.Grammar.{Symbols, IsExpr}
use Rattle.pt_parse_ddl.specs.declared.words.Keyword.{Keyword}
use Rattle.pt_parse_ddl.specs.declared.words.Keyword.TheVariants as keyword
use Rattle.pt_parse_ddl.specs.Words.{the, IsName, IsWord}
use Rattle.pt_parse_ddl.specs.Lists.{IsOptional, AreRepeated, AreFurther, InParens, InTuple}
use Rattle.pt_parse_ddl.specs.Columns.{IsEngine, IsComment}
use Rattle.pt_parse_ddl.specs.Keys.{AreColumns}

-- ---- what rows are partitioned by

-- [LINEAR], true where it stands
pub data IsLinear : Symbols → Bool → Symbols → Type 0 where
  not_linear : {ts : Symbols} → IsLinear ts false ts
  linear : {rest : Symbols} → IsLinear (the word.Linear ∷ rest) true rest

-- ( [name {, name}] )
pub data AreKeyColumns : Symbols → List (List ℕ) → Symbols → Type 0 where
  no_columns : {rest : Symbols} → AreKeyColumns (Fixed Open ∷ Fixed Close ∷ rest) [] rest
  some_columns : {ts rest : Symbols} {columns : List (List ℕ)} → AreColumns ts columns rest → AreKeyColumns ts columns rest

pub data IsHash : Symbols → HashSpec → Symbols → Type 0 where
  by_hash : {ts us vs rest : Symbols} {is_linear : Bool} {x : Expr} → IsLinear ts is_linear us → IsWord keyword.Hash us tt vs → InParens IsExpr vs x rest
      → IsHash ts (hash.Hash is_linear x) rest
  by_key : {ts us rest : Symbols} {is_linear : Bool} {columns : List (List ℕ)} → IsLinear ts is_linear (the word.Key ∷ us) → AreKeyColumns us columns rest
      → IsHash ts (hash.Key is_linear columns) rest

pub data IsMain : Symbols → MainSpec → Symbols → Type 0 where
  by_range : {ts rest : Symbols} {x : Expr} → InParens IsExpr ts x rest → IsMain (the word.Range ∷ ts) (main.Range x) rest
  by_list : {ts us rest : Symbols} {x : Expr} → IsWord keyword.List ts tt us → InParens IsExpr us x rest → IsMain ts (main.List x) rest
  by_range_columns : {ts us rest : Symbols} {columns : List (List ℕ)} → IsWord keyword.Columns ts tt us → AreColumns us columns rest
      → IsMain (the word.Range ∷ ts) (main.RangeColumns columns) rest
  by_list_columns : {ts us vs rest : Symbols} {columns : List (List ℕ)} → IsWord keyword.List ts tt us → IsWord keyword.Columns us tt vs → AreColumns vs columns rest
      → IsMain ts (main.ListColumns columns) rest
  by_number : {ts rest : Symbols} {h : HashSpec} → IsHash ts h rest → IsMain ts (main.Hash h) rest

-- one of the words of definitions, and a number
pub data IsCount (k : Keyword) : Symbols → ℤ → Symbols → Type 0 where
  count : {ts rest : Symbols} {n : ℤ} → IsWord k ts tt (Number n ∷ rest) → IsCount k ts n rest

pub data IsSub : Symbols → SubSpec → Symbols → Type 0 where
  sub : {ts us vs rest : Symbols} {h : HashSpec} {n : Option ℤ} → IsWord keyword.Subpartition ts tt (the word.By ∷ us) → IsHash us h vs
      → IsOptional (IsCount keyword.Subpartitions) vs n rest → IsSub ts (record { hash = h; count = n }) rest

-- ---- partitions

pub data IsPartOption : Symbols → Unit {0} → Symbols → Type 0 where
  part_engine : {ts rest : Symbols} → IsEngine ts tt rest → IsPartOption ts tt rest
  part_comment : {ts rest : Symbols} → IsComment ts tt rest → IsPartOption ts tt rest

pub data IsSubpart : Symbols → List ℕ → Symbols → Type 0 where
  subpart : {ts us vs rest : Symbols} {name : List ℕ} {skipped : List (Unit {0})} → IsWord keyword.Subpartition ts tt us → IsName us name vs
      → AreRepeated IsPartOption vs skipped rest → IsSubpart ts name rest

pub data IsBound : Symbols → BoundSpec → Symbols → Type 0 where
  max : {rest : Symbols} → IsBound (the word.MaxValue ∷ rest) bound.Max rest
  value : {ts rest : Symbols} {x : Expr} → IsExpr ts x rest → IsBound ts (bound.Value x) rest

pub data IsEntry : Symbols → Entry → Symbols → Type 0 where
  one : {ts rest : Symbols} {b : BoundSpec} → IsBound ts b rest → IsEntry ts (entry.One b) rest
  many : {ts us vs rest : Symbols} {a b : BoundSpec} {bs : List BoundSpec} → IsBound ts a (Fixed Comma ∷ us) → IsBound us b vs
      → AreFurther IsBound vs bs (Fixed Close ∷ rest) → IsEntry (Fixed Open ∷ ts) (entry.Many (a ∷ b ∷ bs)) rest

-- LESS THAN
pub data IsLessThan : Symbols → Unit {0} → Symbols → Type 0 where
  less_than : {ts us rest : Symbols} → IsWord keyword.Less ts tt us → IsWord keyword.Than us tt rest → IsLessThan ts tt rest

pub data IsValues : Symbols → ValuesSpec → Symbols → Type 0 where
  less_max : {ts rest : Symbols} → IsLessThan ts tt (the word.MaxValue ∷ rest) → IsValues (the word.Values ∷ ts) values.LessMax rest
  less : {ts us rest : Symbols} {bounds : List BoundSpec} → IsLessThan ts tt us → InTuple IsBound us bounds rest
      → IsValues (the word.Values ∷ ts) (values.Less bounds) rest
  among : {ts rest : Symbols} {entries : List Entry} → InTuple IsEntry ts entries rest → IsValues (the word.Values ∷ Fixed In ∷ ts) (values.Among entries) rest

pub data IsPart : Symbols → PartItem → Symbols → Type 0 where
  part : {ts us vs ws rest : Symbols} {name : List ℕ} {spec : Option ValuesSpec} {skipped : List (Unit {0})} {names : Option (List (List ℕ))}
      → IsName ts name us → IsOptional IsValues us spec vs → AreRepeated IsPartOption vs skipped ws → IsOptional (InTuple IsSubpart) ws names rest
      → IsPart (the word.Partition ∷ ts) (record { name = name; values = spec; subs = names }) rest

-- ---- the whole

pub data IsPartBy : Symbols → PartSpec → Symbols → Type 0 where
  part_by : {ts us vs ws rest : Symbols} {m : MainSpec} {n : Option ℤ} {s : Option SubSpec} {items : Option (List PartItem)}
      → IsMain ts m us → IsOptional (IsCount keyword.Partitions) us n vs → IsOptional IsSub vs s ws → IsOptional (InTuple IsPart) ws items rest
      → IsPartBy (the word.Partition ∷ the word.By ∷ ts) (record { main = m; count = n; sub = s; parts = items }) rest
