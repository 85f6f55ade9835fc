-- What the rules spell of symbols within the limits is storable.
use Rattle.std.proofs.Common.{ℕ, ℤ, ◌+◌, ◌*◌, ◌^◌, ◌≤◌, List, [], ◌∷◌, length, Option, Some, None, IfSome, arith}
use Rattle.std.specs.Prelude.{All}
use Rattle.std.specs.List.{AllByRecursion}
use Rattle.std.proofs.lemmas.List.Elements.{All-from_recursion, recursion_from_All}
use Rattle.std.proofs.lemmas.List.Sums.{count_by-le-length}
use Rattle.pt_ast.specs.declared.tree.Expr.{Expr}
use Rattle.pt_ast.specs.declared.written.Literal.{Literal}
use Rattle.pt_ast.specs.declared.written.KindSpec.{KindSpec}
use Rattle.pt_ast.specs.declared.written.ColOption.{ColOption}
use Rattle.pt_ast.specs.declared.written.Item.{Item}
use Rattle.pt_ast.specs.declared.written.HashSpec.{HashSpec}
use Rattle.pt_ast.specs.declared.written.MainSpec.{MainSpec}
use Rattle.pt_ast.specs.declared.written.SubSpec.{SubSpec}
use Rattle.pt_ast.specs.declared.written.BoundSpec.{BoundSpec}
use Rattle.pt_ast.specs.declared.written.Entry.{Entry}
use Rattle.pt_ast.specs.declared.written.ValuesSpec.{ValuesSpec}
use Rattle.pt_ast.specs.declared.written.PartItem.{PartItem}
use Rattle.pt_ast.specs.declared.written.PartSpec.{PartSpec}
use Rattle.pt_ast.specs.declared.written.TableSpec.{TableSpec}
use Rattle.pt_ast.specs.declared.statement.Stmt.{Stmt}
use Rattle.pt_ast.specs.Storable.{HasAtLeast, IsNotNegative}
use Rattle.pt_ast.specs.StorableExpr.{IsStorableExpr}
use Rattle.pt_ast.specs.StorableSpec.{IsStorableLiteral, IsStorableKind, IsStorableOption, IsStorableItem, is_column, IsStorableHash, IsStorableMain, IsStorableBound, IsStorableEntry, IsStorableValues, IsStorablePart, AreStorableParts, IsStorableSub, IsStorablePartSpec, IsStorableSpec}
use Rattle.pt_ast.specs.StorableStmt.{IsStorableStmt}
use Rattle.pt_token.specs.declared.token.Token.{Token}
use Rattle.pt_token.specs.Tokens.{IsLexed}
use Rattle.pt_parse_expr.specs.declared.alphabet.Symbol.{Symbol}
use Rattle.pt_parse_expr.specs.Grammar.{Symbols, IsExpr}
use Rattle.pt_parse_expr.specs.Limits.{IsDeep, IsShallow, open_after}
use Rattle.pt_parse_expr.specs.Symbols.{symbols}
use Rattle.pt_parse_expr.proofs.Shallow.{shallow}
use Rattle.pt_parse_expr.proofs.Storing.{IsStorableSymbol, expr-within}
use Rattle.pt_parse_expr.proofs.StorableSymbols.{symbols-storable, symbols-count}
use Rattle.pt_parse_ddl.specs.declared.words.Keyword.{Keyword}
use Rattle.pt_parse_ddl.specs.Words.{IsName}
use Rattle.pt_parse_ddl.specs.Lists.{IsOptional, absent, present, AreRepeated, no_more, again, AreFurther, no_further, further, AreListed, listed, InParens, in_parens, InTuple}
use Rattle.pt_parse_ddl.specs.Columns.{IsNumber, IsKind, IsLiteral, IsColOption, kept}
use Rattle.pt_parse_ddl.specs.Columns as column
use Rattle.pt_parse_ddl.specs.Keys.{AreColumns, IsItem}
use Rattle.pt_parse_ddl.specs.Keys as key
use Rattle.pt_parse_ddl.specs.Partitioning.{IsLinear, AreKeyColumns, IsHash, IsMain, IsCount, IsSub, IsSubpart, IsBound, IsEntry, IsValues, IsPart, IsPartBy, IsPartOption}
use Rattle.pt_parse_ddl.specs.Partitioning as part
use Rattle.pt_parse_ddl.specs.Statements.{IsTable, IsStmt}
use Rattle.pt_parse_ddl.specs.Statements as stmt
use Rattle.pt_parse_ddl.specs.Spelling.{SpellsStmt}
use Rattle.pt_parse_ddl.proofs.After.{After, ◌▸◌, UpTo, nothing, something, shorter, repeated-up_to, after-keeps, up_to-keeps, name-after, word-after}
use Rattle.pt_parse_ddl.proofs.OfColumns.{kind-after, col_option-after}
use Rattle.pt_parse_ddl.proofs.OfKeys.{columns-after, name-up_to, item-after}
use Rattle.pt_parse_ddl.proofs.OfPartitionings.{linear-up_to, hash-after, main-after, count-after, count-up_to, sub-after}
use Rattle.pt_parse_ddl.proofs.OfPartitions.{subpart-after, subparts-after, bound-after, entry-after, values-after, part-after, parts-after, part_by-after, options-up_to, values-up_to, sub-up_to, less_than-after}
use Rattle.pt_parse_ddl.proofs.OfStatements.{items-after, table_options-up_to, if_not_exists-up_to}

-- fewer than 2^20 + 1 symbols, each of which is storable, with parentheses within the limit
pub record Given (ts : Symbols) : Type 0 where
  pub height : ℕ
  pub shallow : IsShallow 64 height ts
  pub few : length ts ≤ 2 ^ 20
  pub each : AllByRecursion (λ s. IsStorableSymbol s) ts

pub given-tail : (s : Symbol) (ts : Symbols) → Given (s ∷ ts) → Given ts
given-tail s ts g = record { height = open_after s g.height; shallow = g.shallow.1; few = omega (arith, g.few); each = g.each.1 }

pub behind : {ts rest : Symbols} → After ts rest → Given ts → Given rest
behind a g = after-keeps Given given-tail a g

pub behind-up_to : {ts rest : Symbols} → UpTo ts rest → Given ts → Given rest
behind-up_to a g = up_to-keeps Given given-tail a g

pub expr-stored : {ts rest : Symbols} {x : Expr} → IsExpr ts x rest → Given ts → IsStorableExpr x
expr-stored d g = expr-within {room = 64} d (record { low = omega arith; nests = record { most = 64; height = g.height; enough = omega arith; shallow = g.shallow }; counted = omega (arith, g.few); each = g.each })

-- ---- lists

pub further-counted : {A : Type 0} (R : Symbols → A → Symbols → Type 0) → ((ts rest : Symbols) (x : A) → R ts x rest → After ts rest)
    → {ts rest : Symbols} {xs : List A} → AreFurther R ts xs rest → length xs ≤ length ts
further-counted R after no_further = omega arith
further-counted R after (further {ts} {us} {rest} {x} d more) = omega (arith, shorter (after ts us x d), further-counted R after more)

pub listed-counted : {A : Type 0} (R : Symbols → A → Symbols → Type 0) → ((ts rest : Symbols) (x : A) → R ts x rest → After ts rest)
    → {ts rest : Symbols} {xs : List A} → AreListed R ts xs rest → Given ts → HasAtLeast 1 xs
listed-counted R after (listed {ts} {us} {x = x} d more) g = (omega arith, omega (arith, g.few, shorter (after ts us x d), further-counted R after more))

pub tuple-counted : {A : Type 0} (R : Symbols → A → Symbols → Type 0) → ((ts rest : Symbols) (x : A) → R ts x rest → After ts rest)
    → {ts rest : Symbols} {xs : List A} → InTuple R ts xs rest → Given ts → HasAtLeast 1 xs
tuple-counted R after (in_parens l) g = listed-counted R after l (given-tail _ _ g)

repeated-counted : {A : Type 0} (R : Symbols → A → Symbols → Type 0) → ((ts rest : Symbols) (x : A) → R ts x rest → After ts rest)
    → {ts rest : Symbols} {xs : List A} → AreRepeated R ts xs rest → length xs ≤ length ts
repeated-counted R after no_more = omega arith
repeated-counted R after (again {ts} {us} {rest} {x} d more) = omega (arith, shorter (after ts us x d), repeated-counted R after more)

module _ {A : Type 0} (R : Symbols → A → Symbols → Type 0) (after : (ts rest : Symbols) (x : A) → R ts x rest → After ts rest) (S : A → Type 0)
    (stored : (ts rest : Symbols) (x : A) → R ts x rest → Given ts → S x) where
  pub further-stored : {ts rest : Symbols} {xs : List A} → AreFurther R ts xs rest → Given ts → AllByRecursion S xs
  further-stored no_further g = tt
  further-stored (further {ts} {us} {rest} {x} d more) g =
      let h = given-tail _ _ g in
      (stored ts us x d h, further-stored more (behind (after ts us x d) h))

  tuple-stored : {ts rest : Symbols} {xs : List A} → InTuple R ts xs rest → Given ts → AllByRecursion S xs
  tuple-stored (in_parens (listed {ts} {us} {rest} {x} d more)) g =
      let h = given-tail _ _ g in
      (stored ts us x d h, further-stored more (behind (after ts us x d) h))

  pub tuple-all : {ts rest : Symbols} {xs : List A} → InTuple R ts xs rest → Given ts → All S xs
  tuple-all {xs = xs} d g = All-from_recursion S xs (tuple-stored d g)

  pub optional-stored : {ts rest : Symbols} {x : Option A} → IsOptional R ts x rest → Given ts → IfSome x S
  optional-stored absent g = tt
  optional-stored (present {ts} {rest} {x} d) g = stored ts rest x d g

-- ---- columns

pub number-stored : {ts rest : Symbols} {n : ℤ} → IsNumber ts n rest → Given ts → IsNotNegative n
number-stored column.number g = g.each.0

literal-stored : {ts rest : Symbols} {x : Literal} → IsLiteral ts x rest → Given ts → IsStorableLiteral x
literal-stored column.unsigned g = g.each.0
literal-stored (column.signed s) g = g.each.1.0
literal-stored column.text g = g.each.0
literal-stored column.hex g = g.each.0
literal-stored (column.day w) g = tt
literal-stored column.null_literal g = tt

kind-stored : {ts rest : Symbols} {x : KindSpec} → IsKind ts x rest → Given ts → IsStorableKind x
kind-stored (column.int w) g = tt
kind-stored (column.integer w) g = tt
kind-stored (column.big_int w) g = tt
kind-stored (column.date w) g = tt
kind-stored (column.var_binary (in_parens n)) g = number-stored n (given-tail _ _ (given-tail _ _ g))
kind-stored (column.var_char (in_parens n) c w) g = number-stored n (given-tail _ _ (given-tail _ _ g))

option-stored : {ts rest : Symbols} {x : ColOption} → IsColOption ts (Some x) rest → Given ts → IsStorableOption x
option-stored column.not_null g = tt
option-stored column.null g = tt
option-stored (column.default l) g = literal-stored l (given-tail _ _ g)
option-stored column.primary g = tt
option-stored column.unique g = tt
option-stored column.unique_key g = tt

options-stored : {ts rest : Symbols} {xs : List (Option ColOption)} → AreRepeated IsColOption ts xs rest → Given ts → AllByRecursion IsStorableOption (kept xs)
options-stored no_more g = tt
options-stored (again {x = None} d more) g = options-stored more (behind (col_option-after d) g)
options-stored (again {x = Some x} d more) g = (option-stored d g, options-stored more (behind (col_option-after d) g))

kept-fewer : {A : Type 0} (xs : List (Option A)) → length (kept xs) ≤ length xs
kept-fewer [] = omega arith
kept-fewer (None ∷ xs) = omega (arith, kept-fewer xs)
kept-fewer (Some x ∷ xs) = omega (arith, kept-fewer xs)

pub columns-stored : {ts rest : Symbols} {xs : List (List ℕ)} → AreColumns ts xs rest → Given ts → HasAtLeast 1 xs
columns-stored d g = tuple-counted IsName (λ ts rest x n. name-after n) d g

item-stored : (ts rest : Symbols) (x : Item) → IsItem ts x rest → Given ts → IsStorableItem x
item-stored ts rest _ (key.column {options = options} n k os) g =
    let h = behind (name-after n) g in
    let o = behind (kind-after k) h in (
      kind-stored k h,
      omega (arith, o.few, kept-fewer options, repeated-counted IsColOption (λ ts rest x d. col_option-after d) os),
      All-from_recursion IsStorableOption (kept options) (options-stored os o),
    )
item-stored ts rest _ (key.primary_key c) g = columns-stored c (given-tail _ _ (given-tail _ _ g))
item-stored ts rest _ (key.unique_item n c) g = columns-stored c (behind-up_to (name-up_to n) (given-tail _ _ g))
item-stored ts rest _ (key.unique_index i n c) g = columns-stored c (behind-up_to (name-up_to n) (given-tail _ _ (given-tail _ _ g)))
item-stored ts rest _ (key.plain_index i n c) g = columns-stored c (behind-up_to (name-up_to n) (given-tail _ _ g))

-- ---- partitions

hash-stored : {ts rest : Symbols} {x : HashSpec} → IsHash ts x rest → Given ts → IsStorableHash x
hash-stored (part.by_hash l w (in_parens d)) g = expr-stored d (given-tail _ _ (behind (word-after w) (behind-up_to (linear-up_to l) g)))
hash-stored (part.by_key l part.no_columns) g = omega arith
hash-stored (part.by_key l (part.some_columns c)) g = (columns-stored c (given-tail _ _ (behind-up_to (linear-up_to l) g))).1

enclosed-stored : {ts rest : Symbols} {x : Expr} → InParens IsExpr ts x rest → Given ts → IsStorableExpr x
enclosed-stored (in_parens d) g = expr-stored d (given-tail _ _ g)

main-stored : {ts rest : Symbols} {x : MainSpec} → IsMain ts x rest → Given ts → IsStorableMain x
main-stored (part.by_range d) g = enclosed-stored d (given-tail _ _ g)
main-stored (part.by_list w d) g = enclosed-stored d (behind (word-after w) g)
main-stored (part.by_range_columns w c) g = columns-stored c (behind (word-after w) (given-tail _ _ g))
main-stored (part.by_list_columns w v c) g = columns-stored c (behind (word-after w ▸ word-after v) g)
main-stored (part.by_number h) g = hash-stored h g

pub count-stored : (k : Keyword) (ts rest : Symbols) (n : ℤ) → IsCount k ts n rest → Given ts → IsNotNegative n
count-stored k ts rest n (part.count w) g = (behind (word-after w) g).each.0

sub-stored : (ts rest : Symbols) (x : SubSpec) → IsSub ts x rest → Given ts → IsStorableSub x
sub-stored ts rest _ (part.sub w h n) g =
    let b = given-tail _ _ (behind (word-after w) g) in
    record { hash = hash-stored h b; count = optional-stored (IsCount _) (λ ts rest n c. count-after c) IsNotNegative (count-stored _) n (behind (hash-after h) b) }

bound-stored : (ts rest : Symbols) (x : BoundSpec) → IsBound ts x rest → Given ts → IsStorableBound x
bound-stored _ _ _ part.max g = tt
bound-stored _ _ _ (part.value d) g = expr-stored d g

bounds-counted : {ts rest : Symbols} {xs : List BoundSpec} → InTuple IsBound ts xs rest → Given ts → HasAtLeast 1 xs
bounds-counted d g = tuple-counted IsBound (λ ts rest x b. bound-after b) d g

bounds-stored : {ts rest : Symbols} {xs : List BoundSpec} → InTuple IsBound ts xs rest → Given ts → All IsStorableBound xs
bounds-stored d g = tuple-all IsBound (λ ts rest x b. bound-after b) IsStorableBound bound-stored d g

entry-stored : (ts rest : Symbols) (x : Entry) → IsEntry ts x rest → Given ts → IsStorableEntry x
entry-stored ts rest _ (part.one d) g = bound-stored ts rest _ d g
entry-stored ts rest _ (part.many a b more) g =
    let t : InTuple IsBound ts _ rest = in_parens (listed a (further b more)) in
    (bounds-counted t g, bounds-stored t g)

values-stored : (ts rest : Symbols) (x : ValuesSpec) → IsValues ts x rest → Given ts → IsStorableValues x
values-stored _ _ _ (part.less_max l) g = tt
values-stored _ _ _ (part.less l t) g =
    let h = behind (less_than-after l) (given-tail _ _ g) in
    (bounds-counted t h, bounds-stored t h)
values-stored _ _ _ (part.among t) g =
    let h = given-tail _ _ (given-tail _ _ g) in
    (tuple-counted IsEntry (λ ts rest x e. entry-after e) t h, tuple-all IsEntry (λ ts rest x e. entry-after e) IsStorableEntry entry-stored t h)

part-stored : (ts rest : Symbols) (x : PartItem) → IsPart ts x rest → Given ts → IsStorablePart x
part-stored _ _ _ (part.part n v os s) g =
    let h = behind (name-after n) (given-tail _ _ g) in
    let i = behind-up_to (options-up_to os) (behind-up_to (values-up_to v) h) in
    record {
      values = optional-stored IsValues (λ ts rest x d. values-after d) IsStorableValues values-stored v h;
      subs = optional-stored (InTuple IsSubpart) (λ ts rest x d. subparts-after d) (HasAtLeast 1)
          (λ ts rest x d. tuple-counted IsSubpart (λ ts rest x e. subpart-after e) d) s i;
    }

pub parts-stored : (ts rest : Symbols) (x : List PartItem) → InTuple IsPart ts x rest → Given ts → AreStorableParts x
parts-stored ts rest x d g =
    (tuple-counted IsPart (λ ts rest x e. part-after e) d g, tuple-all IsPart (λ ts rest x e. part-after e) IsStorablePart part-stored d g)

pub part_by-stored : (ts rest : Symbols) (x : PartSpec) → IsPartBy ts x rest → Given ts → IsStorablePartSpec x
part_by-stored _ _ _ (part.part_by m n s ps) g =
    let h = given-tail _ _ (given-tail _ _ g) in
    let i = behind (main-after m) h in
    let j = behind-up_to (count-up_to n) i in
    record {
      main = main-stored m h;
      count = optional-stored (IsCount _) (λ ts rest n c. count-after c) IsNotNegative (count-stored _) n i;
      sub = optional-stored IsSub (λ ts rest x d. sub-after d) IsStorableSub sub-stored s j;
      parts = optional-stored (InTuple IsPart) (λ ts rest x d. parts-after d) AreStorableParts parts-stored ps (behind-up_to (sub-up_to s) j);
    }

-- ---- tables

-- a column or a key takes two symbols at least
up_to-longer : {ts rest : Symbols} → UpTo ts rest → length rest ≤ length ts
up_to-longer nothing = omega arith
up_to-longer (something a) = omega (arith, shorter a)

item-two : {ts rest : Symbols} {x : Item} → IsItem ts x rest → 2 + length rest ≤ length ts
item-two (key.column n k os) =
    omega (arith, shorter (name-after n), shorter (kind-after k), up_to-longer (repeated-up_to IsColOption (λ ts rest x d. col_option-after d) os))
item-two (key.primary_key c) = omega (arith, shorter (columns-after c))
item-two (key.unique_item n c) = omega (arith, up_to-longer (name-up_to n), shorter (columns-after c))
item-two (key.unique_index i n c) = omega (arith, up_to-longer (name-up_to n), shorter (columns-after c))
item-two (key.plain_index i n c) = omega (arith, up_to-longer (name-up_to n), shorter (columns-after c))

further-two : {ts rest : Symbols} {xs : List Item} → AreFurther IsItem ts xs rest → 2 * length xs ≤ length ts
further-two no_further = omega arith
further-two (further d more) = omega (arith, item-two d, further-two more)

items-two : {ts rest : Symbols} {xs : List Item} → InTuple IsItem ts xs rest → 2 * length xs ≤ length ts
items-two (in_parens (listed d more)) = omega (arith, item-two d, further-two more)

table-stored : (ts rest : Symbols) (x : TableSpec) → IsTable ts x rest → Given ts → IsStorableSpec x
table-stored _ _ _ (stmt.table {items = items} d os b) g = record {
  some = tuple-counted IsItem (λ ts rest x e. item-after e) d g;
  items = tuple-all IsItem (λ ts rest x e. item-after e) IsStorableItem item-stored d g;
  columns = omega (arith, g.few, items-two d, count_by-le-length is_column items);
  «by» = optional-stored IsPartBy (λ ts rest x e. part_by-after e) IsStorablePartSpec part_by-stored b
      (behind-up_to (table_options-up_to os) (behind (items-after d) g));
}

statement-stored : {ts : Symbols} {x : Stmt} → IsStmt ts x [] → Given ts → IsStorableStmt x
statement-stored (stmt.create d e f) g =
    table-stored _ _ _ f (behind (name-after e) (behind-up_to (if_not_exists-up_to d) (given-tail _ _ (given-tail _ _ g))))
statement-stored (stmt.like d e f) g = tt
statement-stored (stmt.drop d e) g = tt
statement-stored (stmt.show d) g = tt

-- what is read of a piece is storable
pub reading-stored : (piece : List ℕ) (tokens : List Token) → IsLexed piece tokens → length piece ≤ 2 ^ 20 → (IsDeep (symbols piece tokens) → ⊥)
    → (x : Stmt) → SpellsStmt (symbols piece tokens) x → IsStorableStmt x
reading-stored piece tokens lexed small level x d = statement-stored d (record {
  height = 0;
  shallow = shallow (symbols piece tokens) level;
  few = omega (arith, small, symbols-count lexed);
  each = recursion_from_All (λ s. IsStorableSymbol s) (symbols piece tokens) (symbols-storable lexed small);
})
