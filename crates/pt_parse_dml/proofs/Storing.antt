-- What the rules spell of symbols within the limits is storable.
use Rattle.std.proofs.Common.{ℕ, ℤ, ◌^◌, ◌≤◌, Bool, List, [], ◌∷◌, length, Option, arith}
use Rattle.std.specs.Prelude.{All}
use Rattle.std.proofs.lemmas.List.Elements.{All-from_recursion, recursion_from_All}
use Rattle.pt_ast.specs.declared.tree.Expr.{Expr}
use Rattle.pt_ast.specs.declared.tree.Cond.{Cond}
use Rattle.pt_ast.specs.declared.statement.ValueSpec.{ValueSpec}
use Rattle.pt_ast.specs.declared.statement.NewRows.{NewRows}
use Rattle.pt_ast.specs.declared.statement.Tail.{Tail}
use Rattle.pt_ast.specs.declared.statement.Query.{Query}
use Rattle.pt_ast.specs.declared.statement.Stmt.{Stmt}
use Rattle.pt_ast.specs.Storable.{HasAtLeast, IsCounted, IsNotNegative}
use Rattle.pt_ast.specs.StorableExpr.{IsStorableExpr}
use Rattle.pt_ast.specs.StorableCond.{IsStorableCond}
use Rattle.pt_ast.specs.StorableStmt.{AreNamed, IsStorableValue, AreStorableValues, AreStorableRows, IsStorableTail, AreStorableExprs, IsStorableQuery, IsStorableStmt}
use Rattle.pt_token.specs.declared.token.Token.{Token}
use Rattle.pt_token.specs.Tokens.{IsLexed}
use Rattle.pt_parse_expr.specs.Grammar.{Symbols, IsExpr, IsCond}
use Rattle.pt_parse_expr.specs.Limits.{IsDeep}
use Rattle.pt_parse_expr.specs.Symbols.{symbols}
use Rattle.pt_parse_expr.proofs.Shallow.{shallow}
use Rattle.pt_parse_expr.proofs.Storing.{IsStorableSymbol, cond-within}
use Rattle.pt_parse_expr.proofs.StorableSymbols.{symbols-storable, symbols-count}
use Rattle.pt_parse_ddl.specs.Lists.{IsOptional, absent, present, AreListed, listed}
use Rattle.pt_parse_ddl.specs.Keys.{AreColumns}
use Rattle.pt_parse_ddl.proofs.After.{After, shorter, name-after, expr-after}
use Rattle.pt_parse_ddl.proofs.OfKeys.{columns-after}
use Rattle.pt_parse_ddl.proofs.Storing.{Given, given-tail, behind, behind-up_to, expr-stored, further-counted, further-stored, tuple-counted, tuple-all, optional-stored, number-stored, columns-stored}
use Rattle.pt_parse_dml.specs.declared.targets.Target.{Target}
use Rattle.pt_parse_dml.specs.Rows.{ArePartitions, IsTarget, IsValue, IsRow, AreRows, AreNewRows, IsAssign, AreAssigns}
use Rattle.pt_parse_dml.specs.Rows as row
use Rattle.pt_parse_dml.specs.declared.tails.Source.{Source}
use Rattle.pt_parse_dml.specs.Tails.{IsWhere, IsOrder, AreOrders, IsLimit, or_none, IsTail, IsSource}
use Rattle.pt_parse_dml.specs.Tails as tail
use Rattle.pt_parse_dml.specs.Statements.{AreItems, IsQuery, IsStmt}
use Rattle.pt_parse_dml.specs.Statements as stmt
use Rattle.pt_parse_dml.specs.Spelling.{SpellsStmt}
use Rattle.pt_parse_dml.proofs.OfRows.{partitions-after, target-after, into-up_to, columns-up_to, value-after, row-after, assign-after, assigns-after}
use Rattle.pt_parse_dml.proofs.OfTails.{where-after, where-up_to, order-after, orders-up_to, limit-after}
use Rattle.pt_parse_dml.proofs.OfStatements.{items-after, ignore-up_to, said-up_to}

cond-stored : {ts rest : Symbols} {c : Cond} → IsCond ts c rest → Given ts → IsStorableCond c
cond-stored d g = cond-within {room = 64} d (record {
  low = omega arith;
  nests = record { most = 64; height = g.height; enough = omega arith; shallow = g.shallow };
  counted = omega (arith, g.few);
  each = g.each;
})

-- ---- lists that end anywhere

module _ {A : Type 0} (R : Symbols → A → Symbols → Type 0) (after : (ts rest : Symbols) (x : A) → R ts x rest → After ts rest) where
  listed-counted : {ts rest : Symbols} {xs : List A} → AreListed R ts xs rest → Given ts → HasAtLeast 1 xs
  listed-counted (listed {ts} {us} {x = x} d more) g = (omega arith, omega (arith, g.few, shorter (after ts us x d), further-counted R after more))

  listed-all : (S : A → Type 0) → ((ts rest : Symbols) (x : A) → R ts x rest → Given ts → S x) → {ts rest : Symbols} {xs : List A} → AreListed R ts xs rest
      → Given ts → All S xs
  listed-all S stored (listed {ts} {us} {x = x} {xs = xs} d more) g =
      All-from_recursion S (x ∷ xs) (stored ts us x d g, further-stored R after S stored more (behind (after ts us x d) g))

-- ---- rows

partitions-stored : (ts rest : Symbols) (names : List (List ℕ)) → ArePartitions ts names rest → Given ts → HasAtLeast 1 names
partitions-stored _ _ _ (row.partitions c) g = columns-stored c (given-tail _ _ g)

target-stored : {ts rest : Symbols} {on : Target} → IsTarget ts on rest → Given ts → AreNamed on.parts
target-stored (row.target n p) g =
    optional-stored ArePartitions (λ ts rest x d. partitions-after d) (λ (names : List (List ℕ)). HasAtLeast 1 names) partitions-stored p (behind (name-after n) g)

value-stored : (ts rest : Symbols) (x : ValueSpec) → IsValue ts x rest → Given ts → IsStorableValue x
value-stored _ _ _ row.default g = tt
value-stored _ _ _ (row.expression d) g = expr-stored d g

row-stored : (ts rest : Symbols) (x : List ValueSpec) → IsRow ts x rest → Given ts → AreStorableValues x
row-stored ts rest x d g =
    (tuple-counted IsValue (λ ts rest x v. value-after v) d g, tuple-all IsValue (λ ts rest x v. value-after v) IsStorableValue value-stored d g)

rows-stored : {ts rest : Symbols} {values : List (List ValueSpec)} → AreRows ts values rest → Given ts → HasAtLeast 1 values × All AreStorableValues values
rows-stored (row.rows l) g =
    let h = given-tail _ _ g in
    (listed-counted IsRow (λ ts rest x d. row-after d) l h, listed-all IsRow (λ ts rest x d. row-after d) AreStorableValues row-stored l h)

new_rows-stored : {ts rest : Symbols} {new : NewRows} → AreNewRows ts new rest → Given ts → AreStorableRows new
new_rows-stored (row.new_rows i t c r) g =
    let h = behind-up_to (into-up_to i) g in
    let k = behind (target-after t) h in
    let all = rows-stored r (behind-up_to (columns-up_to c) k) in
    record {
      parts = target-stored t h;
      columns = optional-stored AreColumns (λ ts rest x d. columns-after d) (λ (names : List (List ℕ)). HasAtLeast 1 names) (λ ts rest x d g. columns-stored d g) c k;
      some = all.0;
      rows = all.1;
    }

-- ---- assignments

assign-stored : (ts rest : Symbols) (x : List ℕ × ValueSpec) → IsAssign ts x rest → Given ts → IsStorableValue x.1
assign-stored _ _ _ (row.assign {us = us} {rest = rest} {x = x} n v) g = value-stored us rest x v (given-tail _ _ (behind (name-after n) g))

assigns-stored : {ts rest : Symbols} {xs : List (List ℕ × ValueSpec)} → AreAssigns ts xs rest → Given ts
    → HasAtLeast 1 xs × All (λ (x : List ℕ × ValueSpec). IsStorableValue x.1) xs
assigns-stored (row.assigns l) g =
    let h = given-tail _ _ g in
    (listed-counted IsAssign (λ ts rest x d. assign-after d) l h, listed-all IsAssign (λ ts rest x d. assign-after d) (λ x. IsStorableValue x.1) assign-stored l h)

-- ---- which rows

where-stored : (ts rest : Symbols) (c : Cond) → IsWhere ts c rest → Given ts → IsStorableCond c
where-stored _ _ _ (tail.condition d) g = cond-stored d (given-tail _ _ g)

orders-stored : {ts rest : Symbols} {columns : Option (List (List ℕ × Bool))} → IsOptional AreOrders ts columns rest → Given ts → IsCounted (or_none columns)
orders-stored absent g = omega arith
orders-stored (present (tail.orders l)) g = (listed-counted IsOrder (λ ts rest x d. order-after d) l (given-tail _ _ (given-tail _ _ g))).1

limit-stored : (ts rest : Symbols) (n : ℤ) → IsLimit ts n rest → Given ts → IsNotNegative n
limit-stored _ _ _ (tail.limit d) g = number-stored d (given-tail _ _ g)

tail-stored : {ts rest : Symbols} {t : Tail} → IsTail ts t rest → Given ts → IsStorableTail t
tail-stored (tail.tail w o l) g =
    let h = behind-up_to (where-up_to w) g in
    record {
      cond = optional-stored IsWhere (λ ts rest x d. where-after d) IsStorableCond where-stored w g;
      order = orders-stored o h;
      limit = optional-stored IsLimit (λ ts rest x d. limit-after d) IsNotNegative limit-stored l (behind-up_to (orders-up_to o) h);
    }

source-stored : {ts rest : Symbols} {from : Source} → IsSource ts from rest → Given ts → AreNamed from.target.parts × IsStorableTail from.tail
source-stored (tail.source t d) g = let h = given-tail _ _ g in (target-stored t h, tail-stored d (behind (target-after t) h))

-- ---- statements

exprs-stored : {ts rest : Symbols} {xs : List Expr} → AreListed IsExpr ts xs rest → Given ts → AreStorableExprs xs
exprs-stored l g = (
  listed-counted IsExpr (λ ts rest x d. expr-after d) l g,
  listed-all IsExpr (λ ts rest x d. expr-after d) (λ x. IsStorableExpr x) (λ ts rest x d g. expr-stored d g) l g,
)

query-stored : {ts rest : Symbols} {q : Query} → IsQuery ts q rest → Given ts → IsStorableQuery q
query-stored (stmt.query stmt.all s) g =
    let h = source-stored s (given-tail _ _ (given-tail _ _ g)) in
    record { items = tt; parts = h.0; tail = h.1 }
query-stored (stmt.query (stmt.some l) s) g =
    let k = given-tail _ _ g in
    let h = source-stored s (behind (items-after (stmt.some l)) k) in
    record { items = exprs-stored l k; parts = h.0; tail = h.1 }

statement-stored : {ts : Symbols} {x : Stmt} → IsStmt ts x [] → Given ts → IsStorableStmt x
statement-stored (stmt.insert i d) g = new_rows-stored d (behind-up_to (ignore-up_to i) (given-tail _ _ g))
statement-stored (stmt.replace d) g = new_rows-stored d (given-tail _ _ g)
statement-stored (stmt.update t a d) g =
    let h = given-tail _ _ g in
    let k = behind (target-after t) h in
    let all = assigns-stored a k in
    (target-stored t h, all.0, all.1, tail-stored d (behind (assigns-after a) k))
statement-stored (stmt.delete s) g = source-stored s (given-tail _ _ g)
statement-stored (stmt.select d) g = query-stored d g
statement-stored (stmt.explain w d) g = query-stored d (behind-up_to (said-up_to w) (given-tail _ _ g))

-- what is read of a piece is storable
pub reading-stored : (piece : List ℕ) (tokens : List Token) → IsLexed piece tokens → length piece ≤ 2 ^ 20 → (IsDeep (symbols piece tokens) → ⊥)
    → (x : Stmt) → SpellsStmt (symbols piece tokens) x → IsStorableStmt x
reading-stored piece tokens lexed small level x d = statement-stored d (record {
  height = 0;
  shallow = shallow (symbols piece tokens) level;
  few = omega (arith, small, symbols-count lexed);
  each = recursion_from_All (λ s. IsStorableSymbol s) (symbols piece tokens) (symbols-storable lexed small);
})
