-- Statements: what is read is spelled, and what is spelled is read.
use Rattle.std.proofs.Common.{◌≡◌, ℕ, Bool, List, [], ◌∷◌, Option, Some, None, refl, ap, ◌∙◌}
use Rattle.pt_ast.specs.declared.tree.Expr.{Expr}
use Rattle.pt_ast.specs.declared.written.Item.{Item}
use Rattle.pt_ast.specs.declared.written.PartSpec.{PartSpec}
use Rattle.pt_ast.specs.declared.written.TableSpec.{TableSpec}
use Rattle.pt_ast.specs.declared.statement.Stmt.{Stmt}
use Rattle.pt_ast.specs.declared.statement.Stmt.TheVariants as stmt
use Rattle.pt_parse_expr.specs.declared.alphabet.Mark.TheVariants.{Other, Not}
use Rattle.pt_parse_expr.specs.declared.alphabet.Reserved.TheVariants as word
use Rattle.pt_parse_expr.specs.declared.alphabet.Symbol.{Symbol}
use Rattle.pt_parse_expr.specs.declared.alphabet.Symbol.TheVariants.{Fixed}
use Rattle.pt_parse_expr.specs.Grammar.{Symbols, IsExpr}
use Rattle.pt_parse_expr.specs.Reader.{Reader, many}
use Rattle.pt_parse_expr.proofs.Sound.{Sound}
use Rattle.pt_parse_ddl.specs.Words.{the, IsName, plain_name, quoted_name}
use Rattle.pt_parse_ddl.specs.Statements.{IsIfNotExists, IsIfExists, IsTable, IsStmt}
use Rattle.pt_parse_ddl.specs.Statements as rule
use Rattle.pt_parse_ddl.specs.Lists.{IsOptional, absent, present, AreRepeated, in_parens, InTuple}
use Rattle.pt_parse_ddl.specs.Columns.{IsTableOption}
use Rattle.pt_parse_ddl.specs.Keys.{IsItem}
use Rattle.pt_parse_ddl.specs.Partitioning.{IsPartBy, part_by}
use Rattle.pt_parse_ddl.specs.Steps.{optional, tuple, named, worded}
use Rattle.pt_parse_ddl.specs.ColumnReader.{table_option}
use Rattle.pt_parse_ddl.specs.ColumnReader as columns
use Rattle.pt_parse_ddl.specs.KeyReader.{table_item}
use Rattle.pt_parse_ddl.specs.PartReader as parts
use Rattle.pt_parse_ddl.specs.Reader.{exists, not_exists, if_exists, if_not_exists, with_by, behind_items, new_spec, created, create_or_like, new_table, dropped, shown_table, shown, statement}
use Rattle.pt_parse_ddl.proofs.After.{After, first, later, UpTo, nothing, something, after-keeps, up_to-keeps, name-after, repeated-up_to, tuple-after}
use Rattle.pt_parse_ddl.proofs.Sounding.{and_then-sound, mapped-sound, name-sound, optional-sound, repeated-sound, tuple-sound}
use Rattle.pt_parse_ddl.proofs.Exact.{and_then-is, mapped-is, name-read, optional-read, Ends, repeated-read, tuple-read}
use Rattle.pt_parse_ddl.proofs.OfColumns.{table_option-after, table_option-sound, table_option-read}
use Rattle.pt_parse_ddl.proofs.OfKeys.{item-after, item-sound, item-read}
use Rattle.pt_parse_ddl.proofs.OfPartitions.{part_by-sound, part_by-read}

-- ---- what is read is spelled

exists-sound : (ts : Symbols) → Sound IsIfExists (the word.If ∷ ts) (exists ts)
unfolding exists
exists-sound (Fixed (Other word.Exists) ∷ ts) = rule.if_exists
exists-sound _ = tt

if_exists-sound : (ts : Symbols) → Sound IsIfExists ts (if_exists ts)
unfolding if_exists
if_exists-sound (Fixed (Other word.If) ∷ ts) = exists-sound ts
if_exists-sound _ = rule.surely

after_not-sound : (ts : Symbols) → Sound IsIfNotExists (the word.If ∷ Fixed Not ∷ ts) (exists ts)
unfolding exists
after_not-sound (Fixed (Other word.Exists) ∷ ts) = rule.if_not_exists
after_not-sound _ = tt

not_exists-sound : (ts : Symbols) → Sound IsIfNotExists (the word.If ∷ ts) (not_exists ts)
unfolding not_exists
not_exists-sound (Fixed Not ∷ ts) = after_not-sound ts
not_exists-sound _ = tt

if_not_exists-sound : (ts : Symbols) → Sound IsIfNotExists ts (if_not_exists ts)
unfolding if_not_exists
if_not_exists-sound (Fixed (Other word.If) ∷ ts) = not_exists-sound ts
if_not_exists-sound _ = rule.anyhow

dropped-sound : (ts : Symbols) → Sound IsStmt (the word.Drop ∷ ts) (dropped ts)
unfolding dropped
dropped-sound (Fixed (Other word.Table) ∷ ts) =
    and_then-sound IsIfExists IsStmt ts _ (if_exists ts) _ (if_exists-sound ts)
    (λ if_there us d. mapped-sound IsName IsStmt us _ (named us) (stmt.Drop if_there) (name-sound us) (λ name rest e. rule.drop d e))
dropped-sound _ = tt

shown_table-sound : (ts : Symbols) → Sound IsStmt (the word.Show ∷ the word.Create ∷ ts) (shown_table ts)
unfolding shown_table
shown_table-sound (Fixed (Other word.Table) ∷ ts) = mapped-sound IsName IsStmt ts _ (named ts) stmt.Show (name-sound ts) (λ name rest d. rule.show d)
shown_table-sound _ = tt

shown-sound : (ts : Symbols) → Sound IsStmt (the word.Show ∷ ts) (shown ts)
unfolding shown
shown-sound (Fixed (Other word.Create) ∷ ts) = shown_table-sound ts
shown-sound _ = tt

-- over the reader of expressions
module _ (expr : Reader Expr) (sound : (ts : Symbols) → Sound IsExpr ts (expr ts)) where
  new_spec-sound : (ts : Symbols) → Sound IsTable ts (new_spec expr ts)
  unfolding new_spec
  new_spec-sound ts =
      and_then-sound (InTuple IsItem) IsTable ts ts (tuple table_item ts) (behind_items expr) (tuple-sound IsItem table_item item-sound ts)
      (λ items us d. rule.table d (repeated-sound IsTableOption table_option table_option-sound us)
      (optional-sound IsPartBy (parts.part_by expr) (part_by-sound expr sound) (many table_option us).1))

  create_or_like-sound : (only_new : Bool) (name : List ℕ) (ts us vs : Symbols) → IsIfNotExists ts only_new us → IsName us name vs
      → Sound IsStmt (the word.Create ∷ the word.Table ∷ ts) (create_or_like expr only_new name vs)
  unfolding create_or_like
  create_or_like-sound only_new name ts us (Fixed (Other word.Like) ∷ vs) d e =
      mapped-sound IsName IsStmt vs _ (named vs) (stmt.Like only_new name) (name-sound vs) (λ other rest f. rule.like d e f)
  create_or_like-sound only_new name ts us vs d e = created-sound vs e where
    created-sound : (vs : Symbols) → IsName us name vs → Sound IsStmt (the word.Create ∷ the word.Table ∷ ts) (created expr only_new name vs)
    created-sound vs e = mapped-sound IsTable IsStmt vs _ (new_spec expr vs) (stmt.Create only_new name) (new_spec-sound vs) (λ spec rest f. rule.create d e f)

  new_table-sound : (ts : Symbols) → Sound IsStmt (the word.Create ∷ ts) (new_table expr ts)
  unfolding new_table
  new_table-sound (Fixed (Other word.Table) ∷ ts) =
      and_then-sound IsIfNotExists IsStmt ts _ (if_not_exists ts) _ (if_not_exists-sound ts)
      (λ only_new us d. and_then-sound IsName IsStmt us _ (named us) (create_or_like expr only_new) (name-sound us)
      (λ name vs e. create_or_like-sound only_new name ts us vs d e))
  new_table-sound _ = tt

  pub statement-sound : (ts : Symbols) → Sound IsStmt ts (statement expr ts)
  unfolding statement
  statement-sound (Fixed (Other word.Create) ∷ ts) = new_table-sound ts
  statement-sound (Fixed (Other word.Drop) ∷ ts) = dropped-sound ts
  statement-sound (Fixed (Other word.Show) ∷ ts) = shown-sound ts
  statement-sound _ = tt

-- ---- what is spelled is read

if_exists-read : {ts us vs : Symbols} {if_there : Bool} {name : List ℕ} → IsIfExists ts if_there us → IsName us name vs → if_exists ts ≡ Some (if_there, us)
unfolding if_exists exists
if_exists-read rule.surely plain_name = refl
if_exists-read rule.surely quoted_name = refl
if_exists-read rule.if_exists n = refl

if_not_exists-read : {ts us vs : Symbols} {only_new : Bool} {name : List ℕ} → IsIfNotExists ts only_new us → IsName us name vs
    → if_not_exists ts ≡ Some (only_new, us)
unfolding if_not_exists not_exists exists
if_not_exists-read rule.anyhow plain_name = refl
if_not_exists-read rule.anyhow quoted_name = refl
if_not_exists-read rule.if_not_exists n = refl

pub table_options-up_to : {ts rest : Symbols} {us : List (Unit {0})} → AreRepeated IsTableOption ts us rest → UpTo ts rest
table_options-up_to d = repeated-up_to IsTableOption (λ ts rest u e. table_option-after e) d

pub items-after : {ts rest : Symbols} {items : List Item} → InTuple IsItem ts items rest → After ts rest
items-after d = tuple-after IsItem (λ ts rest x e. item-after e) d

pub if_not_exists-up_to : {ts rest : Symbols} {only_new : Bool} → IsIfNotExists ts only_new rest → UpTo ts rest
if_not_exists-up_to rule.anyhow = nothing
if_not_exists-up_to rule.if_not_exists = something (later (later first))

items-read : {ts rest : Symbols} {items : List Item} → InTuple IsItem ts items rest → tuple table_item ts ≡ Some (items, rest)
items-read d = tuple-read (λ us. Unit {0}) (λ s us p. tt) IsItem table_item (λ ts rest x e. item-after e) (λ ts rest x e ends p. item-read e ends) d tt

-- no option stands before a partitioning, or at the end
by-no_option : {ts : Symbols} {spec : Option PartSpec} → IsOptional IsPartBy ts spec [] → table_option ts ≡ None
unfolding table_option columns.part_option columns.engine columns.comment columns.table_charset columns.charset worded
by-no_option absent = refl
by-no_option (present (part_by m n s ps)) = refl

table_options-read : {ts : Symbols} {us : List (Unit {0})} {rest : Symbols} → AreRepeated IsTableOption ts us rest → table_option rest ≡ None → (many table_option ts).1 ≡ rest
table_options-read d none =
    ap (λ p. p.1) (repeated-read (λ us. Unit {0}) (λ s us p. tt) IsTableOption table_option (λ ts rest u e. table_option-after e) (λ us. Unit {0}) (λ ts rest u e. tt)
    (λ ts rest u e g p. table_option-read e) d tt none tt).0

module _ (expr : Reader Expr) (P : Symbols → Type 0) (tail : (s : Symbol) (ts : Symbols) → P (s ∷ ts) → P ts)
    (exact : (ts rest : Symbols) (x : Expr) → IsExpr ts x rest → Ends rest → P ts → expr ts ≡ Some (x, rest)) where
  table-read : {ts : Symbols} {spec : TableSpec} → IsTable ts spec [] → P ts → new_spec expr ts ≡ Some (spec, [])
  unfolding new_spec parts.part_by
  table-read (rule.table {items = items} d os b) p =
      let q = up_to-keeps P tail (table_options-up_to os) (after-keeps P tail (items-after d) p) in
      and_then-is (behind_items expr) (items-read d)
      (ap (λ (us : Symbols). with_by items (optional (parts.part_by expr) us)) (table_options-read os (by-no_option b))
      ∙ ap (with_by items) (optional-read IsPartBy (parts.part_by expr) (λ x e. part_by-read expr P tail exact e q) refl b))

  create-read : (only_new : Bool) (name : List ℕ) {ts : Symbols} {spec : TableSpec} → IsTable ts spec [] → P ts
      → create_or_like expr only_new name ts ≡ Some (stmt.Create only_new name spec, [])
  unfolding create_or_like
  create-read only_new name (rule.table (in_parens l) os b) p = mapped-is (stmt.Create only_new name) (table-read (rule.table (in_parens l) os b) p)

  pub statement-read : {ts : Symbols} {x : Stmt} → IsStmt ts x [] → P ts → statement expr ts ≡ Some (x, [])
  unfolding statement new_table create_or_like dropped shown shown_table
  statement-read (rule.create {only_new = only_new} {name = name} d e f) p =
      let q = after-keeps P tail (name-after e) (up_to-keeps P tail (if_not_exists-up_to d) (tail _ _ (tail _ _ p))) in
      and_then-is _ (if_not_exists-read d e) (and_then-is (create_or_like expr only_new) (name-read e) (create-read only_new name f q))
  statement-read (rule.like {only_new = only_new} {name = name} d e f) p =
      and_then-is _ (if_not_exists-read d e) (and_then-is (create_or_like expr only_new) (name-read e) (mapped-is (stmt.Like only_new name) (name-read f)))
  statement-read (rule.drop {if_there = if_there} d e) p = and_then-is _ (if_exists-read d e) (mapped-is (stmt.Drop if_there) (name-read e))
  statement-read (rule.show d) p = mapped-is stmt.Show (name-read d)
