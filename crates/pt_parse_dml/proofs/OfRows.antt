-- Tables, partitions, new rows and assignments: what is read is spelled, and what is spelled is read.
use Rattle.std.proofs.Common.{◌≡◌, ℕ, false, List, ◌∷◌, Option, Some, None, refl, ap, ◌∙◌}
use Rattle.std.proofs.lemmas.Bool.{true≢false}
use Rattle.pt_ast.specs.declared.tree.Cmp.TheVariants as cmp
use Rattle.pt_ast.specs.declared.tree.Expr.{Expr}
use Rattle.pt_ast.specs.declared.statement.ValueSpec.{ValueSpec}
use Rattle.pt_ast.specs.declared.statement.ValueSpec.TheVariants as value
use Rattle.pt_ast.specs.declared.statement.NewRows.{NewRows}
use Rattle.pt_parse_expr.specs.declared.alphabet.Mark.TheVariants.{Compare, Other}
use Rattle.pt_parse_expr.specs.declared.alphabet.Reserved.TheVariants as word
use Rattle.pt_parse_expr.specs.declared.alphabet.Symbol.{Symbol}
use Rattle.pt_parse_expr.specs.declared.alphabet.Symbol.TheVariants.{Fixed}
use Rattle.pt_parse_expr.specs.Grammar.{Symbols, IsExpr}
use Rattle.pt_parse_expr.specs.Reader.{Reader}
use Rattle.pt_parse_expr.proofs.Sound.{Sound}
use Rattle.pt_parse_ddl.specs.Words.{IsName, plain_name, quoted_name}
use Rattle.pt_parse_ddl.specs.Lists.{IsOptional, absent, present, AreListed, in_parens}
use Rattle.pt_parse_ddl.specs.Keys.{AreColumns}
use Rattle.pt_parse_ddl.specs.Steps.{and_then, optional, several, in_parens as parens, tuple, named}
use Rattle.pt_parse_ddl.proofs.After.{After, first, later, ◌▸◌, UpTo, nothing, something, ◌▸*◌, after-keeps, up_to-keeps, name-after, expr-after, optional-up_to, listed-after, tuple-after}
use Rattle.pt_parse_ddl.proofs.Sounding.{and_then-sound, mapped-sound, name-sound, optional-sound, several-sound, tuple-sound}
use Rattle.pt_parse_ddl.proofs.Exact.{and_then-is, mapped-is, name-read, optional-read, tuple-read}
use Rattle.pt_parse_ddl.proofs.OfKeys.{columns-after, columns-sound, columns-read}
use Rattle.pt_parse_dml.specs.declared.targets.Target.{Target}
use Rattle.pt_parse_dml.specs.Rows.{ArePartitions, IsTarget, IsInto, IsValue, IsRow, AreRows, AreNewRows, IsAssign, AreAssigns}
use Rattle.pt_parse_dml.specs.Rows as rule
use Rattle.pt_parse_dml.specs.RowReader.{partitions, with_parts, target, past_into, expression, value_spec, value_rows, with_columns, with_rows, new_rows, assigned_to, assign, assigns}
use Rattle.pt_parse_dml.proofs.Stops.{Finishes, Stops, in_parens-stop, is_apart, expr-begins}
use Rattle.pt_parse_dml.proofs.Listing.{carried, listed-read}

-- ---- what each rule takes

pub partitions-after : {ts rest : Symbols} {names : List (List ℕ)} → ArePartitions ts names rest → After ts rest
partitions-after (rule.partitions c) = later (columns-after c)

parts-up_to : {ts rest : Symbols} {parts : Option (List (List ℕ))} → IsOptional ArePartitions ts parts rest → UpTo ts rest
parts-up_to d = optional-up_to ArePartitions (λ ts rest x e. partitions-after e) d

pub target-after : {ts rest : Symbols} {on : Target} → IsTarget ts on rest → After ts rest
target-after (rule.target n p) = name-after n ▸* parts-up_to p

pub into-up_to : {ts rest : Symbols} → IsInto ts tt rest → UpTo ts rest
into-up_to rule.without = nothing
into-up_to rule.into = something first

pub columns-up_to : {ts rest : Symbols} {columns : Option (List (List ℕ))} → IsOptional AreColumns ts columns rest → UpTo ts rest
columns-up_to d = optional-up_to AreColumns (λ ts rest x e. columns-after e) d

pub value-after : {ts rest : Symbols} {x : ValueSpec} → IsValue ts x rest → After ts rest
value-after rule.default = first
value-after (rule.expression d) = expr-after d

pub row-after : {ts rest : Symbols} {x : List ValueSpec} → IsRow ts x rest → After ts rest
row-after d = tuple-after IsValue (λ ts rest x v. value-after v) d

pub assign-after : {ts rest : Symbols} {x : List ℕ × ValueSpec} → IsAssign ts x rest → After ts rest
assign-after (rule.assign n v) = name-after n ▸ later (value-after v)

pub assigns-after : {ts rest : Symbols} {xs : List (List ℕ × ValueSpec)} → AreAssigns ts xs rest → After ts rest
assigns-after (rule.assigns l) = later (listed-after IsAssign (λ ts rest x d. assign-after d) l)

-- ---- what is read is spelled

partitions-sound : (ts : Symbols) → Sound ArePartitions ts (partitions ts)
unfolding partitions
partitions-sound (Fixed (Other word.Partition) ∷ ts) = carried AreColumns ArePartitions ts _ (tuple named ts) (columns-sound ts) (λ names rest c. rule.partitions c)
partitions-sound _ = tt

pub target-sound : (ts : Symbols) → Sound IsTarget ts (target ts)
unfolding target
target-sound ts =
    and_then-sound IsName IsTarget ts ts (named ts) _ (name-sound ts)
    (λ table us n. rule.target n (optional-sound ArePartitions partitions partitions-sound us))

into-sound : (ts : Symbols) → IsInto ts tt (past_into ts)
unfolding past_into
into-sound (Fixed (Other word.Into) ∷ ts) = rule.into
into-sound _ = rule.without

-- over the reader of expressions
module _ (expr : Reader Expr) (sound : (ts : Symbols) → Sound IsExpr ts (expr ts)) where
  expression-sound : (ts : Symbols) → Sound IsValue ts (expression expr ts)
  expression-sound ts = mapped-sound IsExpr IsValue ts ts (expr ts) value.Value (sound ts) (λ x rest d. rule.expression d)

  value-sound : (ts : Symbols) → Sound IsValue ts (value_spec expr ts)
  unfolding value_spec
  value-sound (Fixed (Other word.Default) ∷ ts) = rule.default
  value-sound ts = expression-sound ts

  row-sound : (ts : Symbols) → Sound IsRow ts (tuple (value_spec expr) ts)
  row-sound ts = tuple-sound IsValue (value_spec expr) value-sound ts

  rows-sound : (ts : Symbols) → Sound AreRows ts (value_rows expr ts)
  unfolding value_rows
  rows-sound (Fixed (Other word.Values) ∷ ts) =
      carried (AreListed IsRow) AreRows ts _ (several (tuple (value_spec expr)) ts) (several-sound IsRow (tuple (value_spec expr)) row-sound ts)
      (λ values rest d. rule.rows d)
  rows-sound _ = tt

  with_rows-sound : (ts us vs : Symbols) (on : Target) → IsInto ts tt us → IsTarget us on vs → Sound AreNewRows ts (with_rows expr on vs)
  with_rows-sound ts us vs on i t =
      let c = optional (tuple named) vs in
      mapped-sound AreRows AreNewRows c.1 ts (value_rows expr c.1) _ (rows-sound c.1)
      (λ values rest d. rule.new_rows i t (optional-sound AreColumns (tuple named) columns-sound vs) d)

  pub new_rows-sound : (ts : Symbols) → Sound AreNewRows ts (new_rows expr ts)
  unfolding new_rows
  new_rows-sound ts =
      and_then-sound IsTarget AreNewRows (past_into ts) ts (target (past_into ts)) (with_rows expr) (target-sound (past_into ts))
      (λ on vs t. with_rows-sound ts (past_into ts) vs on (into-sound ts) t)

  assigned_to-sound : (ts us : Symbols) (column : List ℕ) → IsName ts column us → Sound IsAssign ts (assigned_to expr column us)
  unfolding assigned_to
  assigned_to-sound ts (Fixed (Compare cmp.Eq) ∷ us) column n =
      mapped-sound IsValue IsAssign us ts (value_spec expr us) (λ x. (column, x)) (value-sound us) (λ x rest v. rule.assign n v)
  assigned_to-sound ts _ column n = tt

  assign-sound : (ts : Symbols) → Sound IsAssign ts (assign expr ts)
  unfolding assign
  assign-sound ts = and_then-sound IsName IsAssign ts ts (named ts) (assigned_to expr) (name-sound ts) (λ column us n. assigned_to-sound ts us column n)

  pub assigns-sound : (ts : Symbols) → Sound AreAssigns ts (assigns expr ts)
  unfolding assigns
  assigns-sound (Fixed (Other word.Set) ∷ ts) =
      carried (AreListed IsAssign) AreAssigns ts _ (several (assign expr) ts) (several-sound IsAssign (assign expr) assign-sound ts) (λ xs rest d. rule.assigns d)
  assigns-sound _ = tt

-- ---- what is spelled is read

partitions-read : {ts rest : Symbols} {names : List (List ℕ)} → ArePartitions ts names rest → partitions ts ≡ Some (names, rest)
unfolding partitions
partitions-read (rule.partitions c) = columns-read c

pub target-read : {ts rest : Symbols} {on : Target} → IsTarget ts on rest → partitions rest ≡ None → target ts ≡ Some (on, rest)
unfolding target
target-read (rule.target {table = table} n p) none =
    and_then-is _ (name-read n) (ap (with_parts table) (optional-read ArePartitions partitions (λ x d. partitions-read d) none p))

into-read : {ts us rest : Symbols} {on : Target} → IsInto ts tt us → IsTarget us on rest → past_into ts ≡ us
unfolding past_into
into-read rule.without (rule.target plain_name p) = refl
into-read rule.without (rule.target quoted_name p) = refl
into-read rule.into t = refl

-- neither columns nor partitions stand at VALUES
rows-no_columns : {ts rest : Symbols} {values : List (List ValueSpec)} → AreRows ts values rest → tuple named ts ≡ None
unfolding parens
rows-no_columns (rule.rows l) = refl

columns-no_partitions : {ts us rest : Symbols} {columns : Option (List (List ℕ))} {values : List (List ValueSpec)} → IsOptional AreColumns ts columns us
    → AreRows us values rest → partitions ts ≡ None
unfolding partitions
columns-no_partitions absent (rule.rows l) = refl
columns-no_partitions (present (in_parens l)) r = refl

-- no partitions stand at SET
pub assigns-no_partitions : {ts rest : Symbols} {xs : List (List ℕ × ValueSpec)} → AreAssigns ts xs rest → partitions ts ≡ None
unfolding partitions
assigns-no_partitions (rule.assigns l) = refl

module _ (expr : Reader Expr) (P : Symbols → Type 0) (less : (s : Symbol) (ts : Symbols) → P (s ∷ ts) → P ts)
    (exact : (ts rest : Symbols) (x : Expr) → IsExpr ts x rest → Stops rest → P ts → expr ts ≡ Some (x, rest)) where
  no_default : (ts : Symbols) → is_apart ts ≡ false → value_spec expr ts ≡ expression expr ts
  unfolding value_spec
  no_default (Fixed (Other word.Default) ∷ ts) e = absurd (true≢false e)
  no_default _ e = refl

  pub value-read : (ts rest : Symbols) (x : ValueSpec) → IsValue ts x rest → Stops rest → P ts → value_spec expr ts ≡ Some (x, rest)
  unfolding value_spec
  value-read _ _ _ rule.default s p = refl
  value-read ts rest _ (rule.expression {x = x} d) s p = no_default ts (expr-begins d) ∙ mapped-is value.Value (exact ts rest x d s p)

  row-read : (ts rest : Symbols) (x : List ValueSpec) → IsRow ts x rest → Stops rest → P ts → tuple (value_spec expr) ts ≡ Some (x, rest)
  row-read ts rest x d s p =
      tuple-read P less IsValue (value_spec expr) (λ ts rest x v. value-after v) (λ ts rest x v ends p. value-read ts rest x v (in_parens-stop ends) p) d p

  rows-read : {ts rest : Symbols} {values : List (List ValueSpec)} → AreRows ts values rest → Finishes rest → P ts → value_rows expr ts ≡ Some (values, rest)
  unfolding value_rows
  rows-read (rule.rows l) f p = listed-read P less IsRow (tuple (value_spec expr)) (λ ts rest x d. row-after d) row-read l f (less _ _ p)

  pub new_rows-read : {ts rest : Symbols} {new : NewRows} → AreNewRows ts new rest → Finishes rest → P ts → new_rows expr ts ≡ Some (new, rest)
  unfolding new_rows
  new_rows-read (rule.new_rows {on = on} i t c r) f p =
      let q = up_to-keeps P less (columns-up_to c) (after-keeps P less (target-after t) (up_to-keeps P less (into-up_to i) p)) in
      ap (λ (us : Symbols). and_then (target us) (with_rows expr)) (into-read i t)
      ∙ and_then-is (with_rows expr) (target-read t (columns-no_partitions c r))
      (ap (with_columns expr on) (optional-read AreColumns (tuple named) (λ x d. columns-read d) (rows-no_columns r) c) ∙ mapped-is _ (rows-read r f q))

  assign-read : (ts rest : Symbols) (x : List ℕ × ValueSpec) → IsAssign ts x rest → Stops rest → P ts → assign expr ts ≡ Some (x, rest)
  unfolding assign assigned_to
  assign-read ts rest _ (rule.assign {us = us} {column = column} {x = x} n v) s p =
      and_then-is (assigned_to expr) (name-read n)
      (mapped-is (λ (x : ValueSpec). (column, x)) (value-read us rest x v s (less _ _ (after-keeps P less (name-after n) p))))

  pub assigns-read : {ts rest : Symbols} {xs : List (List ℕ × ValueSpec)} → AreAssigns ts xs rest → Finishes rest → P ts → assigns expr ts ≡ Some (xs, rest)
  unfolding assigns
  assigns-read (rule.assigns l) f p = listed-read P less IsAssign (assign expr) (λ ts rest x d. assign-after d) assign-read l f (less _ _ p)
