-- Which rows a statement takes: what is read is spelled, and what is spelled is read.
use Rattle.std.proofs.Common.{◌≡◌, ℕ, ℤ, Bool, List, [], ◌∷◌, Option, Some, None, refl, ap, ◌∙◌}
use Rattle.pt_ast.specs.declared.tree.Cond.{Cond}
use Rattle.pt_ast.specs.declared.statement.Tail.{Tail}
use Rattle.pt_parse_expr.specs.declared.alphabet.Mark.TheVariants.{Other}
use Rattle.pt_parse_expr.specs.declared.alphabet.Reserved.TheVariants as word
use Rattle.pt_parse_expr.specs.declared.alphabet.Symbol.{Symbol}
use Rattle.pt_parse_expr.specs.declared.alphabet.Symbol.TheVariants.{Fixed}
use Rattle.pt_parse_expr.specs.Grammar.{Symbols, IsCond}
use Rattle.pt_parse_expr.specs.Reader.{Reader}
use Rattle.pt_parse_expr.proofs.Sound.{Sound}
use Rattle.pt_parse_expr.proofs.Eats.{cond-eats}
use Rattle.pt_parse_expr.proofs.Frame.{cond-framed}
use Rattle.pt_parse_ddl.specs.Words.{the, IsName}
use Rattle.pt_parse_ddl.specs.Lists.{IsOptional, absent, present, AreListed}
use Rattle.pt_parse_ddl.specs.Columns.{IsNumber, number}
use Rattle.pt_parse_ddl.specs.Steps.{optional, several, named, numbered}
use Rattle.pt_parse_ddl.proofs.After.{After, first, later, UpTo, nothing, something, ◌▸*◌, from_taken, after-keeps, name-after, optional-up_to, listed-after}
use Rattle.pt_parse_ddl.proofs.Sounding.{and_then-sound, name-sound, number-sound, optional-sound, several-sound}
use Rattle.pt_parse_ddl.proofs.Exact.{and_then-is, name-read, optional-read}
use Rattle.pt_parse_dml.specs.declared.tails.Source.{Source}
use Rattle.pt_parse_dml.specs.Rows.{IsTarget}
use Rattle.pt_parse_dml.specs.Tails.{IsWhere, IsDirection, IsOrder, AreOrders, IsLimit, or_none, IsTail, IsSource}
use Rattle.pt_parse_dml.specs.Tails as rule
use Rattle.pt_parse_dml.specs.RowReader.{partitions, target}
use Rattle.pt_parse_dml.specs.TailReader.{direction, directed, column_order, orders_by, orders, all_orders, limited, with_limit, with_order, with_cond, with_tail, condition, tail_of, taken_from, source}
use Rattle.pt_parse_dml.proofs.Stops.{Finishes, at_end, at_close, at_from, at_where, at_order, at_limit, Stops, at_comma, finished}
use Rattle.pt_parse_dml.proofs.Listing.{carried, listed-read}
use Rattle.pt_parse_dml.proofs.OfRows.{target-after, target-sound, target-read}

-- ---- what each rule takes

cond-after : {ts rest : Symbols} {c : Cond} → IsCond ts c rest → After ts rest
cond-after {ts} {rest} d = let f = cond-framed d in from_taken f.taken ts rest f.is (cond-eats d).shorter

pub where-after : {ts rest : Symbols} {c : Cond} → IsWhere ts c rest → After ts rest
where-after (rule.condition d) = later (cond-after d)

pub where-up_to : {ts rest : Symbols} {c : Option Cond} → IsOptional IsWhere ts c rest → UpTo ts rest
where-up_to d = optional-up_to IsWhere (λ ts rest x e. where-after e) d

direction-up_to : {ts rest : Symbols} {falls : Bool} → IsDirection ts falls rest → UpTo ts rest
direction-up_to rule.unsaid = nothing
direction-up_to rule.rising = something first
direction-up_to rule.falling = something first

pub order-after : {ts rest : Symbols} {x : List ℕ × Bool} → IsOrder ts x rest → After ts rest
order-after (rule.order n d) = name-after n ▸* direction-up_to d

pub orders-after : {ts rest : Symbols} {columns : List (List ℕ × Bool)} → AreOrders ts columns rest → After ts rest
orders-after (rule.orders l) = later (later (listed-after IsOrder (λ ts rest x d. order-after d) l))

pub orders-up_to : {ts rest : Symbols} {columns : Option (List (List ℕ × Bool))} → IsOptional AreOrders ts columns rest → UpTo ts rest
orders-up_to d = optional-up_to AreOrders (λ ts rest x e. orders-after e) d

pub limit-after : {ts rest : Symbols} {n : ℤ} → IsLimit ts n rest → After ts rest
limit-after (rule.limit number) = later first

-- ---- what is read is spelled

direction-sound : (ts : Symbols) → IsDirection ts (direction ts).0 (direction ts).1
unfolding direction
direction-sound (Fixed (Other word.Asc) ∷ ts) = rule.rising
direction-sound (Fixed (Other word.Desc) ∷ ts) = rule.falling
direction-sound _ = rule.unsaid

order-sound : (ts : Symbols) → Sound IsOrder ts (column_order ts)
unfolding column_order
order-sound ts = and_then-sound IsName IsOrder ts ts (named ts) directed (name-sound ts) (λ column us n. rule.order n (direction-sound us))

orders_by-sound : (ts : Symbols) → Sound AreOrders (the word.Order ∷ ts) (orders_by ts)
unfolding orders_by
orders_by-sound (Fixed (Other word.By) ∷ ts) =
    carried (AreListed IsOrder) AreOrders ts _ (several column_order ts) (several-sound IsOrder column_order order-sound ts) (λ columns rest d. rule.orders d)
orders_by-sound _ = tt

orders-sound : (ts : Symbols) → Sound AreOrders ts (orders ts)
unfolding orders
orders-sound (Fixed (Other word.Order) ∷ ts) = orders_by-sound ts
orders-sound _ = tt

limit-sound : (ts : Symbols) → Sound IsLimit ts (limited ts)
unfolding limited
limit-sound (Fixed (Other word.Limit) ∷ ts) = carried IsNumber IsLimit ts _ (numbered ts) (number-sound ts) (λ n rest d. rule.limit d)
limit-sound _ = tt

-- over the reader of conditions
module _ (cond : Reader Cond) (sound : (ts : Symbols) → Sound IsCond ts (cond ts)) where
  condition-sound : (ts : Symbols) → Sound IsWhere ts (condition cond ts)
  unfolding condition
  condition-sound (Fixed (Other word.Where) ∷ ts) = carried IsCond IsWhere ts _ (cond ts) (sound ts) (λ c rest d. rule.condition d)
  condition-sound _ = tt

  pub tail-sound : (ts : Symbols) → IsTail ts (tail_of cond ts).0 (tail_of cond ts).1
  unfolding tail_of
  tail-sound ts =
      let c = optional (condition cond) ts in
      let o = optional orders c.1 in
      rule.tail (optional-sound IsWhere (condition cond) condition-sound ts) (optional-sound AreOrders orders orders-sound c.1)
      (optional-sound IsLimit limited limit-sound o.1)

  taken-sound : (ts : Symbols) → Sound IsSource (the word.From ∷ ts) (taken_from cond ts)
  unfolding taken_from
  taken-sound ts = and_then-sound IsTarget IsSource ts _ (target ts) _ (target-sound ts) (λ on us t. rule.source t (tail-sound us))

  pub source-sound : (ts : Symbols) → Sound IsSource ts (source cond ts)
  unfolding source
  source-sound (Fixed (Other word.From) ∷ ts) = taken-sound ts
  source-sound _ = tt

-- ---- what is spelled is read

direction-read : {ts rest : Symbols} {falls : Bool} → IsDirection ts falls rest → Stops rest → direction ts ≡ (falls, rest)
unfolding direction
direction-read rule.unsaid at_comma = refl
direction-read rule.unsaid (finished at_end) = refl
direction-read rule.unsaid (finished at_close) = refl
direction-read rule.unsaid (finished at_from) = refl
direction-read rule.unsaid (finished at_where) = refl
direction-read rule.unsaid (finished at_order) = refl
direction-read rule.unsaid (finished at_limit) = refl
direction-read rule.rising s = refl
direction-read rule.falling s = refl

order-read : {ts rest : Symbols} {x : List ℕ × Bool} → IsOrder ts x rest → Stops rest → column_order ts ≡ Some (x, rest)
unfolding column_order
order-read (rule.order {column = column} n d) s =
    and_then-is directed (name-read n) (ap (λ (p : Bool × Symbols). Some ((column, p.0), p.1)) (direction-read d s))

orders-read : {ts rest : Symbols} {columns : List (List ℕ × Bool)} → AreOrders ts columns rest → Finishes rest → orders ts ≡ Some (columns, rest)
unfolding orders orders_by
orders-read (rule.orders l) f =
    listed-read (λ us. Unit {0}) (λ s us p. tt) IsOrder column_order (λ ts rest x d. order-after d) (λ ts rest x d s p. order-read d s) l f tt

limit-read : {ts rest : Symbols} {n : ℤ} → IsLimit ts n rest → limited ts ≡ Some (n, rest)
unfolding limited numbered
limit-read (rule.limit number) = refl

-- a list ends before LIMIT, and no ORDER BY stands there
limit-opens : {ts : Symbols} {n : Option ℤ} → IsOptional IsLimit ts n [] → Finishes ts × (orders ts ≡ None)
unfolding orders
limit-opens absent = (at_end, refl)
limit-opens (present (rule.limit d)) = (at_limit, refl)

-- a condition ends before ORDER BY
orders-open : {ts us : Symbols} {columns : Option (List (List ℕ × Bool))} {n : Option ℤ} → IsOptional AreOrders ts columns us → IsOptional IsLimit us n []
    → Finishes ts
orders-open absent l = (limit-opens l).0
orders-open (present (rule.orders o)) l = at_order

-- a list ends before a tail
pub tail-opens : {ts : Symbols} {t : Tail} → IsTail ts t [] → Finishes ts
tail-opens (rule.tail (present (rule.condition d)) o l) = at_where
tail-opens (rule.tail absent o l) = orders-open o l

tail-no_partitions : {ts : Symbols} {t : Tail} → IsTail ts t [] → partitions ts ≡ None
unfolding partitions
tail-no_partitions (rule.tail (present (rule.condition d)) o l) = refl
tail-no_partitions (rule.tail absent (present (rule.orders o)) l) = refl
tail-no_partitions (rule.tail absent absent (present (rule.limit d))) = refl
tail-no_partitions (rule.tail absent absent absent) = refl

module _ (cond : Reader Cond) (P : Symbols → Type 0) (less : (s : Symbol) (ts : Symbols) → P (s ∷ ts) → P ts)
    (exact : (ts rest : Symbols) (c : Cond) → IsCond ts c rest → Stops rest → P ts → cond ts ≡ Some (c, rest)) where
  condition-read : {ts rest : Symbols} {c : Cond} → IsWhere ts c rest → Stops rest → P ts → condition cond ts ≡ Some (c, rest)
  unfolding condition
  condition-read (rule.condition d) s p = exact _ _ _ d s (less _ _ p)

  no_condition : {ts us : Symbols} {columns : Option (List (List ℕ × Bool))} {n : Option ℤ} → IsOptional AreOrders ts columns us → IsOptional IsLimit us n []
      → condition cond ts ≡ None
  unfolding condition
  no_condition (present (rule.orders o)) l = refl
  no_condition absent (present (rule.limit d)) = refl
  no_condition absent absent = refl

  pub tail-read : {ts : Symbols} {t : Tail} → IsTail ts t [] → P ts → tail_of cond ts ≡ (t, [])
  unfolding tail_of limited
  tail-read (rule.tail {c = c} {columns = columns} {n = n} w o l) p =
      let ends = limit-opens l in
      ap with_cond (optional-read IsWhere (condition cond) (λ x d. condition-read d (finished (orders-open o l)) p) (no_condition o l) w)
      ∙ ap (λ q. with_order c (all_orders q)) (optional-read AreOrders orders (λ x d. orders-read d ends.0) ends.1 o)
      ∙ ap (with_limit c (or_none columns)) (optional-read IsLimit limited (λ x d. limit-read d) refl l)

  pub source-read : {ts : Symbols} {from : Source} → IsSource ts from [] → P ts → source cond ts ≡ Some (from, [])
  unfolding source taken_from
  source-read (rule.source {on = on} t d) p =
      and_then-is _ (target-read t (tail-no_partitions d)) (ap (with_tail on) (tail-read d (after-keeps P less (target-after t) (less _ _ p))))
