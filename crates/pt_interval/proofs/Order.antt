-- What the order of a line gives.
use Rattle.std.proofs.Common.{◌≡◌, Bool, true, false, refl, sym, ap, ◌∙◌, Option, Some, None}
use Rattle.std.specs.declared.cmp.Ordering.{Ordering}
use Rattle.std.specs.declared.cmp.Ordering.TheVariants.{Less, Equal, Greater}
use Rattle.std.specs.Ordering.{is_le, is_gt, is_eq, ordering_reverse}
use Rattle.std.specs.Cmp.{IsTotalOrder, upto, tied_itself}
use Rattle.std.proofs.lemmas.Bool.{true≢false, false≢true}
use Rattle.pt_interval.specs.Line.{at_most, is_past}

le_from_gt : (o : Ordering) → is_gt o ≡ false → is_le o ≡ true
le_from_gt Less e = refl
le_from_gt Equal e = refl
le_from_gt Greater e = absurd (true≢false e)

gt_from_le : (o : Ordering) → is_le o ≡ true → is_gt o ≡ false
gt_from_le Less e = refl
gt_from_le Equal e = refl
gt_from_le Greater e = absurd (false≢true e)

turned_le : (o p : Ordering) → o ≡ ordering_reverse p → is_le o ≡ false → is_le p ≡ true
turned_le o Less t e = refl
turned_le o Equal t e = refl
turned_le o Greater t e = absurd (true≢false (sym (ap is_le t) ∙ e))

less_from_le : (o p : Ordering) → o ≡ ordering_reverse p → is_le p ≡ false → o ≡ Less
less_from_le o Less t e = absurd (true≢false e)
less_from_le o Equal t e = absurd (true≢false e)
less_from_le o Greater t e = t

le_from_less : (o p : Ordering) → o ≡ ordering_reverse p → o ≡ Less → is_le p ≡ false
le_from_less o Less t e = absurd (true≢false (sym (ap is_gt t) ∙ ap is_gt e))
le_from_less o Equal t e = absurd (true≢false (sym (ap is_eq t) ∙ ap is_eq e))
le_from_less o Greater t e = refl

both_le : (o p : Ordering) → o ≡ ordering_reverse p → is_le o ≡ true → is_le p ≡ true → o ≡ Equal
both_le o Less t e f = absurd (false≢true (sym (ap is_le t) ∙ e))
both_le o Equal t e f = t
both_le o Greater t e f = absurd (false≢true f)

module _ {T : Type 0} {cmp : T → T → Ordering} (order : IsTotalOrder cmp) where
  pub trans : (a b c : T) → at_most cmp a b ≡ true → at_most cmp b c ≡ true → at_most cmp a c ≡ true
  trans a b c h k = le_from_gt _ (upto order a b c (gt_from_le _ h) (gt_from_le _ k))

  pub turn : (a b : T) → at_most cmp a b ≡ false → at_most cmp b a ≡ true
  turn a b h = turned_le (cmp a b) (cmp b a) (order.antisymm a b) h

  pub reflexive : (a : T) → at_most cmp a a ≡ true
  reflexive a = ap is_le (tied_itself order a)

  pub less : (a b : T) → at_most cmp b a ≡ false → cmp a b ≡ Less
  less a b h = less_from_le (cmp a b) (cmp b a) (order.antisymm a b) h

  pub not_above : (a b : T) → cmp a b ≡ Less → at_most cmp b a ≡ false
  not_above a b h = le_from_less (cmp a b) (cmp b a) (order.antisymm a b) h

  pub level : (a b : T) → at_most cmp a b ≡ true → at_most cmp b a ≡ true → cmp a b ≡ Equal
  level a b h k = both_le (cmp a b) (cmp b a) (order.antisymm a b) h k

  pub past_more : (a b : T) (low : Option T) → at_most cmp a b ≡ true → is_past cmp a low ≡ true → is_past cmp b low ≡ true
  past_more a b None h past = past
  past_more a b (Some low) h past = trans low a b past h

  pub before_past : (v w : T) (to : Option T) → is_past cmp v to ≡ false → is_past cmp w to ≡ true → at_most cmp w v ≡ false
  before_past v w None before past = absurd (false≢true past)
  before_past v w (Some to) before past = by (at_most cmp w v) refl
    where
      by : (b : Bool) → at_most cmp w v ≡ b → b ≡ false
      by true e = absurd (true≢false (sym (trans to w v past e) ∙ before))
      by false e = refl

  pub before_end : (v w : T) (to : Option T) → is_past cmp v to ≡ false → is_past cmp w to ≡ true → at_most cmp v w ≡ true
  before_end v w to before past = turn w v (before_past v w to before past)
