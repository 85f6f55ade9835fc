-- Truth tables.
use Rattle.std.proofs.Common.{◌≡◌, Bool, true, false, not, ◌&&◌, ◌||◌, refl, sym, ◌∙◌}
use Rattle.std.proofs.lemmas.Bool.{true≢false, false≢true}

pub or_false : (a : Bool) → (a || false) ≡ a
or_false true = refl
or_false false = refl

pub and_false : (a : Bool) → (a && false) ≡ false
and_false true = refl
and_false false = refl

pub or_assoc : (a b c : Bool) → ((a || b) || c) ≡ (a || (b || c))
or_assoc true b c = refl
or_assoc false b c = refl

pub and_comm : (a b : Bool) → (a && b) ≡ (b && a)
and_comm true true = refl
and_comm true false = refl
and_comm false true = refl
and_comm false false = refl

-- of two tests the one that implies the other
pub and_implied : (a b : Bool) → (b ≡ true → a ≡ true) → b ≡ (a && b)
and_implied true b h = refl
and_implied false true h = absurd (false≢true (h refl))
and_implied false false h = refl

pub and_implying : (a b : Bool) → (a ≡ true → b ≡ true) → a ≡ (a && b)
and_implying true b h = sym (h refl)
and_implying false b h = refl

pub or_rest : (a b : Bool) → a ≡ false → (a || b) ≡ true → b ≡ true
or_rest true b e h = absurd (true≢false e)
or_rest false b e h = h

-- at or above two beginnings, and below the first of two ends
pub share_bool : (a b s t : Bool) → (t ≡ true → s ≡ true) → ((a && b) && not s) ≡ ((a && not s) && (b && not t))
share_bool false b s t h = refl
share_bool true false true t h = refl
share_bool true false false t h = refl
share_bool true true true t h = refl
share_bool true true false true h = absurd (false≢true (h refl))
share_bool true true false false h = refl

-- in both of two sets that begin with p and q, where nothing of p is behind q
pub meet_bool : (p a q b : Bool) → (p ≡ true → b ≡ false) → ((p || a) && (q || b)) ≡ ((p && q) || (a && (q || b)))
meet_bool true true true b h = refl
meet_bool true true false b h = h refl ∙ sym (h refl)
meet_bool true false true b h = refl
meet_bool true false false b h = h refl
meet_bool false a q b h = refl

-- from `low` on and neither in the next span nor behind it
pub outside_bool : (low from past rest : Bool) → (past ≡ true → from ≡ true) → (from ≡ true → low ≡ true) → (rest ≡ true → past ≡ true)
    → (low && not ((from && not past) || rest)) ≡ ((low && not from) || (past && not rest))
outside_bool low false true rest h i j = absurd (false≢true (h refl))
outside_bool low false false true h i j = absurd (false≢true (j refl))
outside_bool true false false false h i j = refl
outside_bool false false false false h i j = refl
outside_bool false true past rest h i j = absurd (false≢true (i refl))
outside_bool true true true rest h i j = refl
outside_bool true true false true h i j = absurd (false≢true (j refl))
outside_bool true true false false h i j = refl

-- neither outside of one set nor outside of another
pub join_bool : (a b : Bool) → not (not a && not b) ≡ (a || b)
join_bool true b = refl
join_bool false true = refl
join_bool false false = refl
