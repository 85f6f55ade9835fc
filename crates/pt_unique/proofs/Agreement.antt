-- The entries of two rows agree exactly where the rows' cells agree on a key.
use Rattle.std.proofs.Common.{◌≡◌, ◌≢◌, ℕ, ◌+◌, ◌<◌, Bool, true, false, not, ◌&&◌, ◌||◌, ◌==◌, List, [], ◌∷◌, map, refl, ap, ap₂, ◌∙◌, arith}
use Rattle.std.specs.Prelude.{slice_index_or}
use Rattle.std.specs.List.{list_any, enumerate_from}
use Rattle.std.specs.Ordering.{eq_by_cmp}
use Rattle.std.specs.Cmp.Lexicographic.{pointwise}
use Rattle.pt_value.specs.Value.{value_cmp}
use Rattle.pt_value.specs.declared.value.Value.{Value}
use Rattle.pt_value.specs.declared.value.Value.TheVariants.{Null}
use Rattle.pt_ast.specs.Bounds.{cells_at}
use Rattle.pt_ast.specs.Keys.{is_null, agree, agree_on}
use Rattle.pt_unique.specs.Book.{is_whole, mark_eq, stands, shares}
use Rattle.pt_unique.specs.Laws.{Agreeing}
use Rattle.std.proofs.lemmas.Bool.{eq-eqb}
use Rattle.std.proofs.lemmas.Bool.Decides.{Decides-eqb}
use Rattle.pt_unique.proofs.Marks.{Mark, never}

swapped : (a b c d : Bool) → ((a && b) && (c && d)) ≡ ((a && c) && (b && d))
swapped true true c d = refl
swapped true false true d = refl
swapped true false false d = refl
swapped false b c d = refl

-- on one key
key_agrees : (a b : List Value) (key : List ℕ) → (is_whole (cells_at a key) && pointwise (eq_by_cmp value_cmp) (cells_at a key) (cells_at b key)) ≡ agree a b key
key_agrees a b [] = refl
key_agrees a b (column ∷ key) =
    let x = slice_index_or a column Null in
    let y = slice_index_or b column Null in
    swapped (not (is_null x)) (is_whole (cells_at a key)) (eq_by_cmp value_cmp x y) (pointwise (eq_by_cmp value_cmp) (cells_at a key) (cells_at b key))
    ∙ ap (λ t. (not (is_null x) && eq_by_cmp value_cmp x y) && t) (key_agrees a b key)

and_false : (a b : Bool) → b ≡ false → (a && b) ≡ false
and_false true b e = e
and_false false b e = refl

-- a mark of another number
apart : (n m : ℕ) (x y : List Value) → n ≢ m → (is_whole x && mark_eq (n, x) (m, y)) ≡ false
apart n m x y ne = and_false (is_whole x) (mark_eq (n, x) (m, y)) (ap (λ t. t && pointwise (eq_by_cmp value_cmp) x y) (never (n == m) (λ h. ne ((Decides-eqb n m).0 h))))

-- the marks of later keys have other numbers
later_apart : (n m : ℕ) (y : List Value) (xs : List (List Value)) → m < n → stands (enumerate_from n xs) (m, y) ≡ false
later_apart n m y [] lt = refl
later_apart n m y (x ∷ xs) lt = ap₂ (λ (s t : Bool). s || t) (apart n m x y (λ e. omega arith)) (later_apart (n + 1) m y xs (omega arith))

first_apart : (n m : ℕ) (x : List Value) (xs : List Mark) (ys : List (List Value)) → n < m → list_any (stands ((n, x) ∷ xs)) (enumerate_from m ys) ≡ list_any (stands xs) (enumerate_from m ys)
first_apart n m x xs [] lt = refl
first_apart n m x xs (y ∷ ys) lt =
    ap₂ (λ (s t : Bool). s || t) (ap (λ s. s || stands xs (m, y)) (apart n m x y (λ e. omega arith))) (first_apart n (m + 1) x xs ys (omega arith))

or_false : (a b : Bool) → b ≡ false → (a || b) ≡ a
or_false true b e = refl
or_false false b e = e

own_key : (n : ℕ) (x y : List Value) → (is_whole x && mark_eq (n, x) (n, y)) ≡ (is_whole x && pointwise (eq_by_cmp value_cmp) x y)
own_key n x y = ap (λ t. is_whole x && (t && pointwise (eq_by_cmp value_cmp) x y)) (eq-eqb n n refl)

agrees_from : (n : ℕ) (keys : List (List ℕ)) (a b : List Value) → shares (enumerate_from n (map (cells_at a) keys)) (enumerate_from n (map (cells_at b) keys)) ≡ agree_on keys a b
agrees_from n [] a b = refl
agrees_from n (key ∷ keys) a b =
    let x = cells_at a key in
    let y = cells_at b key in
    let xs = enumerate_from (n + 1) (map (cells_at a) keys) in
    ap₂ (λ (s t : Bool). s || t)
    (or_false (is_whole x && mark_eq (n, x) (n, y)) (stands xs (n, y)) (later_apart (n + 1) n y (map (cells_at a) keys) (omega arith)) ∙ own_key n x y ∙ key_agrees a b key)
    (first_apart n (n + 1) x xs (map (cells_at b) keys) (omega arith) ∙ agrees_from (n + 1) keys a b)

pub agreeing : Agreeing
agreeing keys a b = agrees_from 0 keys a b
