-- How two tuples compare, item by item.
use Rattle.std.proofs.Common.{◌≡◌, ℕ, zero, suc, ◌<◌, ◌≤◌, true, false, List, [], ◌∷◌, map, length, drop, get_or, slice_get, refl, sym, ap, ◌∙◌, arith, Some, None}
use Rattle.std.specs.declared.cmp.Ordering.{Ordering}
use Rattle.std.specs.declared.cmp.Ordering.TheVariants.{Less, Equal, Greater}
use Rattle.std.specs.Ordering.{ordering_then, is_ne}
use Rattle.std.specs.Option.{option_map}
use Rattle.std.proofs.Math.Seq.{drop-length, drop-nil}
use Rattle.std.proofs.lemmas.Option.{slice_get-map, slice_get_past}
use Rattle.pt_value.specs.declared.value.Value.{Value}
use Rattle.pt_value.specs.declared.value.Value.TheVariants.{Null}
use Rattle.pt_ast.specs.declared.table.Bound.{Bound}
use Rattle.pt_ast.specs.declared.table.Bound.TheVariants.{Val}
use Rattle.pt_ast.specs.Bounds.{bound_cmp, tuple_cmp, cells_at}

pub get_here : {X : Type 0} (xs : List X) (i : ℕ) (x : X) → i < length xs → x ≡ get_or xs i x → slice_get xs i ≡ Some x
get_here [] i x within e = absurd (omega (arith, within))
get_here (y ∷ ys) zero x within e = ap Some (sym e)
get_here (y ∷ ys) (suc i) x within e = get_here ys i x (omega (arith, within)) e

pub column_item : (cells : List Value) (columns : List ℕ) (i column : ℕ) → i < length columns → column ≡ get_or columns i column
    → slice_get (map Val (cells_at cells columns)) i ≡ Some (Val (get_or cells column Null))
column_item cells columns i column within e =
    slice_get-map Val (cells_at cells columns) i ∙ ap (option_map Val) (slice_get-map (λ n. get_or cells n Null) columns i ∙ ap (option_map (λ n. get_or cells n Null)) (get_here columns i column within e))

pub no_column_item : (cells : List Value) (columns : List ℕ) (i : ℕ) → length columns ≤ i → slice_get (map Val (cells_at cells columns)) i ≡ None
no_column_item cells columns i past =
    slice_get-map Val (cells_at cells columns) i ∙ ap (option_map Val) (slice_get-map (λ n. get_or cells n Null) columns i ∙ ap (option_map (λ n. get_or cells n Null)) (slice_get_past columns i past))

pub then_unequal : (o p : Ordering) → is_ne o ≡ true → ordering_then o p ≡ o
then_unequal Less p e = refl
then_unequal Equal p e = cc
then_unequal Greater p e = refl

pub then_equal : (o p : Ordering) → is_ne o ≡ false → ordering_then o p ≡ p
then_equal Less p e = cc
then_equal Equal p e = refl
then_equal Greater p e = cc

pub one_item : (tuple items : List Bound) (i j : ℕ) (bound item : Bound) → j ≡ suc i → i < length tuple → bound ≡ get_or tuple i bound → slice_get items i ≡ Some item
    → tuple_cmp (drop i tuple) (drop i items) ≡ ordering_then (bound_cmp bound item) (tuple_cmp (drop j tuple) (drop j items))
one_item tuple items i j bound item next within b e = go tuple items i within b e ∙ ap (λ k. ordering_then (bound_cmp bound item) (tuple_cmp (drop k tuple) (drop k items))) (sym next)
  where
    go : (tuple items : List Bound) (i : ℕ) → i < length tuple → bound ≡ get_or tuple i bound → slice_get items i ≡ Some item
        → tuple_cmp (drop i tuple) (drop i items) ≡ ordering_then (bound_cmp bound item) (tuple_cmp (drop (suc i) tuple) (drop (suc i) items))
    go [] items i within b e = absurd (omega (arith, within))
    go (x ∷ xs) [] i within b e = cc
    go (x ∷ xs) (y ∷ ys) zero within b e = let f : y ≡ item = cc in ap (λ z. ordering_then (bound_cmp z y) (tuple_cmp xs ys)) (sym b) ∙ ap (λ z. ordering_then (bound_cmp bound z) (tuple_cmp xs ys)) f
    go (x ∷ xs) (y ∷ ys) (suc i) within b e = go xs ys i (omega (arith, within)) b e

pub longer : (tuple items : List Bound) (i : ℕ) → i < length tuple → slice_get items i ≡ None → tuple_cmp (drop i tuple) (drop i items) ≡ Greater
longer [] items i within e = absurd (omega (arith, within))
longer (x ∷ xs) [] zero within e = refl
longer (x ∷ xs) [] (suc i) within e = ap (tuple_cmp (drop i xs)) (sym (drop-nil i)) ∙ longer xs [] i (omega (arith, within)) refl
longer (x ∷ xs) (y ∷ ys) zero within e = cc
longer (x ∷ xs) (y ∷ ys) (suc i) within e = longer xs ys i (omega (arith, within)) e

pub shorter : (tuple items : List Bound) (item : Bound) → slice_get items (length tuple) ≡ Some item → tuple_cmp (drop (length tuple) tuple) (drop (length tuple) items) ≡ Less
shorter [] [] item e = cc
shorter [] (y ∷ ys) item e = refl
shorter (x ∷ xs) [] item e = cc
shorter (x ∷ xs) (y ∷ ys) item e = shorter xs ys item e

pub as_long : (tuple items : List Bound) → slice_get items (length tuple) ≡ None → tuple_cmp (drop (length tuple) tuple) (drop (length tuple) items) ≡ Equal
as_long [] [] e = refl
as_long [] (y ∷ ys) e = cc
as_long (x ∷ xs) [] e = ap (λ t. tuple_cmp t []) (drop-length xs)
as_long (x ∷ xs) (y ∷ ys) e = as_long xs ys e
