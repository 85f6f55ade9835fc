-- The positions that a list of columns stands for are below the number of columns.
use Rattle.std.proofs.Common.{◌≡◌, ℕ, zero, suc, ◌+◌, ◌<◌, List, [], ◌∷◌, ◌++◌, length, All, Option, Some, None, refl, ap, ◌∙◌, arith}
use Rattle.std.specs.List.{filter_map, range_with_len}
use Rattle.std.proofs.lemmas.List.Elements.{All-nil, All-cons}
use Rattle.std.proofs.lemmas.List.Quantifiers.{position-Some}
use Rattle.pt_ast.specs.declared.table.Column.{Column}
use Rattle.pt_expr.specs.Columns.{is_named}
use Rattle.pt_place.specs.Names.{column_of}

range_more : (a n : ℕ) → range_with_len a (n + 1) ≡ range_with_len a n ++ (a + n) ∷ []
range_more a zero = ap (λ k. k ∷ []) (omega arith)
range_more a (suc n) =
    let next : suc n + 1 ≡ suc (n + 1) = omega arith in
    ap (range_with_len a) next ∙ ap (λ l. a ∷ l) (range_more (a + 1) n ∙ ap (λ k. range_with_len (a + 1) n ++ k ∷ []) (omega arith))

pub one_more : (n : ℕ) → range_with_len 0 (n + 1) ≡ range_with_len 0 n ++ n ∷ []
one_more n = range_more 0 n ∙ ap (λ k. range_with_len 0 n ++ k ∷ []) (omega arith)

range_from : (a n top : ℕ) → a + n ≡ top → All (λ at. at < top) (range_with_len a n)
range_from a zero top is = All-nil (λ at. at < top)
range_from a (suc n) top is = All-cons (λ at. at < top) a (range_with_len (a + 1) n) (omega (arith, is)) (range_from (a + 1) n top (omega (arith, is)))

pub all_below : {A : Type 0} (xs ys : List A) (found : List ℕ) → xs ≡ ys → found ≡ range_with_len 0 (length xs) → All (λ at. at < length ys) found
all_below xs ys found same is = rw (is, same) (range_from 0 (length ys) (length ys) (omega arith))

pub found_below : (columns : List Column) (name : List ℕ) (at : ℕ) → column_of columns name ≡ Some at → at < length columns
found_below [] name at e = cc
found_below (column ∷ columns) name at e = (position-Some (is_named name) (column ∷ columns) at column e).0

pub listed_below : (columns : List Column) (names : List (List ℕ)) → All (λ at. at < length columns) (filter_map (column_of columns) names)
listed_below columns [] = All-nil (λ at. at < length columns)
listed_below columns (name ∷ names) = by (column_of columns name) refl (listed_below columns names)
  where
    by : (o : Option ℕ) → column_of columns name ≡ o → All (λ at. at < length columns) (filter_map (column_of columns) names) → All (λ at. at < length columns) (filter_map (column_of columns) (name ∷ names))
    by (Some at) e rest = rw e (All-cons (λ p. p < length columns) at (filter_map (column_of columns) names) (found_below columns name at e) rest)
    by None e rest = rw e rest
