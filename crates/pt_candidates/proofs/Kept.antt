-- What holds of all rows, and of each two of them, holds of those that are arranged.
use Rattle.std.proofs.Common.{ℕ, ◌<◌, Bool, true, false, cond, List, [], ◌∷◌, length, take, get_or, Option, Some, None, ℤ, unsigned_abs, Ordering, is_gt, arith, sym, subst}
use Rattle.std.specs.List.{All, AllPairs}
use Rattle.std.proofs.lemmas.List.{get_or-take, length-take}
use Rattle.std.proofs.lemmas.List.Elements.{All-cons, All-head, All-tail, All-take}
use Rattle.std.proofs.lemmas.List.Kept.{AllPairs-cons}
use Rattle.pt_plain.proofs.Pairs.{pairs_head, pairs_tail}
use Rattle.pt_ast.specs.declared.database.Row.{Row}
use Rattle.pt_ast.specs.declared.statement.Tail.{Tail}
use Rattle.pt_ast.specs.declared.table.Column.{Column}
use Rattle.pt_checks.specs.Ordered.{in_order, put_in}
use Rattle.pt_checks.specs.Wanted.{arranged, cut, order_of, row_cmp}

module _ (P : Row → Type 0) where
  put_all : (cmp : Row → Row → Ordering) (x : Row) (ys : List Row) → P x → All P ys → All P (put_in cmp x ys)
  put_all cmp x [] here all = All-cons P x [] here all
  put_all cmp x (y ∷ ys) here all = by (is_gt (cmp x y)) (put_all cmp x ys here (All-tail P y ys all))
    where
      by : (t : Bool) → All P (put_in cmp x ys) → All P (cond t (y ∷ put_in cmp x ys) (x ∷ y ∷ ys))
      by true rest = All-cons P y (put_in cmp x ys) (All-head P y ys all) rest
      by false rest = All-cons P x (y ∷ ys) here all

  ordered_all : (cmp : Row → Row → Ordering) (xs : List Row) → All P xs → All P (in_order cmp xs)
  ordered_all cmp [] all = all
  ordered_all cmp (x ∷ xs) all = put_all cmp x (in_order cmp xs) (All-head P x xs all) (ordered_all cmp xs (All-tail P x xs all))

  cut_all : (limit : Option ℤ) (xs : List Row) → All P xs → All P (cut limit xs)
  cut_all None xs all = all
  cut_all (Some most) xs all = All-take P (unsigned_abs most) xs all

  pub arranged_all : (columns : List Column) (tail : Tail) (rows : List Row) → All P rows → All P (arranged columns tail rows)
  arranged_all columns tail rows all = cut_all tail.limit (in_order (row_cmp (order_of columns tail.order)) rows) (ordered_all (row_cmp (order_of columns tail.order)) rows all)

module _ (R : Row → Row → Type 0) (turned : (a b : Row) → R a b → R b a) where
  put_pairs : (cmp : Row → Row → Ordering) (x : Row) (ys : List Row) → All (R x) ys → AllPairs R ys → AllPairs R (put_in cmp x ys)
  put_pairs cmp x [] here pairs = AllPairs-cons R x [] here pairs
  put_pairs cmp x (y ∷ ys) here pairs = by (is_gt (cmp x y)) (put_pairs cmp x ys (All-tail (R x) y ys here) (pairs_tail R y ys pairs))
    where
      by : (t : Bool) → AllPairs R (put_in cmp x ys) → AllPairs R (cond t (y ∷ put_in cmp x ys) (x ∷ y ∷ ys))
      by true rest = AllPairs-cons R y (put_in cmp x ys) (put_all (R y) cmp x ys (turned x y (All-head (R x) y ys here)) (pairs_head R y ys pairs)) rest
      by false rest = AllPairs-cons R x (y ∷ ys) here pairs

  ordered_pairs : (cmp : Row → Row → Ordering) (xs : List Row) → AllPairs R xs → AllPairs R (in_order cmp xs)
  ordered_pairs cmp [] pairs = pairs
  ordered_pairs cmp (x ∷ xs) pairs = put_pairs cmp x (in_order cmp xs) (ordered_all (R x) cmp xs (pairs_head R x xs pairs)) (ordered_pairs cmp xs (pairs_tail R x xs pairs))

  take_pairs : (n : ℕ) (xs : List Row) → AllPairs R xs → AllPairs R (take n xs)
  take_pairs n xs pairs = λ i j d before below.
      let long = length-take n xs in
      let within : j < n = omega (arith, below, long) in
      let there : j < length xs = omega (arith, below, long) in
      subst (λ (a : Row). R a (get_or (take n xs) j d)) (sym (get_or-take n xs i d (omega (arith, before, within))))
      (subst (λ (b : Row). R (get_or xs i d) b) (sym (get_or-take n xs j d within)) (pairs i j d before there))

  cut_pairs : (limit : Option ℤ) (xs : List Row) → AllPairs R xs → AllPairs R (cut limit xs)
  cut_pairs None xs pairs = pairs
  cut_pairs (Some most) xs pairs = take_pairs (unsigned_abs most) xs pairs

  pub arranged_pairs : (columns : List Column) (tail : Tail) (rows : List Row) → AllPairs R rows → AllPairs R (arranged columns tail rows)
  arranged_pairs columns tail rows pairs = cut_pairs tail.limit (in_order (row_cmp (order_of columns tail.order)) rows) (ordered_pairs (row_cmp (order_of columns tail.order)) rows pairs)
