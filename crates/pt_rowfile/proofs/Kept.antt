-- The rows as a map from serials to cells: what the map does, the rows do.
use Rattle.std.proofs.Common.{◌≡◌, ℕ, Bool, true, false, not, ◌&&◌, ◌||◌, cond, ◌==◌, List, [], ◌∷◌, Option, Some, None, is_some, refl, sym, ap, ap₂, ◌∙◌, subst, Ordering, Less, Equal, Greater}
use Rattle.std.specs.Prelude.{nat_lt}
use Rattle.std.specs.Ordering.{is_eq, match_ordering, nat_cmp}
use Rattle.std.specs.Cmp.{nat_cmp_total}
use Rattle.std.specs.FinMap.{nat_cmp-IsAntisymmetric}
use Rattle.std.specs.Map.{lookup, remove_entry}
use Rattle.std.specs.BTreeMap.{insert_entry, is_at}
use Rattle.std.proofs.lemmas.Cmp.{tied_itself}
use Rattle.std.proofs.lemmas.Bool.Decides.{Decides-eqb}
use Rattle.pt_value.specs.declared.value.Value.{Value}
use Rattle.pt_ast.specs.declared.database.Row.{Row}
use Rattle.pt_rowfile.specs.declared.record.Record.TheVariants.{Put, Delete}
use Rattle.pt_rowfile.specs.Rows.{after, has_row, is_serial, with_row, without_row}
use Rattle.pt_rowfile.specs.Kept.{row_of, rows_in}

abbrev Entry : Type 0
Entry = ℕ × List Value

tie : (o : Ordering) → is_eq o ≡ true → o ≡ Equal
tie Less h = cc
tie Equal h = refl
tie Greater h = cc

-- the map's test of a serial and the rows'
same_test : (k n : ℕ) → is_at (nat_cmp k) n ≡ (n == k)
same_test k n = go (n == k) refl (is_at (nat_cmp k) n) refl
  where
    go : (b : Bool) → (n == k) ≡ b → (t : Bool) → is_at (nat_cmp k) n ≡ t → t ≡ b
    go true h true e = refl
    go false h false e = refl
    go true h false e =
        let itself : is_at (nat_cmp k) n ≡ true = subst (λ m. is_at (nat_cmp k) m ≡ true) (sym ((Decides-eqb n k).0 h)) (ap is_eq (tied_itself nat_cmp_total k)) in
        absurd cc
    go false h true e = let equal : (n == k) ≡ true = (Decides-eqb n k).1 (sym (nat_cmp-IsAntisymmetric k n (tie (nat_cmp k n) e))) in absurd cc

has_is : (k : ℕ) (es : List Entry) → has_row k (rows_in es) ≡ is_some (lookup (is_at (nat_cmp k)) es)
has_is k [] = refl
has_is k (e ∷ es) = ap (λ b. b || has_row k (rows_in es)) (sym (same_test k e.0)) ∙ go (is_at (nat_cmp k) e.0) (has_is k es)
  where
    go : (b : Bool) → has_row k (rows_in es) ≡ is_some (lookup (is_at (nat_cmp k)) es) → (b || has_row k (rows_in es)) ≡ is_some (cond b (Some e.1) (lookup (is_at (nat_cmp k)) es))
    go true h = refl
    go false h = h

without_is : (k : ℕ) (es : List Entry) → without_row k (rows_in es) ≡ rows_in (remove_entry (is_at (nat_cmp k)) es)
without_is k [] = refl
without_is k (e ∷ es) =
    ap (λ b. cond b (rows_in es) (row_of e ∷ without_row k (rows_in es))) (sym (same_test k e.0)) ∙ go (is_at (nat_cmp k) e.0) (without_is k es)
  where
    go : (b : Bool) → without_row k (rows_in es) ≡ rows_in (remove_entry (is_at (nat_cmp k)) es)
        → cond b (rows_in es) (row_of e ∷ without_row k (rows_in es)) ≡ rows_in (cond b es (e ∷ remove_entry (is_at (nat_cmp k)) es))
    go true h = refl
    go false h = ap (λ rows. row_of e ∷ rows) h

with_is : (k : ℕ) (cells : List Value) (es : List Entry) → lookup (is_at (nat_cmp k)) es ≡ None → with_row (row_of (k, cells)) (rows_in es) ≡ rows_in (insert_entry nat_cmp es k cells)
with_is k cells [] none = refl
with_is k cells (e ∷ es) none = go (nat_lt k e.0) (k == e.0) none (with_is k cells es)
  where
    go : (t u : Bool) → cond (is_eq (cond t Less (cond u Equal Greater))) (Some e.1) (lookup (is_at (nat_cmp k)) es) ≡ None
        → (lookup (is_at (nat_cmp k)) es ≡ None → with_row (row_of (k, cells)) (rows_in es) ≡ rows_in (insert_entry nat_cmp es k cells))
        → cond t (row_of (k, cells) ∷ row_of e ∷ rows_in es) (row_of e ∷ with_row (row_of (k, cells)) (rows_in es))
        ≡ rows_in (match_ordering (cond t Less (cond u Equal Greater)) ((k, cells) ∷ e ∷ es) ((e.0, cells) ∷ es) (e ∷ insert_entry nat_cmp es k cells))
    go true u h more = refl
    go false true h more = absurd (let bad : Some e.1 ≡ None = h in cc)
    go false false h more = ap (λ rows. row_of e ∷ rows) (more h)

-- # Records

pub put_kept : (row : Row) (es later : List Entry) → is_serial row.serial ≡ true → is_some (lookup (is_at (nat_cmp row.serial)) es) ≡ false → later ≡ insert_entry nat_cmp es row.serial row.cells
    → after (Put row) (rows_in es) ≡ Some (rows_in later)
put_kept row es later serial none changed =
    ap₂ (λ (a b : Bool). cond (a && not b) (Some (with_row row (rows_in es))) None) serial (has_is row.serial es ∙ none)
    ∙ ap Some (with_is row.serial row.cells es (absent (lookup (is_at (nat_cmp row.serial)) es) none))
    ∙ ap (λ (xs : List Entry). Some (rows_in xs)) (sym changed)
  where
    absent : (o : Option (List Value)) → is_some o ≡ false → o ≡ None
    absent None h = refl
    absent (Some x) h = cc

pub put_refused : (row : Row) (es : List Entry) (there : Bool) → there ≡ is_some (lookup (is_at (nat_cmp row.serial)) es) → (is_serial row.serial && not there) ≡ false → after (Put row) (rows_in es) ≡ None
put_refused row es there is bad =
    ap (λ b. cond b (Some (with_row row (rows_in es))) None) (ap (λ t. is_serial row.serial && not t) (has_is row.serial es ∙ sym is) ∙ bad)

pub delete_kept : (serial : ℕ) (es later : List Entry) (there : Bool) → there ≡ is_some (lookup (is_at (nat_cmp serial)) es) → later ≡ remove_entry (is_at (nat_cmp serial)) es
    → after (Delete serial) (rows_in es) ≡ cond there (Some (rows_in later)) None
delete_kept serial es later there is changed =
    ap₂ (λ (b : Bool) (rows : List Row). cond b (Some rows) None) (has_is serial es ∙ sym is) (without_is serial es ∙ ap rows_in (sym changed))

pub put_done : (row : Row) (es later : List Entry) (may : Bool) → may ≡ (is_serial row.serial && not (is_some (lookup (is_at (nat_cmp row.serial)) es))) → may ≡ true → later ≡ insert_entry nat_cmp es row.serial row.cells
    → after (Put row) (rows_in es) ≡ Some (rows_in later)
put_done row es later may is done changed =
    let both : (is_serial row.serial && not (is_some (lookup (is_at (nat_cmp row.serial)) es))) ≡ true = sym is ∙ done in
    put_kept row es later (left_of (is_serial row.serial) (not (is_some (lookup (is_at (nat_cmp row.serial)) es))) both)
    (absent (is_some (lookup (is_at (nat_cmp row.serial)) es)) (right_of (is_serial row.serial) (not (is_some (lookup (is_at (nat_cmp row.serial)) es))) both)) changed
  where
    left_of : (a b : Bool) → (a && b) ≡ true → a ≡ true
    left_of true b h = refl
    left_of false b h = h

    right_of : (a b : Bool) → (a && b) ≡ true → b ≡ true
    right_of true b h = h
    right_of false b h = cc

    absent : (b : Bool) → not b ≡ true → b ≡ false
    absent true h = cc
    absent false h = refl
