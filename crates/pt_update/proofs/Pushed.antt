-- One more row that goes and comes.
use Rattle.std.proofs.Common.{◌≡◌, ◌≢◌, ℕ, ◌==◌, Bool, true, false, cond, ◌||◌, List, [], ◌∷◌, ◌++◌, Option, Some, None, refl, sym, ap, ap₂, ◌∙◌, subst, true≢false}
use Rattle.std.specs.List.{All, list_any}
use Rattle.std.specs.Option.{option_or}
use Rattle.std.proofs.lemmas.Bool.{eq-eqb, ne_eqb, or_parts}
use Rattle.std.proofs.lemmas.List.{map-append}
use Rattle.std.proofs.lemmas.List.Elements.{All-cons, All-nil, All-push, All-weaker}
use Rattle.std.proofs.lemmas.List.Folds.{list_any-append}
use Rattle.std.proofs.lemmas.List.Quantifiers.{all_pairs_push}
use Rattle.pt_value.specs.declared.value.Value.{Value}
use Rattle.pt_ast.specs.declared.database.Row.{Row}
use Rattle.pt_ast.specs.declared.database.Spot.{Spot}
use Rattle.pt_db.specs.Rows.{row_at}
use Rattle.pt_db.proofs.Serials.{row_appended}
use Rattle.pt_holds.specs.RowChanges.{AreApart, AreOnce, changed_at, is_deleted, kept, rows_put}

-- # None of a list

none_of : {X : Type 0} (p : X → Bool) (xs : List X) → list_any p xs ≡ false → All (λ x. p x ≡ false) xs
none_of p [] none = All-nil (λ x. p x ≡ false)
none_of p (x ∷ xs) none =
    let parts = or_parts (p x) (list_any p xs) none in
    All-cons (λ y. p y ≡ false) x xs parts.0 (none_of p xs parts.1)

pub not_deleted : (deletes : List (Spot × ℕ)) (serial : ℕ) → is_deleted deletes serial ≡ false → All (λ (delete : Spot × ℕ). delete.1 ≢ serial) deletes
not_deleted deletes serial none =
    All-weaker (λ (delete : Spot × ℕ). (delete.1 == serial) ≡ false) (λ (delete : Spot × ℕ). delete.1 ≢ serial)
    (λ delete other same. true≢false (sym (eq-eqb delete.1 serial same) ∙ other)) deletes (none_of (λ (delete : Spot × ℕ). delete.1 == serial) deletes none)

pub not_put : (puts : List (Spot × Row)) (serial : ℕ) → row_at (rows_put puts) serial ≡ None → All (λ (put : Spot × Row). put.1.serial ≢ serial) puts
not_put [] serial none = All-nil (λ (put : Spot × Row). put.1.serial ≢ serial)
not_put (put ∷ puts) serial none = by (put.1.serial == serial) refl none (not_put puts serial)
  where
    by : (t : Bool) → (put.1.serial == serial) ≡ t → cond t (Some put.1.cells) (row_at (rows_put puts) serial) ≡ None
        → (row_at (rows_put puts) serial ≡ None → All (λ (p : Spot × Row). p.1.serial ≢ serial) puts) → All (λ (p : Spot × Row). p.1.serial ≢ serial) (put ∷ puts)
    by true e at rest = let bad : Some put.1.cells ≡ None = at in cc
    by false e at rest = All-cons (λ (p : Spot × Row). p.1.serial ≢ serial) put puts (λ same. true≢false (sym (eq-eqb put.1.serial serial same) ∙ e)) (rest at)

-- # One more

module _ (deletes : List (Spot × ℕ)) (puts : List (Spot × Row)) (from to : Spot) (row : Row) where
  abbrev pub deletes_more : List (Spot × ℕ)
  deletes_more = deletes ++ (from, row.serial) ∷ []

  abbrev pub puts_more : List (Spot × Row)
  puts_more = puts ++ (to, row) ∷ []

  or_none : (b : Bool) → (b || false) ≡ b
  or_none true = refl
  or_none false = refl

  or_some : (a : Bool) → (a || true) ≡ true
  or_some true = refl
  or_some false = refl

  pub deleted_more : (serial : ℕ) → is_deleted deletes_more serial ≡ (is_deleted deletes serial || (row.serial == serial))
  deleted_more serial = list_any-append (λ (delete : Spot × ℕ). delete.1 == serial) deletes ((from, row.serial) ∷ []) ∙ ap (λ b. is_deleted deletes serial || b) (or_none (row.serial == serial))

  pub put_more : (serial : ℕ) → row_at (rows_put puts_more) serial ≡ option_or (row_at (rows_put puts) serial) (cond (row.serial == serial) (Some row.cells) None)
  put_more serial = ap (λ rows. row_at rows serial) (map-append (λ (put : Spot × Row). put.1) puts ((to, row) ∷ [])) ∙ row_appended (rows_put puts) (row ∷ []) serial

  none_or : (o : Option (List Value)) → option_or o None ≡ o
  none_or None = refl
  none_or (Some x) = refl

  pub deleted_other : (serial : ℕ) → serial ≢ row.serial → is_deleted deletes_more serial ≡ is_deleted deletes serial
  deleted_other serial apart = deleted_more serial ∙ ap (λ b. is_deleted deletes serial || b) (ne_eqb row.serial serial (λ same. apart (sym same))) ∙ or_none (is_deleted deletes serial)

  pub put_other : (serial : ℕ) → serial ≢ row.serial → row_at (rows_put puts_more) serial ≡ row_at (rows_put puts) serial
  put_other serial apart = put_more serial ∙ ap (λ b. option_or (row_at (rows_put puts) serial) (cond b (Some row.cells) None)) (ne_eqb row.serial serial (λ same. apart (sym same))) ∙ none_or (row_at (rows_put puts) serial)

  pub deleted_own : is_deleted deletes_more row.serial ≡ true
  deleted_own = deleted_more row.serial ∙ ap (λ b. is_deleted deletes row.serial || b) (eq-eqb row.serial row.serial refl) ∙ or_some (is_deleted deletes row.serial)

  pub still_deleted : (serial : ℕ) → is_deleted deletes serial ≡ true → is_deleted deletes_more serial ≡ true
  still_deleted serial had = deleted_more serial ∙ ap (λ b. b || (row.serial == serial)) had

  -- at its serial stand the new cells, and elsewhere what stood there
  pub changed_own : (before : List Row) → row_at (rows_put puts) row.serial ≡ None → changed_at deletes_more puts_more before row.serial ≡ Some row.cells
  changed_own before unput =
      ap (λ o. option_or o (kept (is_deleted deletes_more row.serial) (row_at before row.serial)))
      (put_more row.serial ∙ ap (λ o. option_or o (cond (row.serial == row.serial) (Some row.cells) None)) unput ∙ ap (λ b. cond b (Some row.cells) None) (eq-eqb row.serial row.serial refl))

  pub changed_other : (before : List Row) (serial : ℕ) → serial ≢ row.serial → changed_at deletes_more puts_more before serial ≡ changed_at deletes puts before serial
  changed_other before serial apart =
      ap₂ (λ (o : Option (List Value)) (b : Bool). option_or o (kept b (row_at before serial))) (put_other serial apart) (deleted_other serial apart)

  pub apart_more : is_deleted deletes row.serial ≡ false → AreApart deletes → AreApart deletes_more
  apart_more undeleted had = all_pairs_push (λ (a b : Spot × ℕ). a.1 ≢ b.1) deletes (from, row.serial) had (λ k d below. not_deleted deletes row.serial undeleted k d below)

  pub once_more : row_at (rows_put puts) row.serial ≡ None → AreOnce puts → AreOnce puts_more
  once_more unput had = all_pairs_push (λ (a b : Spot × Row). a.1.serial ≢ b.1.serial) puts (to, row) had (λ k d below. not_put puts row.serial unput k d below)

  -- what all rows that come have, and this one
  pub rows_more : (P : Row → Type 0) → All P (rows_put puts) → P row → All P (rows_put puts_more)
  rows_more P had here = subst (All P) (sym (map-append (λ (put : Spot × Row). put.1) puts ((to, row) ∷ []))) (All-push P (rows_put puts) row had here)
