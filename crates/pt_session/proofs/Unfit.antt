-- The least place of a put whose row doesn't fit, row by row.
use Rattle.std.proofs.Common.{◌≡◌, ◌⊎◌, inl, inr, ℕ, ◌+◌, ◌<◌, ◌≤◌, List, [], ◌∷◌, ◌++◌, take, length, get_or, Option, Some, None, sym, ap, ◌∙◌, subst, arith, ⊎_elim}
use Rattle.std.specs.Prelude.{min}
use Rattle.std.specs.List.{All}
use Rattle.std.proofs.lemmas.Bool.{cases_lt, true≢false}
use Rattle.std.proofs.lemmas.List.{take_more}
use Rattle.std.proofs.lemmas.List.Elements.{All-append, All-cons, All-contains, All-nil, Contains-append_cases, Contains-append_left, Contains-append_right, Contains-push, Contains-push_cases}
use Rattle.pt_ast.specs.declared.database.Row.{Row}
use Rattle.pt_ast.specs.declared.database.Spot.{Spot}
use Rattle.pt_ast.specs.declared.table.TableDef.{TableDef}
use Rattle.pt_rowfile.specs.Placed.{IsPlaceOf}
use Rattle.pt_rowfile.specs.Rows.{SpellsRows}
use Rattle.pt_rowfile.proofs.Parts.{one_some}
use Rattle.pt_holds.specs.Bad.{AreBadRows, PutsUnfit}
use Rattle.pt_holds.specs.Bad.{Unfit as is_unfit}
use Rattle.pt_holds.specs.Fit.{FitsSpot}
use Rattle.pt_session.specs.Looking.{AreSeen, IsLeastUnfit, LeavesRow, earlier}
use Rattle.pt_session.specs.Session.{AreSpotRows}
use Rattle.pt_session.proofs.Places.{one_place, put_somewhere, spelled_left}

module _ (next : ℕ) (def : TableDef) (spot : Spot) (bytes : List ℕ) where
  abbrev Unfit : List Row → ℕ → Type 0
  Unfit rows place = PutsUnfit next def spot bytes rows place

  abbrev Seen : List Row → Option ℕ → Type 0
  Seen rows place = AreSeen next def spot bytes rows place

  from_left : (a b : List Row) (place : ℕ) → Unfit a place → Unfit (a ++ b) place
  from_left a b place h = record { row = h.row; left = Contains-append_left a b h.row h.left; put = h.put; unfit = h.unfit }

  from_right : (a b : List Row) (place : ℕ) → Unfit b place → Unfit (a ++ b) place
  from_right a b place h = record { row = h.row; left = Contains-append_right a b h.row h.left; put = h.put; unfit = h.unfit }

  in_either : (a b : List Row) (place : ℕ) → Unfit (a ++ b) place → Unfit a place ⊎ Unfit b place
  in_either a b place h =
      ⊎_elim (λ has. inl (record { row = h.row; left = has; put = h.put; unfit = h.unfit })) (λ has. inr (record { row = h.row; left = has; put = h.put; unfit = h.unfit }))
      (Contains-append_cases a b h.row h.left)

  none_unfit : (rows : List Row) (place : ℕ) → All (FitsSpot next def spot) rows → Unfit rows place → ⊥
  none_unfit rows place fit h = h.unfit (All-contains (FitsSpot next def spot) rows h.row fit h.left)

  least_of : (p q : ℕ) → ((min p q ≡ p) × (p ≤ q)) ⊎ ((min p q ≡ q) × (q ≤ p))
  least_of p q = ⊎_elim (λ less. inl (omega (arith, less), omega (arith, less))) (λ most. inr (omega (arith, most), most)) (cases_lt p q)

  -- ---- rows behind others

  pub seen_both : (a b : List Row) (p q : Option ℕ) → Seen a p → Seen b q → Seen (a ++ b) (earlier p q)
  seen_both a b None None x y = All-append (FitsSpot next def spot) a b x y
  seen_both a b None (Some q) x y = record {
    here = from_right a b q y.here;
    first = λ other h. ⊎_elim (λ ours. absurd (none_unfit a other x ours)) (y.first other) (in_either a b other h);
  }
  seen_both a b (Some p) None x y = record {
    here = from_left a b p x.here;
    first = λ other h. ⊎_elim (x.first other) (λ theirs. absurd (none_unfit b other y theirs)) (in_either a b other h);
  }
  seen_both a b (Some p) (Some q) x y = ⊎_elim
      (λ less. subst (λ n. IsLeastUnfit next def spot bytes (a ++ b) n) (sym less.0) (record {
        here = from_left a b p x.here;
        first = λ other h. ⊎_elim (x.first other) (λ theirs. let most = less.1 in let more = y.first other theirs in omega (arith, most, more)) (in_either a b other h);
      }))
      (λ less. subst (λ n. IsLeastUnfit next def spot bytes (a ++ b) n) (sym less.0) (record {
        here = from_right a b q y.here;
        first = λ other h. ⊎_elim (λ ours. let most = less.1 in let more = x.first other ours in omega (arith, most, more)) (y.first other) (in_either a b other h);
      }))
      (least_of p q)

  pub seen_more : (rows : List Row) (i : ℕ) (row : Row) (p q : Option ℕ) → i < length rows → row ≡ get_or rows i row → Seen (take i rows) p → Seen (row ∷ []) q → Seen (take (i + 1) rows) (earlier p q)
  seen_more rows i row p q within at x y =
      subst (λ (rs : List Row). Seen rs (earlier p q)) (sym (take_more rows i row within ∙ ap (λ (r : Row). take i rows ++ r ∷ []) (sym at))) (seen_both (take i rows) (row ∷ []) p q x y)

  -- ---- one row

  pub fit_seen : (row : Row) → FitsSpot next def spot row → Seen (row ∷ []) None
  fit_seen row fits = All-cons (FitsSpot next def spot) row [] fits (All-nil (FitsSpot next def spot))

  pub unfit_seen : (row : Row) (place : Option ℕ) → LeavesRow bytes row → (FitsSpot next def spot row → ⊥) → IsPlaceOf bytes row.serial place → Seen (row ∷ []) place
  unfit_seen row None is unfit put = absurd (true≢false (sym (put_somewhere bytes is.rows row None is.spells is.left put)))
  unfit_seen row (Some place) is unfit put = record {
    here = record { row = row; left = Contains-push [] row; put = put; unfit = unfit };
    first = λ other h.
        let same : row ≡ h.row = ⊎_elim (λ none. absurd (let within = none.1 in omega (arith, within))) (λ e. e) (Contains-push_cases [] row h.row h.left) in
        let equal : place ≡ other = one_some place other (one_place bytes row.serial (Some place) (Some other) put (subst (λ (r : Row). IsPlaceOf bytes r.serial (Some other)) (sym same) h.put)) in
        omega (arith, equal);
  }

  -- ---- all rows of a file

  pub fit_rows : (rows : List Row) → SpellsRows bytes rows → All (FitsSpot next def spot) rows → AreSpotRows next def spot rows
  fit_rows rows spells fit = let are = spelled_left bytes rows spells in record { each = fit; least = are.least; rising = are.rising }

  pub unfit_rows : (rows : List Row) (place : ℕ) → SpellsRows bytes rows → IsLeastUnfit next def spot bytes rows place → AreBadRows next def spot bytes place
  unfit_rows rows place spells least = is_unfit (record { rows = rows; spells = spells; here = least.here; first = least.first })
