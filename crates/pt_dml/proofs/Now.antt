-- The rows so far, as some go and one comes.
use Rattle.std.proofs.Common.{◌≡◌, ◌≢◌, ◌⊎◌, inl, inr, ℕ, ◌+◌, ◌<◌, ◌≤◌, ◌==◌, nat_lt, Bool, true, false, not, ◌&&◌, ◌||◌, List, [], ◌∷◌, ◌++◌, length, Option, Some, None, refl, sym, ap, ap₂, ◌∙◌, subst, arith, true≢false, append_assoc, length-append}
use Rattle.std.specs.Prelude.{IsSomeAnd}
use Rattle.std.specs.List.{All}
use Rattle.std.specs.Option.{option_or}
use Rattle.std.proofs.lemmas.Bool.{eq-eqb, eqb-true, ltb-false, ltb-true, ne_eqb, or_parts}
use Rattle.std.proofs.lemmas.List.{length-map, map-append}
use Rattle.std.proofs.lemmas.List.Elements.{All-cons, All-filter, All-map, All-nil, All-push, All-weaker, filter-append, filter_agree}
use Rattle.std.proofs.lemmas.List.Folds.{list_any-append}
use Rattle.std.proofs.lemmas.List.Quantifiers.{all_pairs_push}
use Rattle.std.proofs.lemmas.Map.Entries.{option_filter}
use Rattle.pt_value.specs.declared.value.Value.{Value}
use Rattle.pt_ast.specs.declared.database.Row.{Row}
use Rattle.pt_ast.specs.declared.database.Spot.{Spot}
use Rattle.pt_ast.specs.declared.table.TableDef.{TableDef}
use Rattle.pt_place.specs.Place.{place_of}
use Rattle.pt_db.specs.Rows.{AreRising, others, row_at}
use Rattle.pt_db.proofs.Serials.{row_absent, row_appended, row_filtered}
use Rattle.pt_holds.specs.RowChanges.{is_deleted, kept, rows_put}
use Rattle.pt_dml.specs.declared.work.Work.{Work}
use Rattle.pt_dml.specs.Work.{AreGone, GivesWay, IsPut, IsPutBehind, deleted_of, rows_now, stay}
use Rattle.pt_dml.proofs.Lists.{filter_both, filter_keeps, filter_mapped, others_apart, others_one}

-- # The rows of before that stay

pub stay_all : (before : List Row) → stay [] before ≡ before
stay_all before = filter_keeps (λ (row : Row). not (is_deleted [] row.serial)) before (λ k d below. refl)

-- what stands at a serial
pub stay_at : (deletes : List (Spot × ℕ)) (before : List Row) (serial : ℕ) → AreRising before → row_at (stay deletes before) serial ≡ kept (is_deleted deletes serial) (row_at before serial)
stay_at deletes before serial up = row_filtered (λ (row : Row). not (is_deleted deletes row.serial)) before serial up ∙ by (is_deleted deletes serial) (row_at before serial)
  where
    by : (t : Bool) (o : Option (List Value)) → option_filter (λ (cells : List Value). not t) o ≡ kept t o
    by true None = refl
    by true (Some cells) = refl
    by false None = refl
    by false (Some cells) = refl

stay_less : (deletes : List (Spot × ℕ)) (spot : Spot) (serial : ℕ) (before : List Row) → stay (deletes ++ (spot, serial) ∷ []) before ≡ others serial (stay deletes before)
stay_less deletes spot serial before =
    filter_agree (λ (row : Row). not (is_deleted (deletes ++ (spot, serial) ∷ []) row.serial)) (λ (row : Row). not (is_deleted deletes row.serial) && not (row.serial == serial)) each before
    ∙ sym (filter_both (λ (row : Row). not (row.serial == serial)) (λ (row : Row). not (is_deleted deletes row.serial)) before)
  where
    turned : (a b : ℕ) → (a == b) ≡ (b == a)
    turned a b = by (a == b) refl
      where
        by : (t : Bool) → (a == b) ≡ t → t ≡ (b == a)
        by true e = sym (eq-eqb b a (sym (eqb-true a b e)))
        by false e = sym (ne_eqb b a (λ same. true≢false (sym (eq-eqb a b (sym same)) ∙ e)))

    by : (a t u : Bool) → t ≡ u → not (a || (t || false)) ≡ (not a && not u)
    by true t u e = refl
    by false true u e = ap (λ b. not b) e
    by false false u e = ap (λ b. not b) e

    each : (row : Row) → not (is_deleted (deletes ++ (spot, serial) ∷ []) row.serial) ≡ (not (is_deleted deletes row.serial) && not (row.serial == serial))
    each row =
        ap (λ b. not b) (list_any-append (λ (delete : Spot × ℕ). delete.1 == row.serial) deletes ((spot, serial) ∷ []))
        ∙ by (is_deleted deletes row.serial) (serial == row.serial) (row.serial == serial) (turned serial row.serial)

pub not_deleted : (deletes : List (Spot × ℕ)) (serial : ℕ) → is_deleted deletes serial ≡ false → All (λ (delete : Spot × ℕ). delete.1 ≢ serial) deletes
not_deleted [] serial none = All-nil (λ (delete : Spot × ℕ). delete.1 ≢ serial)
not_deleted (delete ∷ deletes) serial none =
    let parts = or_parts (delete.1 == serial) (is_deleted deletes serial) none in
    All-cons (λ (d : Spot × ℕ). d.1 ≢ serial) delete deletes (λ same. true≢false (sym (eq-eqb delete.1 serial same) ∙ parts.0)) (not_deleted deletes serial parts.1)

-- # Rows that are put are new

module _ (first next : ℕ) (def : TableDef) (puts : List (Spot × Row)) (are : All (IsPut first next def) puts) where
  -- none has a serial of before
  pub put_apart : (serial : ℕ) → serial < first → All (λ (row : Row). row.serial ≢ serial) (rows_put puts)
  put_apart serial below =
      All-map (λ (row : Row). row.serial ≢ serial) (λ (put : Spot × Row). put.1) puts
      (All-weaker (IsPut first next def) (λ (put : Spot × Row). put.1.serial ≢ serial) (λ put is same. (let from = is.from in omega (arith, from, below, same))) puts are)

  pub put_none : (serial : ℕ) → serial < first → row_at (rows_put puts) serial ≡ None
  put_none serial below = row_absent (rows_put puts) serial (put_apart serial below)

  -- a serial is an old row's or a new one's
  pub either_none : (before : List Row) → All (λ (row : Row). row.serial < first) before → (deletes : List (Spot × ℕ)) → AreRising before → (serial : ℕ)
      → (row_at (rows_put puts) serial ≡ None) ⊎ (kept (is_deleted deletes serial) (row_at before serial) ≡ None)
  either_none before old deletes up serial = by (nat_lt serial first) refl
    where
      gone : (t : Bool) → kept {X = List Value} t None ≡ None
      gone true = refl
      gone false = refl

      by : (t : Bool) → nat_lt serial first ≡ t → (row_at (rows_put puts) serial ≡ None) ⊎ (kept (is_deleted deletes serial) (row_at before serial) ≡ None)
      by true e = inl (put_none serial (ltb-true serial first e))
      by false e =
          let past = ltb-false serial first e in
          inr (ap (kept (is_deleted deletes serial)) (row_absent before serial (All-weaker (λ (row : Row). row.serial < first) (λ (row : Row). row.serial ≢ serial) (λ row below same. omega (arith, below, past, same)) before old))
          ∙ gone (is_deleted deletes serial))

-- # A row goes

module _ (def : TableDef) (before : List Row) (up : AreRising before) (old new : Work) (below : All (λ (row : Row). row.serial < old.first) before) (puts : All (IsPut old.first old.next def) old.puts)
    (spot : Spot) (serial : ℕ) (gives : GivesWay old new spot serial) where
  stay_apart : old.first ≤ serial → All (λ (row : Row). row.serial ≢ serial) (stay old.deletes before)
  stay_apart from =
      All-weaker (λ (row : Row). row.serial < old.first) (λ (row : Row). row.serial ≢ serial) (λ row less same. omega (arith, less, from, same)) (stay old.deletes before)
      (All-filter (λ (row : Row). not (is_deleted old.deletes row.serial)) (λ (row : Row). row.serial < old.first) before below)

  pub now_less : rows_now before new ≡ others serial (rows_now before old)
  now_less = by (nat_lt serial old.first) refl
    where
      by : (t : Bool) → nat_lt serial old.first ≡ t → rows_now before new ≡ others serial (rows_now before old)
      by true e =
          let less = ltb-true serial old.first e in
          let is = gives.old_one less in
          ap₂ (λ (deletes : List (Spot × ℕ)) (puts : List (Spot × Row)). stay deletes before ++ rows_put puts) is.0 is.1
          ∙ ap₂ (λ (a b : List Row). a ++ b) (stay_less old.deletes spot serial before) (sym (others_apart serial (rows_put old.puts) (put_apart old.first old.next def old.puts puts serial less)))
          ∙ sym (filter-append (λ (row : Row). not (row.serial == serial)) (stay old.deletes before) (rows_put old.puts))
      by false e =
          let from = ltb-false serial old.first e in
          let is = gives.own from in
          ap₂ (λ (deletes : List (Spot × ℕ)) (puts : List (Spot × Row)). stay deletes before ++ rows_put puts) is.0 is.1
          ∙ ap₂ (λ (a b : List Row). a ++ b) (sym (others_apart serial (stay old.deletes before) (stay_apart from)))
          (filter_mapped (λ (put : Spot × Row). put.1) (λ (row : Row). not (row.serial == serial)) old.puts)
          ∙ sym (filter-append (λ (row : Row). not (row.serial == serial)) (stay old.deletes before) (rows_put old.puts))

  module _ (cells : List Value) (at : row_at (rows_now before old) serial ≡ Some cells) where
    -- where it is a row of before, it hasn't gone yet
    old_row : serial < old.first → (row_at before serial ≡ Some cells) × (is_deleted old.deletes serial ≡ false)
    old_row less =
        by (is_deleted old.deletes serial) refl (row_at before serial) refl
        (sym (row_appended (stay old.deletes before) (rows_put old.puts) serial
        ∙ ap₂ (λ (a b : Option (List Value)). option_or a b) (stay_at old.deletes before serial up) (put_none old.first old.next def old.puts puts serial less)) ∙ at)
      where
        by : (t : Bool) → is_deleted old.deletes serial ≡ t → (o : Option (List Value)) → row_at before serial ≡ o → option_or (kept t o) None ≡ Some cells
            → (row_at before serial ≡ Some cells) × (is_deleted old.deletes serial ≡ false)
        by true e o here some = let bad : None ≡ Some cells = some in cc
        by false e None here some = let bad : None ≡ Some cells = some in cc
        by false e (Some own) here some = (here ∙ some, e)

    pub gone_more : place_of def cells ≡ Some spot → AreGone def before old.deletes → AreGone def before new.deletes
    gone_more placed gone = by (nat_lt serial old.first) refl
      where
        by : (t : Bool) → nat_lt serial old.first ≡ t → AreGone def before new.deletes
        by true e =
            let less = ltb-true serial old.first e in
            let is = old_row less in
            subst (AreGone def before) (sym (gives.old_one less).0) (record {
              there = All-push (λ (delete : Spot × ℕ). IsSomeAnd (row_at before delete.1) (λ cs. place_of def cs ≡ Some delete.0)) old.deletes (spot, serial) gone.there
                  (subst (λ o. IsSomeAnd o (λ cs. place_of def cs ≡ Some spot)) (sym is.0) placed);
              apart = all_pairs_push (λ (a b : Spot × ℕ). a.1 ≢ b.1) old.deletes (spot, serial) gone.apart (λ k d inside. not_deleted old.deletes serial is.1 k d inside);
            })
        by false e = subst (AreGone def before) (sym (gives.own (ltb-false serial old.first e)).0) gone

    -- and it is counted
    pub deleted_more : AreRising (rows_now before old) → old.first + length old.puts ≤ old.next → deleted_of new ≡ deleted_of old + 1
    deleted_more rising counted = by (nat_lt serial old.first) refl
      where
        one : length (rows_now before new) + 1 ≡ length (rows_now before old)
        one = ap (λ (rows : List Row). length rows + 1) now_less ∙ others_one serial (rows_now before old) cells rising at

        long : (deletes : List (Spot × ℕ)) (ps : List (Spot × Row)) → length (stay deletes before ++ rows_put ps) ≡ length (stay deletes before) + length ps
        long deletes ps = length-append (stay deletes before) (rows_put ps) ∙ ap (λ n. length (stay deletes before) + n) (length-map ps (λ (put : Spot × Row). put.1))

        by : (t : Bool) → nat_lt serial old.first ≡ t → deleted_of new ≡ deleted_of old + 1
        by true e =
            let is = gives.old_one (ltb-true serial old.first e) in
            let d : length new.deletes ≡ length old.deletes + 1 = ap (λ (deletes : List (Spot × ℕ)). length deletes) is.0 ∙ length-append old.deletes ((spot, serial) ∷ []) in
            let p : length new.puts ≡ length old.puts = ap (λ (ps : List (Spot × Row)). length ps) is.1 in
            let first = gives.same.first in
            let next = gives.same.next in
            omega (arith, d, p, first, next)
        by false e =
            let is = gives.own (ltb-false serial old.first e) in
            let d : length new.deletes ≡ length old.deletes = ap (λ (deletes : List (Spot × ℕ)). length deletes) is.0 in
            let s : length (stay new.deletes before) ≡ length (stay old.deletes before) = ap (λ (deletes : List (Spot × ℕ)). length (stay deletes before)) is.0 in
            let a = long new.deletes new.puts in
            let b = long old.deletes old.puts in
            let first = gives.same.first in
            let next = gives.same.next in
            omega (arith, d, s, a, b, one, first, next, counted)

-- # A row comes

pub now_more : (before : List Row) (old new : Work) (spot : Spot) (row : Row) → IsPutBehind old new spot row → rows_now before new ≡ rows_now before old ++ row ∷ []
now_more before old new spot row put =
    ap₂ (λ (deletes : List (Spot × ℕ)) (puts : List (Spot × Row)). stay deletes before ++ rows_put puts) put.deletes put.puts
    ∙ ap (λ rows. stay old.deletes before ++ rows) (map-append (λ (p : Spot × Row). p.1) old.puts ((spot, row) ∷ []))
    ∙ sym (append_assoc (stay old.deletes before) (rows_put old.puts) (row ∷ []))
