-- The turns of the loops that read item by item.
use Rattle.std.proofs.Common.{◌≡◌, ℕ, ◌+◌, ◌<◌, ◌≤◌, List, [], ◌∷◌, ◌++◌, length, drop, Option, Some, None, Ok, ap, ◌∙◌, sym, subst, arith, length-drop, append_assoc, append-nil}
use Rattle.pt_parse_expr.specs.Grammar.{Symbols}
use Rattle.pt_parse_expr.specs.Reader.{Reader, before, many}
use Rattle.pt_parse_expr.specs.Placing.{Reads, Reaches}
use Rattle.pt_parse_expr.proofs.Many.{behind, loop-more, loop-end, many-none, many-more}
use Rattle.pt_parse_ddl.specs.Columns.{kept}
use Rattle.pt_parse_ddl.specs.Steps.{Passes, PassesTo}

-- ---- lists

module _ {A : Type 0} (item : Reader A) (all : Symbols) (whole : List A × Symbols) (done : List A) (at : ℕ) where
  abbrev pub SoFar : List A → ℕ → Type 0
  SoFar items next = whole ≡ behind items (many item (drop next all))

  -- one item more
  pub turn : (r : Option (A × ℕ)) (x : A) (next : ℕ) (pushed : List A) → SoFar done at → r ≡ Some (x, next)
      → Reads all (Ok r) (item (drop at all)) → Reaches (at + 1) all (Ok r) → pushed ≡ done ++ x ∷ [] → SoFar pushed next
  turn r x next pushed so_far is reads place pushes =
      let reads' = subst (λ (q : Option (A × ℕ)). Reads all (Ok q) (item (drop at all))) is reads in
      let place' = subst (λ (q : Option (A × ℕ)). Reaches (at + 1) all (Ok q)) is place in
      subst (λ (items : List A). SoFar items next) (sym pushes) (loop-more item all whole done at x next so_far reads' (omega (arith, place'.0)) place'.1)

  -- no item more
  pub turn_end : (r : Option (A × ℕ)) → SoFar done at → r ≡ None → Reads all (Ok r) (item (drop at all)) → whole ≡ (done, drop at all)
  turn_end r so_far is reads = loop-end item all whole done at so_far (subst (λ (q : Option (A × ℕ)). Reads all (Ok q) (item (drop at all))) is reads)

-- where a read item ends
pub turn_place : {A : Type 0} (all : Symbols) (at : ℕ) (r : Option (A × ℕ)) (x : A) (next : ℕ) → r ≡ Some (x, next) → Reaches (at + 1) all (Ok r)
    → (at < next) × (next ≤ length all)
turn_place {A} all at r x next is place =
    let place' = subst (λ (q : Option (A × ℕ)). Reaches (at + 1) all (Ok q)) is place in
    (omega (arith, place'.0), place'.1)

-- ---- what is passed over

module _ (item : Reader (Unit {0})) (all : Symbols) (whole : Symbols) (at : ℕ) where
  abbrev pub Ahead : ℕ → Type 0
  Ahead next = whole ≡ (many item (drop next all)).1

  pub pass : (r : Option ℕ) (next : ℕ) → Ahead at → r ≡ Some next → Passes all r (item (drop at all)) → PassesTo (at + 1) all r → Ahead next
  pass r next ahead is passes place =
      let passes' = subst (λ (q : Option ℕ). Passes all q (item (drop at all))) is passes in
      let place' = subst (λ (q : Option ℕ). PassesTo (at + 1) all q) is place in
      let shorter : length (drop next all) < length (drop at all) = omega (arith, length-drop next all, length-drop at all, place'.0, place'.1) in
      ahead ∙ ap (λ p. p.1) (many-more item (drop at all) (drop next all) tt passes' shorter)

  pub pass_end : (r : Option ℕ) → Ahead at → r ≡ None → Passes all r (item (drop at all)) → whole ≡ drop at all
  pass_end r ahead is passes = ahead ∙ ap (λ p. p.1) (many-none item (drop at all) (subst (λ (q : Option ℕ). Passes all q (item (drop at all))) is passes))

pub pass_place : (all : Symbols) (at : ℕ) (r : Option ℕ) (next : ℕ) → r ≡ Some next → PassesTo (at + 1) all r → (at < next) × (next ≤ length all)
pass_place all at r next is place =
    let place' = subst (λ (q : Option ℕ). PassesTo (at + 1) all q) is place in
    (omega (arith, place'.0), place'.1)

-- ---- lists of what is kept

-- what is kept of what is read
abbrev pub keeping : {A : Type 0} → List (Option A) × Symbols → List A × Symbols
keeping p = (kept p.0, p.1)

kept_before : {A : Type 0} (done : List A) (x : Option A) (more : List (Option A) × Symbols)
    → behind done (keeping (before x more)) ≡ behind (done ++ kept (x ∷ [])) (keeping more)
kept_before done None more = ap (λ (xs : List _). (xs ++ kept more.0, more.1)) (sym (append-nil done))
kept_before done (Some x) more = ap (λ (xs : List _). (xs, more.1)) (sym (append_assoc done (x ∷ []) (kept more.0)))

module _ {A : Type 0} (item : Reader (Option A)) (all : Symbols) (whole : List A × Symbols) (done : List A) (at : ℕ) where
  abbrev pub KeptSoFar : List A → ℕ → Type 0
  KeptSoFar items next = whole ≡ behind items (keeping (many item (drop next all)))

  pub kept_turn : (r : Option (Option A × ℕ)) (x : Option A) (next : ℕ) (pushed : List A) → KeptSoFar done at → r ≡ Some (x, next)
      → Reads all (Ok r) (item (drop at all)) → Reaches (at + 1) all (Ok r) → pushed ≡ done ++ kept (x ∷ []) → KeptSoFar pushed next
  kept_turn r x next pushed so_far is reads place pushes =
      let reads' = subst (λ (q : Option (Option A × ℕ)). Reads all (Ok q) (item (drop at all))) is reads in
      let place' = subst (λ (q : Option (Option A × ℕ)). Reaches (at + 1) all (Ok q)) is place in
      let shorter : length (drop next all) < length (drop at all) = omega (arith, length-drop next all, length-drop at all, place'.0, place'.1) in
      so_far ∙ ap (λ p. behind done (keeping p)) (many-more item (drop at all) (drop next all) x reads' shorter)
      ∙ kept_before done x (many item (drop next all)) ∙ ap (λ (items : List A). behind items (keeping (many item (drop next all)))) (sym pushes)

  pub kept_end : (r : Option (Option A × ℕ)) → KeptSoFar done at → r ≡ None → Reads all (Ok r) (item (drop at all)) → whole ≡ (done, drop at all)
  kept_end r so_far is reads =
      so_far ∙ ap (λ p. behind done (keeping p)) (many-none item (drop at all) (subst (λ (q : Option (Option A × ℕ)). Reads all (Ok q) (item (drop at all))) is reads))
      ∙ ap (λ (xs : List A). (xs, drop at all)) (append-nil done)
