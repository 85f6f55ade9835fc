-- Names put in one by one: each is at the position of the first column of this name.
use Rattle.std.proofs.Common.{◌≡◌, ℕ, suc, ◌+◌, ◌<◌, ◌≤◌, Bool, true, false, cond, ltb, eqb, List, [], ◌∷◌, ◌++◌, length, length-append, take, get_or, Option, Some, None, refl, sym, ap, ap₂, subst, ◌∙◌, arith}
use Rattle.std.specs.Option.{option_or, is_some}
use Rattle.std.specs.Ordering.{is_eq, nat_cmp}
use Rattle.std.specs.Cmp.Lexicographic.{slice_cmp}
use Rattle.std.specs.List.{position, position_or_len}
use Rattle.std.specs.Str.{bytes_eq}
use Rattle.std.proofs.Math.Seq.{take-suc}
use Rattle.std.proofs.lemmas.Bool.{eq-eqb, ne_eqb, le-ltb, lt-ltb, ltb-false, ltb-true}
use Rattle.std.proofs.lemmas.List.{length-take-le}
use Rattle.std.proofs.lemmas.List.Folds.{position_or_len_push}
use Rattle.std.proofs.lemmas.List.Sums.{prefix_len-le-length}
use Rattle.std.proofs.lemmas.Map.Text.{is_eq-slice_cmp}
use Rattle.std.proofs.lemmas.Slice.Eq.{bytes_eq-Decides}
use Rattle.pt_ast.specs.declared.table.Column.{Column}
use Rattle.pt_defs.specs.Places.{ArePlaces, placed_at}

-- ---- one more item

module _ (n m len long : ℕ) (most : n ≤ len) (is : long ≡ len + 1) where
  step : (inside : Bool) → ltb n len ≡ inside → (passes : Bool) → m ≡ cond (eqb n len) (len + cond passes 0 1) n
      → cond (ltb m long) (Some m) None ≡ option_or (cond inside (Some n) None) (cond passes (Some len) None)
  step true h passes e =
      let below = ltb-true n len h in
      let same : m ≡ n = e ∙ ap (λ b. cond b (len + cond passes 0 1) n) (ne_eqb n len (λ s. omega (arith, below, s))) in
      ap (λ k. cond (ltb k long) (Some k) None) same ∙ ap (λ b. cond b (Some n) None) (lt-ltb n long (omega (arith, below, is)))
  step false h true e =
      let at_end : n ≡ len = omega (arith, most, ltb-false n len h) in
      let same : m ≡ len + 0 = e ∙ ap (λ b. cond b (len + 0) n) (eq-eqb n len at_end) in
      let here : m ≡ len = omega (arith, same) in
      ap (λ k. cond (ltb k long) (Some k) None) here ∙ ap (λ b. cond b (Some len) None) (lt-ltb len long (omega (arith, is)))
  step false h false e =
      let at_end : n ≡ len = omega (arith, most, ltb-false n len h) in
      let same : m ≡ len + 1 = e ∙ ap (λ b. cond b (len + 1) n) (eq-eqb n len at_end) in
      ap (λ b. cond b (Some m) None) (le-ltb m long (omega (arith, same, is)))

position_more : {X : Type 0} (p : X → Bool) (xs : List X) (y : X) → position p (xs ++ y ∷ []) ≡ option_or (position p xs) (cond (p y) (Some (length xs)) None)
position_more p xs y =
    step (position_or_len p xs) (position_or_len p (xs ++ y ∷ [])) (length xs) (length (xs ++ y ∷ [])) (prefix_len-le-length _ xs) (length-append xs (y ∷ [])) (ltb (position_or_len p xs) (length xs)) refl (p y) (position_or_len_push p xs y)

pub places_more : (old new : List ℕ → Option ℕ) (columns : List Column) (place : ℕ) (column : Column) → place < length columns → column ≡ get_or columns place column → ArePlaces old (take place columns)
    → ((other : List ℕ) → new other ≡ placed_at old column.name place other) → ArePlaces new (take (place + 1) columns)
places_more old new columns place column lt is are put name =
    let p : Column → Bool = λ c. bytes_eq c.name name in
    let front : List Column = take place columns in
    let next : place + 1 ≡ suc place = omega arith in
    let longer : take (place + 1) columns ≡ front ++ column ∷ [] = ap (λ n. take n columns) next ∙ take-suc columns place column lt ∙ ap (λ (c : Column). front ++ c ∷ []) (sym is) in
    put name
    ∙ ap₂ (λ (o : Option ℕ) (n : ℕ). option_or o (cond (p column) (Some n) None)) (are name) (sym (length-take-le place columns (omega (arith, lt))))
    ∙ sym (position_more p front column)
    ∙ ap (position p) (sym longer)

-- ---- one name

or_none : (o : Option ℕ) → o ≡ option_or o None
or_none None = refl
or_none (Some n) = refl

or_there : (o other : Option ℕ) → is_some o ≡ true → o ≡ option_or o other
or_there None other h = absurd cc
or_there (Some n) other h = refl

module _ (before : List ℕ → Option ℕ) (name : List ℕ) (place : ℕ) where
  pub stays : is_some (before name) ≡ true → (other : List ℕ) → before other ≡ placed_at before name place other
  stays there other = go (bytes_eq name other) refl
    where
      go : (b : Bool) → bytes_eq name other ≡ b → before other ≡ option_or (before other) (cond b (Some place) None)
      go true h = or_there (before other) (Some place) (subst (λ (n : List ℕ). is_some (before n) ≡ true) ((bytes_eq-Decides name other).0 h) there)
      go false h = or_none (before other)

  pub enters : (after : List ℕ → Option ℕ) → is_some (before name) ≡ false → ((other : List ℕ) → after other ≡ cond (is_eq (slice_cmp nat_cmp name other)) (Some place) (before other))
      → (other : List ℕ) → after other ≡ placed_at before name place other
  enters after away has other = has other ∙ ap (λ b. cond b (Some place) (before other)) (is_eq-slice_cmp name other) ∙ go (bytes_eq name other) refl
    where
      none : (o : Option ℕ) → is_some o ≡ false → Some place ≡ option_or o (Some place)
      none None h = refl
      none (Some n) h = absurd cc

      go : (b : Bool) → bytes_eq name other ≡ b → cond b (Some place) (before other) ≡ option_or (before other) (cond b (Some place) None)
      go true h = none (before other) (subst (λ (n : List ℕ). is_some (before n) ≡ false) ((bytes_eq-Decides name other).0 h) away)
      go false h = or_none (before other)
