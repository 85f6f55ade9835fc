-- Names, a map with one name changed, and what a stop keeps of the pending name operations.
--
-- Only `survives_all`, `survives_none` and `survives_push` open `Survives`: all other proofs rest on these three.
use Rattle.std.proofs.Common.{◌≡◌, ◌≢◌, ◌⊎◌, ℕ, Bool, true, false, cond, List, [], ◌∷◌, ◌++◌, refl, sym, ap, ◌∙◌, inl, inr, append-nil}
use Rattle.std.specs.Prelude.{Option, Some}
use Rattle.std.specs.Str.{bytes_eq}
use Rattle.std.specs.Option.{option_map}
use Rattle.std.proofs.lemmas.Slice.Eq.{bytes_eq-Decides}
use Rattle.pt_host.specs.Disk.{Names, NameOp, put, after_op, names_after, Survives}

-- two names are one, or differ
pub cases_name : (a b : List ℕ) → (a ≡ b) ⊎ (a ≢ b)
cases_name a b = go (bytes_eq a b) refl
  where
    go : (same : Bool) → bytes_eq a b ≡ same → (a ≡ b) ⊎ (a ≢ b)
    go true e = inl ((bytes_eq-Decides a b).0 e)
    go false e = inr (λ same. let t : bytes_eq a b ≡ true = (bytes_eq-Decides a b).1 same in cc)

pub differs : (a b : List ℕ) → a ≢ b → bytes_eq a b ≡ false
differs a b other = go (bytes_eq a b) refl
  where
    go : (same : Bool) → bytes_eq a b ≡ same → bytes_eq a b ≡ false
    go true e = absurd (other ((bytes_eq-Decides a b).0 e))
    go false e = e

pub put_same : {X : Type 0} → (names : List ℕ → Option X) (name : List ℕ) (to : Option X) → put names name to name ≡ to
put_same names name to = ap (λ b. cond b to (names name)) ((bytes_eq-Decides name name).1 refl)

pub put_at : {X : Type 0} → (names : List ℕ → Option X) (name query : List ℕ) (to : Option X) → query ≡ name → put names name to query ≡ to
put_at names name query to same = ap (λ b. cond b to (names query)) ((bytes_eq-Decides name query).1 (sym same))

pub put_other : {X : Type 0} → (names : List ℕ → Option X) (name query : List ℕ) (to : Option X) → query ≢ name → put names name to query ≡ names query
put_other names name query to other = ap (λ b. cond b to (names query)) (differs name query (λ same. other (sym same)))

-- what holds of the changed name's value, and of the others' as they were, holds of each value
pub put_each : {X : Type 0} → (names : List ℕ → Option X) (name : List ℕ) (to : Option X) (P : List ℕ → Option X → Type 0) → P name to → ((query : List ℕ) → query ≢ name → P query (names query)) → (query : List ℕ) → P query (put names name to query)
put_each names name to P here others query = go (cases_name query name)
  where
    go : (query ≡ name) ⊎ (query ≢ name) → P query (put names name to query)
    go (inl same) = rw (put_at names name query to same, same) here
    go (inr other) = rw (put_other names name query to other) (others query other)

pub survives_all : (ops : List NameOp) → Survives ops ops
unfolding Survives
survives_all ops = ([], sym (append-nil ops))

pub survives_none : (kept : List NameOp) → Survives [] kept → kept ≡ []
unfolding Survives
survives_none [] h = refl
survives_none (op ∷ kept) h = let e : [] ≡ op ∷ (kept ++ h.0) = h.1 in cc

one : (op k : NameOp) (kept lost : List NameOp) → op ∷ [] ≡ k ∷ (kept ++ lost) → k ∷ kept ≡ op ∷ []
one op k [] lost e = let first : op ≡ k = cc in cc
one op k (o ∷ kept) lost e = let bad : [] ≡ o ∷ (kept ++ lost) = cc in cc

-- A stop loses the last operation, or keeps it after those that it keeps of the others.
pub survives_push : (ops : List NameOp) (op : NameOp) (kept : List NameOp) → Survives (ops ++ op ∷ []) kept
    → Survives ops kept ⊎ ((before : List NameOp) × Survives ops before × (kept ≡ before ++ op ∷ []))
unfolding Survives
survives_push ops op [] h = inl (ops, refl)
survives_push [] op (k ∷ kept) h = inr ([], ([], refl), one op k kept h.0 h.1)
survives_push (o ∷ ops) op (k ∷ kept) h =
    let e : o ∷ (ops ++ op ∷ []) ≡ k ∷ (kept ++ h.0) = h.1 in
    let first : o ≡ k = cc in
    let rest : ops ++ op ∷ [] ≡ kept ++ h.0 = cc in
    elim (survives_push ops op kept (h.0, rest)) [
      | inl s ↦ inl (s.0, (let f : ops ≡ kept ++ s.0 = s.1 in cc))
      | inr s ↦ inr (o ∷ s.0, (s.1.0, ap (λ os. o ∷ os) s.1.1), (let f : kept ≡ s.0 ++ op ∷ [] = s.2 in cc))
    ]

pub names_after-push : (ops : List NameOp) (op : NameOp) (names : Names) → names_after (ops ++ op ∷ []) names ≡ after_op op (names_after ops names)
names_after-push [] op names = refl
names_after-push (o ∷ ops) op names = names_after-push ops op (after_op o names)

-- What holds whatever is kept, and also after one more operation, holds whatever is kept of them all.
pub kept_push : (ops : List NameOp) (op : NameOp) (names : Names) (P : Names → Type 0)
    → ((kept : List NameOp) → Survives ops kept → P (names_after kept names))
    → ((kept : List NameOp) → Survives ops kept → P (names_after kept names) → P (after_op op (names_after kept names)))
    → (kept : List NameOp) → Survives (ops ++ op ∷ []) kept → P (names_after kept names)
kept_push ops op names P base step kept s =
    elim (survives_push ops op kept s) [
      | inl lost ↦ base kept lost
      | inr more ↦ rw (more.2, names_after-push more.0 op names) (step more.0 more.1 (base more.0 more.1))
    ]

-- The value of one name is of the change, or of before.
pub put_some : {X : Type 0} → (names : List ℕ → Option X) (name query : List ℕ) (to : Option X) (x : X) → put names name to query ≡ Some x
    → ((query ≡ name) × (to ≡ Some x)) ⊎ ((query ≢ name) × (names query ≡ Some x))
put_some names name query to x e =
    elim (cases_name query name) [
      | inl same ↦ inl (same, sym (put_at names name query to same) ∙ e)
      | inr other ↦ inr (other, sym (put_other names name query to other) ∙ e)
    ]

-- maps that are alike stay so
pub put_cong : {X : Type 0} → (f g : List ℕ → Option X) (name : List ℕ) (to : Option X) → ((query : List ℕ) → g query ≡ f query) → (query : List ℕ) → put g name to query ≡ put f name to query
put_cong f g name to same query = ap (λ x. cond (bytes_eq name query) to x) (same query)

-- what a name has already changes nothing
pub put_itself : {X : Type 0} → (names : List ℕ → Option X) (name query : List ℕ) → put names name (names name) query ≡ names query
put_itself names name query = put_each names name (names name) (λ other x. x ≡ names other) refl (λ other differs. refl) query

pub put_map : {X Y : Type 0} → (f : X → Y) (names : List ℕ → Option X) (name query : List ℕ) (to : Option X)
    → option_map f (put names name to query) ≡ put (λ other. option_map f (names other)) name (option_map f to) query
put_map f names name query to = go (bytes_eq name query)
  where
    go : (same : Bool) → option_map f (cond same to (names query)) ≡ cond same (option_map f to) (option_map f (names query))
    go true = refl
    go false = refl
