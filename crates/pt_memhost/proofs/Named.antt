-- A map from names to objects, as the disk model's names.
use Rattle.std.proofs.Common.{◌≡◌, ◌≢◌, ℕ, Bool, true, false, not, cond, List, [], ◌∷◌, ◌++◌, map, refl, sym, ap, ◌∙◌}
use Rattle.std.specs.Prelude.{Option, Some, None}
use Rattle.std.specs.BTreeMap.{BTreeMap, Updates, is_at}
use Rattle.std.specs.Cmp.Lexicographic.{slice_cmp}
use Rattle.std.specs.Ordering.{nat_cmp}
use Rattle.std.specs.Map.{lookup}
use Rattle.std.specs.Str.{bytes_eq}
use Rattle.std.proofs.lemmas.List.{map-append}
use Rattle.std.proofs.lemmas.Bool.{false≢true}
use Rattle.std.proofs.lemmas.Slice.Eq.{bytes_eq-Decides}
use Rattle.std.proofs.lemmas.Map.Text.{is_eq-slice_cmp}
use Rattle.pt_host.specs.Disk.{Names, put, moved, after_op, names_after}
use Rattle.pt_host.proofs.Names.{put_same, put_other, put_each, names_after-push}
use Rattle.pt_memhost.specs.declared.names.NameChange.{NameChange}
use Rattle.pt_memhost.specs.Names.{named, op_of, IsSeen}

-- functions that agree at each argument are one
pub same_names : (f g : Names) → ((name : List ℕ) → f name ≡ g name) → f ≡ g
same_names f g h = λ i name. h name i

pub named-updates : (m n : BTreeMap (List ℕ) ℕ) (name : List ℕ) (to : Option ℕ) → Updates (slice_cmp nat_cmp) m n name to → named n ≡ put (named m) name to
named-updates m n name to h = same_names _ _ (λ query. h.0 query ∙ ap (λ b. cond b to (named m query)) (is_eq-slice_cmp name query))

pub named-unchanged : (m n : BTreeMap (List ℕ) ℕ) → n.entries ≡ m.entries → named n ≡ named m
named-unchanged m n e = ap (λ es name. lookup (is_at (slice_cmp nat_cmp name)) es) e

-- a name that keeps what it has
pub put-itself : (names : Names) (name : List ℕ) (to : Option ℕ) → names name ≡ to → put names name to ≡ names
put-itself names name to e = same_names _ _ (put_each names name to (λ query v. v ≡ names query) (sym e) (λ query other. refl))

-- two names that differ may change in either order
pub put-swap : (names : Names) (a b : List ℕ) (x y : Option ℕ) → a ≢ b → put (put names a x) b y ≡ put (put names b y) a x
put-swap names a b x y other =
    same_names _ _ (put_each (put names a x) b y (λ query v. v ≡ put (put names b y) a x query)
    (sym (put_other (put names b y) a b x (λ e. other (sym e)) ∙ put_same names b y))
    (λ query apart. ap (λ v. cond (bytes_eq a query) x v) (sym (put_other names b query y apart))))

pub put-twice : (names : Names) (name : List ℕ) (x y : Option ℕ) → put (put names name x) name y ≡ put names name y
put-twice names name x y = same_names _ _ (λ query. last (bytes_eq name query) (names query))
  where
    last : (b : Bool) (z : Option ℕ) → cond b y (cond b x z) ≡ cond b y z
    last true z = refl
    last false z = refl

-- A move of a name that is there is a change of each, the new one first.
pub moved-there : (names : Names) (from to : List ℕ) (object : ℕ) → names from ≡ Some object → true ≡ not (bytes_eq from to) → put (put names to (Some object)) from None ≡ moved names from to (names from)
moved-there names from to object e other = rw e (sym (put-swap names from to None (Some object) apart))
  where
    apart : from ≢ to
    apart same = let t : bytes_eq from to ≡ true = (bytes_eq-Decides from to).1 same in absurd (false≢true (sym (other ∙ ap not t)))

-- A move of a name to itself changes nothing.
pub moved-same : (names : Names) (from to : List ℕ) (object : ℕ) → names from ≡ Some object → false ≡ not (bytes_eq from to) → put names to (Some object) ≡ moved names from to (names from)
moved-same names from to object e other = rw (e, same) (sym (put-twice names to None (Some object)))
  where
    same : from ≡ to
    same = (bytes_eq-Decides from to).0 (is_true (bytes_eq from to) other)
      where
        is_true : (b : Bool) → false ≡ not b → b ≡ true
        is_true true h = refl
        is_true false h = absurd (false≢true h)

-- one more pending change
pub seen_more : (m n : BTreeMap (List ℕ) ℕ) (pending : List NameChange) (more : NameChange) (settled : Names)
    → named n ≡ after_op (op_of more) (named m) → IsSeen m pending settled → IsSeen n (pending ++ more ∷ []) settled
seen_more m n pending more settled e seen =
    e ∙ ap (after_op (op_of more)) seen ∙ sym (names_after-push (map op_of pending) (op_of more) settled) ∙ ap (λ ops. names_after ops settled) (sym (map-append op_of pending (more ∷ [])))

pub ruleset updates = (named-updates, named-unchanged)
