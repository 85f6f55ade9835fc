-- Whether a tuple stands among others.
use Rattle.std.proofs.Common.{◌≡◌, ℕ, ◌+◌, ◌<◌, Bool, true, false, ◌||◌, List, [], ◌∷◌, ◌++◌, length, take, drop, get_or, refl, sym, ap, ◌∙◌, append_assoc}
use Rattle.std.specs.List.{list_any}
use Rattle.std.proofs.lemmas.Bool.{true≢false}
use Rattle.std.proofs.lemmas.List.{at_drop_more, take_more}
use Rattle.std.proofs.lemmas.List.Folds.{list_any-append}
use Rattle.pt_ast.specs.declared.table.Bound.{Bound}
use Rattle.pt_ast.specs.declared.table.PartDef.{PartDef}
use Rattle.pt_ast.specs.Lists.{entries, has_tuple, repeats, stands_among}

pub stands_in_entries : (parts : List PartDef) (tuple : List Bound) → stands_among (entries parts) tuple ≡ list_any (has_tuple tuple) parts
stands_in_entries [] tuple = refl
stands_in_entries (part ∷ parts) tuple = list_any-append _ part.bounds (entries parts) ∙ ap (λ b. has_tuple tuple part || b) (stands_in_entries parts tuple)

pub stands_split : (parts : List PartDef) (own : List (List Bound)) (tuple : List Bound)
    → stands_among (entries parts ++ own) tuple ≡ (list_any (has_tuple tuple) parts || stands_among own tuple)
stands_split parts own tuple = list_any-append _ (entries parts) own ∙ ap (λ b. b || stands_among own tuple) (stands_in_entries parts tuple)

pub or_first : (a b : Bool) → a ≡ true → (a || b) ≡ a
or_first true b e = refl
or_first false b e = absurd (true≢false (sym e))

pub or_second : (a b : Bool) → a ≡ false → (a || b) ≡ b
or_second true b e = absurd (true≢false e)
or_second false b e = refl

pub repeats-more : (before tuples : List (List Bound)) (i : ℕ) (tuple : List Bound) → i < length tuples → tuple ≡ get_or tuples i tuple
    → repeats (before ++ take i tuples) (drop i tuples) ≡ (stands_among (before ++ take i tuples) tuple || repeats (before ++ take (i + 1) tuples) (drop (i + 1) tuples))
repeats-more before tuples i tuple within e =
    at_drop_more (repeats (before ++ take i tuples)) tuples i tuple within
    ∙ ap (λ t. stands_among (before ++ take i tuples) t || repeats (before ++ take i tuples ++ t ∷ []) (drop (i + 1) tuples)) (sym e)
    ∙ ap (λ l. stands_among (before ++ take i tuples) tuple || repeats l (drop (i + 1) tuples))
    (append_assoc before (take i tuples) (tuple ∷ []) ∙ ap (λ l. before ++ l) (ap (λ t. take i tuples ++ t ∷ []) e ∙ sym (take_more tuples i tuple within)))
