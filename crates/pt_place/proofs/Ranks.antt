-- The keys that lack a column, rank by rank.
use Rattle.std.proofs.Common.{◌≡◌, Bool, true, false, cond, List, [], ◌∷◌, ◌++◌, Option, None, refl, sym, ap, ◌∙◌}
use Rattle.std.specs.Option.{option_or}
use Rattle.std.specs.List.{filter}
use Rattle.pt_ast.specs.declared.table.TableDef.{TableDef}
use Rattle.pt_ast.specs.declared.refusal.Refusal.{Refusal}
use Rattle.pt_place.specs.First.{first_in}
use Rattle.pt_place.specs.Checks.{is_primary_rank, is_unique_rank, lacking_key}
use Rattle.pt_place.specs.Lacking.{lacks_primary, lacks_unique, lacks_used}
use Rattle.pt_place.proofs.Firsts.{or_assoc}

first_in-append : {A : Type 0} (check : A → Option Refusal) (xs ys : List A) → first_in check (xs ++ ys) ≡ option_or (first_in check xs) (first_in check ys)
first_in-append check [] ys = refl
first_in-append check (x ∷ xs) ys = ap (option_or (check x)) (first_in-append check xs ys) ∙ sym (or_assoc (check x) (first_in check xs) (first_in check ys))

kept_or_not : {A : Type 0} (b : Bool) (check : A → Option Refusal) (x : A) (xs : List A) → first_in check (cond b (x ∷ xs) xs) ≡ option_or (cond b (check x) None) (first_in check xs)
kept_or_not true check x xs = refl
kept_or_not false check x xs = refl

first_in-filter : {A : Type 0} (check : A → Option Refusal) (test : A → Bool) (xs : List A) → first_in check (filter test xs) ≡ first_in (λ x. cond (test x) (check x) None) xs
first_in-filter check test [] = refl
first_in-filter check test (x ∷ xs) = kept_or_not (test x) check x (filter test xs) ∙ ap (option_or (cond (test x) (check x) None)) (first_in-filter check test xs)

pub by_ranks : (def : TableDef) → option_or (first_in (lacks_primary def) def.keys) (first_in (lacks_unique def) def.keys) ≡ lacking_key def.columns def.keys def.by def.sub
by_ranks def =
    sym (first_in-append (lacks_used def) (filter (λ key. is_primary_rank key.rank) def.keys) (filter (λ key. is_unique_rank key.rank) def.keys)
    ∙ ap (λ first. option_or first (first_in (lacks_used def) (filter (λ key. is_unique_rank key.rank) def.keys))) (first_in-filter (lacks_used def) (λ key. is_primary_rank key.rank) def.keys)
    ∙ ap (option_or (first_in (lacks_primary def) def.keys)) (first_in-filter (lacks_used def) (λ key. is_unique_rank key.rank) def.keys))
