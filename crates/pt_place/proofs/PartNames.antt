-- The names of partitions, partition by partition.
use Rattle.std.proofs.Common.{◌≡◌, ℕ, ◌+◌, ◌<◌, List, [], ◌∷◌, ◌++◌, length, take, drop, get_or, Option, Some, None, sym, ap, ◌∙◌}
use Rattle.std.specs.Option.{option_or}
use Rattle.std.proofs.lemmas.Grind.{flat_map-append}
use Rattle.std.proofs.lemmas.List.{append-nil, at_drop_more, take_more}
use Rattle.pt_ast.specs.declared.table.PartDef.{PartDef}
use Rattle.pt_ast.specs.declared.refusal.Refusal.{Refusal}
use Rattle.pt_place.specs.Checks.{name_twice, part_names}
use Rattle.pt_place.specs.First.{in_turn_from}
use Rattle.pt_place.proofs.Firsts.{or-some, or-none, turn-append}

names_more : (parts : List PartDef) (i : ℕ) (part : PartDef) → i < length parts → part ≡ get_or parts i part → part_names (take (i + 1) parts) ≡ part_names (take i parts) ++ (part.name ∷ part.subs)
names_more parts i part within is =
    ap part_names (take_more parts i part within)
    ∙ ap (λ (p : PartDef). part_names (take i parts ++ p ∷ [])) (sym is)
    ∙ flat_map-append (λ (p : PartDef). p.name ∷ p.subs) (take i parts) (part ∷ [])
    ∙ ap (λ l. part_names (take i parts) ++ l) (append-nil (part.name ∷ part.subs))

module _ (parts : List PartDef) (i : ℕ) (part : PartDef) (within : i < length parts) (is : part ≡ get_or parts i part) where
  rest : Option Refusal
  rest = in_turn_from name_twice (part_names (take (i + 1) parts)) (part_names (drop (i + 1) parts))

  step : in_turn_from name_twice (part_names (take i parts)) (part_names (drop i parts)) ≡ option_or (in_turn_from name_twice (part_names (take i parts)) (part.name ∷ part.subs)) rest
  unfolding rest
  step =
      at_drop_more (λ ps. in_turn_from name_twice (part_names (take i parts)) (part_names ps)) parts i part within
      ∙ ap (λ (p : PartDef). in_turn_from name_twice (part_names (take i parts)) ((p.name ∷ p.subs) ++ part_names (drop (i + 1) parts))) (sym is)
      ∙ turn-append name_twice (part_names (take i parts)) (part.name ∷ part.subs) (part_names (drop (i + 1) parts))
      ∙ ap (λ before. option_or (in_turn_from name_twice (part_names (take i parts)) (part.name ∷ part.subs)) (in_turn_from name_twice before (part_names (drop (i + 1) parts)))) (sym (names_more parts i part within is))

  pub part_found : (r : Refusal) (all : Option Refusal) → in_turn_from name_twice (part_names (take i parts)) (part_names (drop i parts)) ≡ all
      → in_turn_from name_twice (part_names (take i parts)) (part.name ∷ part.subs) ≡ Some r → Some r ≡ all
  part_found r all kept found = sym (or-some _ _ r found) ∙ sym step ∙ kept

  pub part_more : (all : Option Refusal) → in_turn_from name_twice (part_names (take i parts)) (part_names (drop i parts)) ≡ all
      → in_turn_from name_twice (part_names (take i parts)) (part.name ∷ part.subs) ≡ None → in_turn_from name_twice (part_names (take (i + 1) parts)) (part_names (drop (i + 1) parts)) ≡ all
  unfolding rest
  part_more all kept none = sym (or-none _ _ none) ∙ sym step ∙ kept
