-- Names of partitions, beside those of the partitions before them.
use Rattle.std.proofs.Common.{◌≡◌, ℕ, ◌+◌, ◌<◌, ◌≤◌, List, [], ◌∷◌, ◌++◌, length, take, drop, get_or, Option, Some, None, refl, sym, ap, ◌∙◌}
use Rattle.std.specs.Prelude.{is_none, unwrap_or}
use Rattle.std.specs.List.{flat_map}
use Rattle.std.specs.Option.{option_or}
use Rattle.std.proofs.lemmas.Grind.{flat_map-append}
use Rattle.std.proofs.lemmas.List.{append-nil, append_assoc, at_drop_all, at_drop_more, take_all, take_more}
use Rattle.pt_ast.specs.declared.written.PartItem.{PartItem}
use Rattle.pt_ast.specs.declared.written.SubSpec.{SubSpec}
use Rattle.pt_ast.specs.declared.table.PartDef.{PartDef}
use Rattle.pt_ast.specs.declared.table.TableDef.{TableDef}
use Rattle.pt_ast.specs.declared.refusal.Refusal.{Refusal}
use Rattle.pt_place.specs.Checks.{is_whole, part_names}
use Rattle.pt_place.specs.First.{in_turn_from}
use Rattle.pt_place.specs.Valid.{first_subs}
use Rattle.pt_place.proofs.Firsts.{or-none, or-some, turn-append}
use Rattle.pt_written.specs.Complete.{bad_name, bad_names, named_in}
use Rattle.pt_written.specs.WrittenParts.{sub_names, subs_named}
use Rattle.pt_complete.specs.Making.{bad_names_beside}
use Rattle.pt_complete.proofs.Naming.{beside_turns, seconds}
use Rattle.pt_regrouped.specs.NewParts.{new_subs}
use Rattle.pt_regrouped.specs.Steps.{bad_names_behind}

-- ---- one partition

pub own_names : (before : List PartDef) (part : PartDef) → bad_names_behind before (part ∷ []) ≡ bad_names_beside (part_names before) part.name (part.name ∷ part.subs)
own_names before part =
    ap (in_turn_from bad_name (flat_map named_in before)) (append-nil (named_in part))
    ∙ beside_turns (flat_map named_in before) part.name (part.name ∷ part.subs)
    ∙ ap (λ l. bad_names_beside l part.name (part.name ∷ part.subs)) (seconds before)

pub names_put : (before : List PartDef) (part : PartDef) → part_names (before ++ part ∷ []) ≡ part_names before ++ (part.name ∷ part.subs)
names_put before part =
    flat_map-append (λ (p : PartDef). p.name ∷ p.subs) before (part ∷ []) ∙ ap (λ l. part_names before ++ l) (append-nil (part.name ∷ part.subs))

module _ (names : List (List ℕ)) (before : List PartDef) (part : PartDef) (is : names ≡ part_names before) where
  pub part_passes : bad_names_beside names part.name (part.name ∷ part.subs) ≡ None → None ≡ bad_names_behind before (part ∷ [])
  part_passes none = sym (own_names before part ∙ ap (λ l. bad_names_beside l part.name (part.name ∷ part.subs)) (sym is) ∙ none)

  pub part_refused : (r : Refusal) → bad_names_beside names part.name (part.name ∷ part.subs) ≡ Some r → Some r ≡ bad_names_behind before (part ∷ [])
  part_refused r found = sym (own_names before part ∙ ap (λ l. bad_names_beside l part.name (part.name ∷ part.subs)) (sym is) ∙ found)

  pub part_named : (next : List (List ℕ)) (parts : List PartDef) → next ≡ names ++ (part.name ∷ part.subs) → parts ≡ before ++ part ∷ [] → next ≡ part_names parts
  part_named next parts is_next is_parts =
      is_next ∙ ap (λ l. l ++ (part.name ∷ part.subs)) is ∙ sym (names_put before part) ∙ ap part_names (sym is_parts)

-- what stands for the kind of the subpartitions plays no part
pub subs_like : (def : TableDef) (like : Option SubSpec) (item : PartItem) → is_none like ≡ is_whole def.sub → subs_named like (first_subs def.parts) item.name item.subs ≡ new_subs def item
subs_like def None item is = rw (sym is) refl
subs_like def (Some sub) item is = rw (sym is) (by item.subs)
  where
    by : (o : Option (List (List ℕ))) → subs_named (Some sub) (first_subs def.parts) item.name o ≡ unwrap_or o (sub_names item.name (first_subs def.parts))
    by (Some names) = refl
    by None = refl

-- ---- partitions one behind the other

pub behind_append : (before xs ys : List PartDef) → bad_names_behind before (xs ++ ys) ≡ option_or (bad_names_behind before xs) (bad_names_behind (before ++ xs) ys)
behind_append before xs ys =
    ap (in_turn_from bad_name (flat_map named_in before)) (flat_map-append named_in xs ys)
    ∙ turn-append bad_name (flat_map named_in before) (flat_map named_in xs) (flat_map named_in ys)
    ∙ ap (λ l. option_or (bad_names_behind before xs) (in_turn_from bad_name l (flat_map named_in ys))) (sym (flat_map-append named_in before xs))

-- the first i of these are added
pub record AreAdded (before all : List PartDef) (i : ℕ) (names : List (List ℕ)) (parts : List PartDef) : Type 0 where
  pub made : parts ≡ before ++ take i all
  pub named : names ≡ part_names parts
  pub checked : bad_names_behind parts (drop i all) ≡ bad_names_behind before all

pub added_first : (before all : List PartDef) (names : List (List ℕ)) → names ≡ part_names before → AreAdded before all 0 names before
added_first before all names is = record { made = sym (append-nil before); named = is; checked = refl }

module _ (before all : List PartDef) (i : ℕ) (names : List (List ℕ)) (parts : List PartDef) (so : AreAdded before all i names parts) where
  module _ (part : PartDef) (within : i < length all) (is : part ≡ get_or all i part) where
    step : bad_names_behind parts (drop i all) ≡ option_or (bad_names_behind parts (part ∷ [])) (bad_names_behind (parts ++ part ∷ []) (drop (i + 1) all))
    step =
        at_drop_more (bad_names_behind parts) all i part within
        ∙ ap (λ p. bad_names_behind parts (p ∷ drop (i + 1) all)) (sym is)
        ∙ behind_append parts (part ∷ []) (drop (i + 1) all)

    pub added_found : (r : Refusal) → bad_names_behind parts (part ∷ []) ≡ Some r → bad_names_behind before all ≡ Some r
    added_found r found = sym so.checked ∙ step ∙ or-some _ _ r found

    pub added_more : (next : List (List ℕ)) (more : List PartDef) → bad_names_behind parts (part ∷ []) ≡ None → next ≡ part_names more → more ≡ parts ++ part ∷ [] → AreAdded before all (i + 1) next more
    added_more next more none is_next is_more = record {
      made = is_more ∙ ap (λ l. l ++ part ∷ []) so.made ∙ append_assoc before (take i all) (part ∷ []) ∙ ap (λ l. before ++ l) (sym (take_more all i part within ∙ ap (λ p. take i all ++ p ∷ []) (sym is)));
      named = is_next;
      checked = ap (λ l. bad_names_behind l (drop (i + 1) all)) is_more ∙ sym (or-none _ _ none) ∙ sym step ∙ so.checked;
    }

  pub added_parts : length all ≤ i → parts ≡ before ++ all
  added_parts past = so.made ∙ ap (λ l. before ++ l) (take_all i all past)

  pub added_none : length all ≤ i → bad_names_behind before all ≡ None
  added_none past = sym so.checked ∙ at_drop_all (bad_names_behind parts) all i past

-- ---- old partitions, new ones, and old ones again

module _ (front new behind a b c d : List PartDef) (is_a : a ≡ []) where
  whole : bad_names (front ++ new ++ behind) ≡ option_or (option_or (bad_names_behind [] front) (bad_names_behind front new)) (bad_names_behind (front ++ new) behind)
  whole = behind_append [] (front ++ new) behind ∙ ap (λ r. option_or r (bad_names_behind (front ++ new) behind)) (behind_append [] front new)

  pub front_found : (r : Refusal) → bad_names_behind a front ≡ Some r → bad_names (front ++ new ++ behind) ≡ Some r
  front_found r found = whole ∙ or-some _ _ r (or-some _ _ r (ap (λ l. bad_names_behind l front) (sym is_a) ∙ found))

  module _ (front_none : bad_names_behind a front ≡ None) (is_b : b ≡ a ++ front) where
    none_a : bad_names_behind [] front ≡ None
    none_a = ap (λ l. bad_names_behind l front) (sym is_a) ∙ front_none

    b_is : b ≡ front
    b_is = is_b ∙ ap (λ l. l ++ front) is_a

    pub new_found : (r : Refusal) → bad_names_behind b new ≡ Some r → bad_names (front ++ new ++ behind) ≡ Some r
    new_found r found = whole ∙ or-some _ _ r (or-none _ _ none_a ∙ ap (λ l. bad_names_behind l new) (sym b_is) ∙ found)

    module _ (new_none : bad_names_behind b new ≡ None) (is_c : c ≡ b ++ new) where
      c_is : c ≡ front ++ new
      c_is = is_c ∙ ap (λ l. l ++ new) b_is

      after : bad_names (front ++ new ++ behind) ≡ bad_names_behind c behind
      after =
          whole ∙ or-none _ _ (or-none _ _ none_a ∙ ap (λ l. bad_names_behind l new) (sym b_is) ∙ new_none) ∙ ap (λ l. bad_names_behind l behind) (sym c_is)

      pub behind_found : (r : Refusal) → bad_names_behind c behind ≡ Some r → bad_names (front ++ new ++ behind) ≡ Some r
      behind_found r found = after ∙ found

      pub all_none : bad_names_behind c behind ≡ None → bad_names (front ++ new ++ behind) ≡ None
      all_none none = after ∙ none

      pub all_parts : d ≡ c ++ behind → d ≡ front ++ new ++ behind
      all_parts is_d = is_d ∙ ap (λ l. l ++ behind) c_is
