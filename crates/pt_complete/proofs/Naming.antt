-- Names of partitions and subpartitions, one by one beside those before them.
use Rattle.std.proofs.Common.{◌≡◌, ℕ, ◌+◌, ◌<◌, ◌≤◌, arith, List, [], ◌∷◌, ◌++◌, map, length, take, drop, get_or, Option, Some, None, Result, Ok, Err, refl, sym, ap, subst, ◌∙◌}
use Rattle.std.specs.Prelude.{IfNone, IfOk, codes, decimal}
use Rattle.std.specs.List.{flat_map, range_with_len}
use Rattle.std.specs.Option.{option_or}
use Rattle.std.proofs.lemmas.Grind.{flat_map-append}
use Rattle.std.proofs.lemmas.List.FromFn.{get_or-map-range_with_len, length-range_with_len}
use Rattle.std.proofs.lemmas.List.{length-map, get_or-map, append-nil, append_assoc, map-append, at_drop_more, at_drop_all, take_all, take_more}
use Rattle.pt_ast.specs.declared.written.SubSpec.{SubSpec}
use Rattle.pt_ast.specs.declared.table.Bound.{Bound}
use Rattle.pt_ast.specs.declared.table.PartDef.{PartDef}
use Rattle.pt_ast.specs.declared.refusal.Refusal.{Refusal}
use Rattle.pt_place.specs.Checks.{part_names}
use Rattle.pt_place.specs.First.{in_turn_from}
use Rattle.pt_place.proofs.Firsts.{or-some, or-none, turn-append}
use Rattle.pt_written.specs.Complete.{Named, bad_name, bad_names, named_in, refused_or}
use Rattle.pt_written.specs.WrittenParts.{part_made, subs_named}
use Rattle.pt_complete.specs.Making.{bad_name_beside, bad_names_beside}

-- ---- what is made, or refused

pub made_ok : {A : Type 0} (check : Option Refusal) (x y : A) → Ok y ≡ refused_or check x → (check ≡ None) × (y ≡ x)
made_ok (Some r) x y e = cc
made_ok None x y e = (refl, cc)

pub made_err : {A : Type 0} (check : Option Refusal) (x : A) (r : Refusal) → Err r ≡ refused_or check x → check ≡ Some r
made_err (Some s) x r e = cc
made_err None x r e = cc

pub ok_made : {A : Type 0} (check : Option Refusal) (x y : A) → check ≡ None → y ≡ x → Ok y ≡ refused_or check x
ok_made (Some r) x y e is = cc
ok_made None x y e is = ap (λ z. Ok z) is

pub err_made : {A : Type 0} (check : Option Refusal) (x : A) (r : Refusal) → check ≡ Some r → Err r ≡ refused_or check x
err_made (Some s) x r e = cc
err_made None x r e = cc

pub ok_then : {A E : Type 0} (r : Result A E) (x : A) (P : A → Type 0) → r ≡ Ok x → IfOk r P → P x
ok_then (Ok y) x P e h = let is : y ≡ x = cc in subst P is h
ok_then (Err error) x P e h = absurd (cc)

pub none_then : {A : Type 0} (o : Option A) (P : Type 0) → o ≡ None → IfNone o P → P
none_then None P e h = h
none_then (Some x) P e h = absurd (cc)

-- ---- lists that are made, by number

module _ {A : Type 0} (f : ℕ → A) (n : ℕ) where
  pub made_at : (i : ℕ) → i < n → f i ≡ get_or (map f (range_with_len 0 n)) i (f i)
  made_at i within = sym (get_or-map-range_with_len f 0 n i i (f i) within (omega arith))

  length_made : length (map f (range_with_len 0 n)) ≡ n
  length_made = length-map (range_with_len 0 n) f ∙ length-range_with_len 0 n

  pub made_within : (i : ℕ) → i < n → i < length (map f (range_with_len 0 n))
  made_within i within = rw length_made within

  pub made_past : (i : ℕ) → n ≤ i → length (map f (range_with_len 0 n)) ≤ i
  made_past i past = rw length_made past

module _ {A B : Type 0} (f : A → B) (xs : List A) where
  pub mapped_at : (i : ℕ) (x : A) → i < length xs → x ≡ get_or xs i x → f x ≡ get_or (map f xs) i (f x)
  mapped_at i x within is = ap f is ∙ sym (get_or-map f xs i x (f x) within)

  pub mapped_within : (i : ℕ) → i < length xs → i < length (map f xs)
  mapped_within i within = rw (length-map xs f) within

  pub mapped_past : (i : ℕ) → length xs ≤ i → length (map f xs) ≤ i
  mapped_past i past = rw (length-map xs f) past

-- ---- names of subpartitions

pub record AreListed (before : List (List ℕ)) (part : List ℕ) (all : List (List ℕ)) (i : ℕ) (names subs : List (List ℕ)) : Type 0 where
  pub made : subs ≡ take i all
  pub named : names ≡ before ++ take i all
  pub checked : bad_names_beside names part (drop i all) ≡ bad_names_beside before part all

module _ (before : List (List ℕ)) (part : List ℕ) (all : List (List ℕ)) (i : ℕ) (names subs : List (List ℕ)) (so : AreListed before part all i names subs) where
  module _ (name : List ℕ) (within : i < length all) (is : name ≡ get_or all i name) where
    step : bad_names_beside names part (drop i all) ≡ option_or (bad_name_beside names part name) (bad_names_beside (names ++ name ∷ []) part (drop (i + 1) all))
    step =
        at_drop_more (bad_names_beside names part) all i name within
        ∙ ap (λ n. option_or (bad_name_beside names part n) (bad_names_beside (names ++ n ∷ []) part (drop (i + 1) all))) (sym is)

    taken : take (i + 1) all ≡ take i all ++ name ∷ []
    taken = take_more all i name within ∙ ap (λ n. take i all ++ n ∷ []) (sym is)

    pub listed_found : (r : Refusal) → bad_name_beside names part name ≡ Some r → bad_names_beside before part all ≡ Some r
    listed_found r found = sym so.checked ∙ step ∙ or-some _ _ r found

    pub listed_more : (next more : List (List ℕ)) → bad_name_beside names part name ≡ None → next ≡ names ++ name ∷ [] → more ≡ subs ++ name ∷ [] → AreListed before part all (i + 1) next more
    listed_more next more none is_next is_more = record {
      made = is_more ∙ ap (λ l. l ++ name ∷ []) so.made ∙ sym taken;
      named = is_next ∙ ap (λ l. l ++ name ∷ []) so.named ∙ append_assoc before (take i all) (name ∷ []) ∙ ap (λ l. before ++ l) (sym taken);
      checked = ap (λ l. bad_names_beside l part (drop (i + 1) all)) is_next ∙ sym (or-none _ _ none) ∙ sym step ∙ so.checked;
    }

  pub listed_subs : length all ≤ i → subs ≡ all
  listed_subs past = so.made ∙ take_all i all past

  pub listed_names : length all ≤ i → names ≡ before ++ all
  listed_names past = so.named ∙ ap (λ l. before ++ l) (take_all i all past)

  pub listed_none : length all ≤ i → bad_names_beside before part all ≡ None
  listed_none past = sym so.checked ∙ at_drop_all (bad_names_beside names part) all i past

pub listed_first : (before : List (List ℕ)) (part : List ℕ) (all : List (List ℕ)) → AreListed before part all 0 before []
listed_first before part all = record { made = refl; named = sym (append-nil before); checked = refl }

-- ---- names of partitions

abbrev pub second : Named → List ℕ
second named = named.1

pub beside_turns : (before : List Named) (part : List ℕ) (names : List (List ℕ)) → in_turn_from bad_name before (map (λ (name : List ℕ). (part, name)) names) ≡ bad_names_beside (map second before) part names
beside_turns before part [] = refl
beside_turns before part (name ∷ names) =
    ap (option_or (bad_name before (part, name))) (beside_turns (before ++ (part, name) ∷ []) part names ∙ ap (λ l. bad_names_beside l part names) (map-append second before ((part, name) ∷ [])))

pub second_subs : (part : List ℕ) (names : List (List ℕ)) → map second (map (λ (name : List ℕ). (part, name)) names) ≡ names
second_subs part [] = refl
second_subs part (name ∷ names) = ap (λ l. name ∷ l) (second_subs part names)

pub seconds : (parts : List PartDef) → map second (flat_map named_in parts) ≡ part_names parts
seconds [] = refl
seconds (part ∷ parts) =
    map-append second (named_in part) (flat_map named_in parts)
    ∙ ap (λ l. l ++ map second (flat_map named_in parts)) (ap (λ l. part.name ∷ l) (second_subs part.name part.subs))
    ∙ ap (λ l. (part.name ∷ part.subs) ++ l) (seconds parts)

pub record AreNamed (all : List PartDef) (i : ℕ) (names : List (List ℕ)) (parts : List PartDef) : Type 0 where
  pub made : parts ≡ take i all
  pub named : names ≡ part_names (take i all)
  pub checked : in_turn_from bad_name (flat_map named_in (take i all)) (flat_map named_in (drop i all)) ≡ bad_names all

module _ (all : List PartDef) (i : ℕ) (names : List (List ℕ)) (parts : List PartDef) (so : AreNamed all i names parts) where
  module _ (part : PartDef) (within : i < length all) (is : part ≡ get_or all i part) where
    parts_taken : take (i + 1) all ≡ take i all ++ part ∷ []
    parts_taken = take_more all i part within ∙ ap (λ p. take i all ++ p ∷ []) (sym is)

    own : in_turn_from bad_name (flat_map named_in (take i all)) (named_in part) ≡ bad_names_beside names part.name (part.name ∷ part.subs)
    own = beside_turns (flat_map named_in (take i all)) part.name (part.name ∷ part.subs) ∙ ap (λ l. bad_names_beside l part.name (part.name ∷ part.subs)) (seconds (take i all) ∙ sym so.named)

    named_taken : flat_map named_in (take (i + 1) all) ≡ flat_map named_in (take i all) ++ named_in part
    named_taken = ap (flat_map named_in) parts_taken ∙ flat_map-append named_in (take i all) (part ∷ []) ∙ ap (λ l. flat_map named_in (take i all) ++ l) (append-nil (named_in part))

    names_taken : part_names (take (i + 1) all) ≡ part_names (take i all) ++ (part.name ∷ part.subs)
    names_taken =
        ap part_names parts_taken ∙ flat_map-append (λ (p : PartDef). p.name ∷ p.subs) (take i all) (part ∷ []) ∙ ap (λ l. part_names (take i all) ++ l) (append-nil (part.name ∷ part.subs))

    rest : Option Refusal
    rest = in_turn_from bad_name (flat_map named_in (take (i + 1) all)) (flat_map named_in (drop (i + 1) all))

    part_step : bad_names all ≡ option_or (bad_names_beside names part.name (part.name ∷ part.subs)) rest
    unfolding rest
    part_step =
        sym so.checked
        ∙ at_drop_more (λ ps. in_turn_from bad_name (flat_map named_in (take i all)) (flat_map named_in ps)) all i part within
        ∙ ap (λ p. in_turn_from bad_name (flat_map named_in (take i all)) (named_in p ++ flat_map named_in (drop (i + 1) all))) (sym is)
        ∙ turn-append bad_name (flat_map named_in (take i all)) (named_in part) (flat_map named_in (drop (i + 1) all))
        ∙ ap (λ r. option_or r (in_turn_from bad_name (flat_map named_in (take i all) ++ named_in part) (flat_map named_in (drop (i + 1) all)))) own
        ∙ ap (λ l. option_or (bad_names_beside names part.name (part.name ∷ part.subs)) (in_turn_from bad_name l (flat_map named_in (drop (i + 1) all)))) (sym named_taken)

    pub named_found : (r : Refusal) → bad_names_beside names part.name (part.name ∷ part.subs) ≡ Some r → bad_names all ≡ Some r
    named_found r found = part_step ∙ or-some _ _ r found

    pub named_more : (next : List (List ℕ)) (more : List PartDef) → bad_names_beside names part.name (part.name ∷ part.subs) ≡ None → next ≡ names ++ (part.name ∷ part.subs) → more ≡ parts ++ part ∷ [] → AreNamed all (i + 1) next more
    unfolding rest
    named_more next more none is_next is_more = record {
      made = is_more ∙ ap (λ l. l ++ part ∷ []) so.made ∙ sym parts_taken;
      named = is_next ∙ ap (λ l. l ++ (part.name ∷ part.subs)) so.named ∙ sym names_taken;
      checked = sym (or-none _ _ none) ∙ sym part_step;
    }

  pub named_parts : length all ≤ i → parts ≡ all
  named_parts past = so.made ∙ take_all i all past

  pub named_none : length all ≤ i → bad_names all ≡ None
  named_none past = sym so.checked ∙ at_drop_all (λ ps. in_turn_from bad_name (flat_map named_in (take i all)) (flat_map named_in ps)) all i past

pub part_as : List ℕ → List (List Bound) → List (List ℕ) → PartDef
part_as name bounds subs = record { name = name; bounds = bounds; subs = subs }

pub made_part : (sub : Option SubSpec) (count i : ℕ) (name : List ℕ) (bounds : List (List Bound)) (subs : List (List ℕ)) → name ≡ codes "p" ++ decimal i → bounds ≡ [] → subs ≡ subs_named sub count name None
    → ◌≡◌ {A = PartDef} (record { name = name; bounds = bounds; subs = subs }) (part_made sub count i)
unfolding part_as
made_part sub count i name bounds subs named none made =
    ap (λ (s : List (List ℕ)). part_as name bounds s) made ∙ ap (λ (b : List (List Bound)). part_as name b (subs_named sub count name None)) none ∙ ap (λ (n : List ℕ). part_as n [] (subs_named sub count n None)) named

pub written_part : (name : List ℕ) (bounds own : List (List Bound)) (subs named : List (List ℕ)) → bounds ≡ own → subs ≡ named
    → ◌≡◌ {A = PartDef} (record { name = name; bounds = bounds; subs = subs }) (record { name = name; bounds = own; subs = named })
unfolding part_as
written_part name bounds own subs named same made = ap (λ s. part_as name bounds s) made ∙ ap (λ b. part_as name b named) same
