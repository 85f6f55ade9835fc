-- A definition by HASH or KEY with partitions more.
use Rattle.std.proofs.Common.{◌≡◌, ℕ, zero, suc, ◌+◌, ◌-◌, ◌*◌, ◌<◌, ◌≤◌, true, false, cond, not, ◌&&◌, List, [], ◌∷◌, ◌++◌, map, length, Option, Some, None, refl, sym, ap, ◌∙◌, subst, arith, length-append}
use Rattle.std.specs.Prelude.{nat_lt, ◌==◌}
use Rattle.std.specs.List.{All, range_with_len}
use Rattle.std.specs.Option.{option_or}
use Rattle.std.proofs.lemmas.Bool.{and_right, not-false, or_from}
use Rattle.std.proofs.lemmas.List.{append-nil, append_assoc}
use Rattle.std.proofs.lemmas.List.Concat.{flat_map-append}
use Rattle.std.proofs.lemmas.List.Elements.{All-append, All-cons, All-head, All-nil, All-tail}
use Rattle.std.proofs.lemmas.List.FromFn.{length-map-range_with_len, map-range_with_len_more}
use Rattle.pt_ast.specs.declared.refusal.Refusal.{Refusal}
use Rattle.pt_ast.specs.declared.refusal.Refusal.TheVariants as refusal
use Rattle.pt_ast.specs.declared.table.Column.{Column}
use Rattle.pt_ast.specs.declared.table.PartBy.{PartBy}
use Rattle.pt_ast.specs.declared.table.PartBy.TheVariants as by
use Rattle.pt_ast.specs.declared.table.PartDef.{PartDef}
use Rattle.pt_ast.specs.declared.table.TableDef.{TableDef}
use Rattle.pt_ast.specs.StorableDef.{AreBoundsOf, AreSubsOf, IsStorableDef, IsStorablePartDef, IsWholeAlone}
use Rattle.pt_place.specs.Checks.{bad_bounds, is_by_number, is_whole, name_twice, part_names, sub_of_number, told, too_many}
use Rattle.pt_place.specs.First.{first_in, first_of, in_turn, in_turn_from, refused_if}
use Rattle.pt_place.specs.Fitting.{kinds_of}
use Rattle.pt_place.specs.Valid.{IsValid, bad_items, bad_kinds, bad_parts, bad_values, first_subs, is_without_parts, leaf_count, other_subs}
use Rattle.pt_place.proofs.Firsts.{none_first, none_next, passes, turn-append}
use Rattle.pt_written.specs.Complete.{refused_or}
use Rattle.pt_complete.proofs.Valid.{none_six, none_three, six_none, three_none}
use Rattle.pt_complete.proofs.ValidCounts.{AllHave, few_told, no_others, not_zero, told_few, zero_not}
use Rattle.pt_complete.proofs.ValidNames.{both_none, not_refused}
use Rattle.pt_actions.specs.Named.{by_ranges_or_lists, not_partitioned, with_parts}
use Rattle.pt_actions.specs.Counted.{bad_count, bad_more, number_name, numbered_part, parts_more, with_more_of}
use Rattle.pt_actions.specs.Making.{with_numbered_of}

-- ---- names: the new ones alone are asked

abbrev names_in : PartDef → List (List ℕ)
names_in part = part.name ∷ part.subs

new_names : (a n : ℕ) → part_names (map numbered_part (range_with_len a n)) ≡ map number_name (range_with_len a n)
new_names a zero = refl
new_names a (suc n) = ap (λ (names : List (List ℕ)). number_name a ∷ names) (new_names (a + 1) n)

pub names_more : (more : ℕ) (parts : List PartDef) → in_turn name_twice (part_names parts) ≡ None
    → in_turn name_twice (part_names (parts_more more parts)) ≡ in_turn_from name_twice (part_names parts) (map number_name (range_with_len (length parts) more))
names_more more parts none =
    let new = map numbered_part (range_with_len (length parts) more) in
    ap (in_turn_from name_twice []) (flat_map-append names_in parts new ∙ ap (λ (names : List (List ℕ)). part_names parts ++ names) (new_names (length parts) more))
    ∙ turn-append name_twice [] (part_names parts) (map number_name (range_with_len (length parts) more))
    ∙ ap (λ (o : Option Refusal). option_or o (in_turn_from name_twice (part_names parts) (map number_name (range_with_len (length parts) more)))) none

-- ---- the loop over the new ones

pub record AreNumbered (before : List PartDef) (more i : ℕ) (names : List (List ℕ)) (parts : List PartDef) : Type 0 where
  pub asked : in_turn_from name_twice (part_names before) (map number_name (range_with_len (length before) more)) ≡ in_turn_from name_twice names (map number_name (range_with_len (length before + i) (more - i)))
  pub made : parts ≡ before ++ map numbered_part (range_with_len (length before) i)

pub numbered_first : (before : List PartDef) (more : ℕ) → AreNumbered before more 0 (part_names before) before
numbered_first before more = record {
  asked = let same : length before ≡ length before + 0 = omega arith in ap (λ a. in_turn_from name_twice (part_names before) (map number_name (range_with_len a more))) same ∙ ap (λ n. in_turn_from name_twice (part_names before) (map number_name (range_with_len (length before + 0) n))) (let long : more ≡ more - 0 = omega arith in long);
  made = sym (append-nil before);
}

next_range : (a n : ℕ) → 0 < n → range_with_len a n ≡ a ∷ range_with_len (a + 1) (n - 1)
next_range a zero some = absurd (omega (arith, some))
next_range a (suc n) some = ap (λ k. a ∷ range_with_len (a + 1) k) (omega arith)

module _ (before : List PartDef) (more i : ℕ) (names : List (List ℕ)) (parts : List PartDef) (is : AreNumbered before more i names parts) (within : i < more) where
  abbrev name : List ℕ
  name = number_name (length before + i)

  next_asked : in_turn_from name_twice (part_names before) (map number_name (range_with_len (length before) more))
      ≡ option_or (name_twice names name) (in_turn_from name_twice (names ++ name ∷ []) (map number_name (range_with_len (length before + i + 1) (more - i - 1))))
  next_asked = is.asked ∙ ap (λ (ns : List ℕ). in_turn_from name_twice names (map number_name ns)) (next_range (length before + i) (more - i) (omega (arith, within)))

  pub numbered_found : name_twice names name ≡ Some (refusal.DuplicatePartition name)
      → in_turn_from name_twice (part_names before) (map number_name (range_with_len (length before) more)) ≡ Some (refusal.DuplicatePartition name)
  numbered_found found = next_asked ∙ ap (λ (o : Option Refusal). option_or o (in_turn_from name_twice (names ++ name ∷ []) (map number_name (range_with_len (length before + i + 1) (more - i - 1))))) found

  pub numbered_next : name_twice names name ≡ None → AreNumbered before more (i + 1) (names ++ name ∷ []) (parts ++ numbered_part (length before + i) ∷ [])
  numbered_next none = record {
    asked = next_asked
        ∙ ap (λ (o : Option Refusal). option_or o (in_turn_from name_twice (names ++ name ∷ []) (map number_name (range_with_len (length before + i + 1) (more - i - 1))))) none
        ∙ again (length before + i + 1) (length before + (i + 1)) (more - i - 1) (more - (i + 1)) (omega arith) (omega arith);
    made = ap (λ (ps : List PartDef). ps ++ numbered_part (length before + i) ∷ []) is.made
        ∙ regroup before (map numbered_part (range_with_len (length before) i)) (numbered_part (length before + i))
        ∙ ap (λ (ps : List PartDef). before ++ ps) (sym (map-range_with_len_more numbered_part (length before) i (length before + i) refl));
  }
    where
      again : (a b n m : ℕ) → a ≡ b → n ≡ m → in_turn_from name_twice (names ++ name ∷ []) (map number_name (range_with_len a n)) ≡ in_turn_from name_twice (names ++ name ∷ []) (map number_name (range_with_len b m))
      again a b n m same long = ap (λ k. in_turn_from name_twice (names ++ name ∷ []) (map number_name (range_with_len k n))) same ∙ ap (λ k. in_turn_from name_twice (names ++ name ∷ []) (map number_name (range_with_len b k))) long

      regroup : (xs ys : List PartDef) (z : PartDef) → (xs ++ ys) ++ z ∷ [] ≡ xs ++ (ys ++ z ∷ [])
      regroup xs ys z = append_assoc xs ys (z ∷ [])

pub numbered_all : (before : List PartDef) (more i : ℕ) (names : List (List ℕ)) (parts : List PartDef) → AreNumbered before more i names parts → i ≡ more
    → (in_turn_from name_twice (part_names before) (map number_name (range_with_len (length before) more)) ≡ None) × (parts ≡ parts_more more before)
numbered_all before more i names parts is all = (
  is.asked ∙ ap (λ k. in_turn_from name_twice names (map number_name (range_with_len (length before + i) k))) (let none : more - i ≡ 0 = omega (arith, all) in none),
  is.made ∙ ap (λ k. before ++ map numbered_part (range_with_len (length before) k)) all,
)

-- ---- by HASH or KEY

-- neither by values nor whole
pub by_number : (table : List ℕ) (kind : PartBy) → not_partitioned table kind ≡ None → by_ranges_or_lists table kind ≡ None → is_by_number kind ≡ true
by_number table by.Whole whole values = cc
by_number table (by.Range expr) whole values = cc
by_number table (by.List expr) whole values = cc
by_number table (by.RangeColumns numbers) whole values = cc
by_number table (by.ListColumns numbers) whole values = cc
by_number table (by.Hash linear expr) whole values = refl
by_number table (by.Key linear numbers) whole values = refl

no_bounds : (kind : PartBy) (parts : List PartDef) → is_by_number kind ≡ true → bad_bounds kind parts ≡ None
no_bounds by.Whole parts is = refl
no_bounds (by.Range expr) parts is = cc
no_bounds (by.List expr) parts is = cc
no_bounds (by.RangeColumns numbers) parts is = cc
no_bounds (by.ListColumns numbers) parts is = cc
no_bounds (by.Hash linear expr) parts is = refl
no_bounds (by.Key linear numbers) parts is = refl

new_values : (columns : List Column) (kind : PartBy) (a n : ℕ) → is_by_number kind ≡ true → first_in (bad_values (kinds_of columns kind) kind) (map numbered_part (range_with_len a n)) ≡ None
new_values columns kind a zero is = refl
new_values columns kind a (suc n) is = both_none (bad_values (kinds_of columns kind) kind (numbered_part a)) (first_in (bad_values (kinds_of columns kind) kind) (map numbered_part (range_with_len (a + 1) n))) (one kind is) (new_values columns kind (a + 1) n is)
  where
    one : (own : PartBy) → is_by_number own ≡ true → bad_values (kinds_of columns own) own (numbered_part a) ≡ None
    one by.Whole is = cc
    one (by.Range expr) is = cc
    one (by.List expr) is = cc
    one (by.RangeColumns numbers) is = cc
    one (by.ListColumns numbers) is = cc
    one (by.Hash linear expr) is = refl
    one (by.Key linear numbers) is = refl

firsts_append : {A : Type 0} (check : A → Option Refusal) (xs ys : List A) → first_in check xs ≡ None → first_in check ys ≡ None → first_in check (xs ++ ys) ≡ None
firsts_append check [] ys first then = then
firsts_append check (x ∷ xs) ys first then = both_none (check x) (first_in check (xs ++ ys)) (none_first (check x) (first_in check xs) first) (firsts_append check xs ys (none_next (check x) (first_in check xs) first) then)

new_have : (a n : ℕ) → AllHave 0 (map numbered_part (range_with_len a n))
new_have a zero = tt
new_have a (suc n) = (refl, new_have (a + 1) n)

have_append : (n : ℕ) (xs ys : List PartDef) → AllHave n xs → AllHave n ys → AllHave n (xs ++ ys)
have_append n [] ys first then = then
have_append n (x ∷ xs) ys first then = (first.0, have_append n xs ys first.1 then)

whole_sub : (sub : PartBy) → is_whole sub ≡ true → sub ≡ by.Whole
whole_sub by.Whole is = refl
whole_sub (by.Range expr) is = cc
whole_sub (by.List expr) is = cc
whole_sub (by.RangeColumns numbers) is = cc
whole_sub (by.ListColumns numbers) is = cc
whole_sub (by.Hash linear expr) is = cc
whole_sub (by.Key linear numbers) is = cc

old_have : (main sub : PartBy) (parts : List PartDef) → sub ≡ by.Whole → All (IsStorablePartDef main sub) parts → AllHave 0 parts
old_have main sub [] is all = tt
old_have main sub (part ∷ parts) is all = (
  ap (λ (subs : List (List ℕ)). length subs) (subst (λ (own : PartBy). AreSubsOf own part.subs) is (All-head (IsStorablePartDef main sub) part parts all).subs),
  old_have main sub parts is (All-tail (IsStorablePartDef main sub) part parts all),
)

module _ (def : TableDef) (valid : IsValid def) (storable : IsStorableDef def) (table : List ℕ) (more : ℕ) (none : bad_more table more def ≡ None) where
  abbrev later : List PartDef
  later = parts_more more def.parts

  counted : bad_count table more def ≡ None
  counted = none_first (bad_count table more def) (first_of (in_turn name_twice (part_names later) ∷ [])) none

  once : in_turn name_twice (part_names later) ≡ None
  once = none_first (in_turn name_twice (part_names later)) None (none_next (bad_count table more def) (first_of (in_turn name_twice (part_names later) ∷ [])) counted_and)
    where
      counted_and : option_or (bad_count table more def) (first_of (in_turn name_twice (part_names later) ∷ [])) ≡ None
      counted_and = none

  numbered_by : is_by_number def.by ≡ true
  numbered_by =
      let behind = none_next (not_partitioned table def.by) _ counted in
      by_number table def.by (none_first (not_partitioned table def.by) _ counted) (none_first (by_ranges_or_lists table def.by) _ behind)

  long : length later ≡ length def.parts + more
  long = length-append def.parts (map numbered_part (range_with_len (length def.parts) more)) ∙ ap (λ n. length def.parts + n) (length-map-range_with_len numbered_part (length def.parts) more)

  few : length def.parts + more ≤ 8192
  few =
      let behind = none_next (not_partitioned table def.by) _ counted in
      let number = none_next (by_ranges_or_lists table def.by) _ behind in
      let last = none_next (refused_if (more == 0) (refusal.NoPartitions table)) _ number in
      few_told (length def.parts + more) (passes (nat_lt 8192 (told (length def.parts + more))) (refusal.TooManyPartitions (told (length def.parts + more))) (none_first (too_many (length def.parts + more)) None last))

  some : 0 < more
  some =
      let behind = none_next (not_partitioned table def.by) _ counted in
      let number = none_next (by_ranges_or_lists table def.by) _ behind in
      not_zero more (passes (more == 0) (refusal.NoPartitions table) (none_first (refused_if (more == 0) (refusal.NoPartitions table)) _ number))

  whole : def.sub ≡ by.Whole
  whole =
      let kinds = (three_none (bad_items def) (bad_kinds valid.0 def) (bad_parts valid.0 def) valid.1).1 in
      let alone : (is_by_number def.by && not (is_whole def.sub)) ≡ false = passes (is_by_number def.by && not (is_whole def.sub)) (refusal.OnlyRangeList valid.0) (none_first (sub_of_number valid.0 def.by def.sub) _ kinds) in
      whole_sub def.sub (not-false (is_whole def.sub) (subst (λ b. (b && not (is_whole def.sub)) ≡ false) numbered_by alone))

  have : AllHave 0 later
  have = have_append 0 def.parts (map numbered_part (range_with_len (length def.parts) more)) (old_have def.by def.sub def.parts whole storable.parts) (new_have (length def.parts) more)

  with_some : is_without_parts def.by def.sub later ≡ false
  with_some =
      or_from (not (is_whole def.by) && length later == 0) (not (is_whole def.sub) && first_subs later == 0)
      (and_right (not (is_whole def.by)) (length later == 0) (zero_not (length later) (omega (arith, long, some))))
      (ap (λ (sub : PartBy). not (is_whole sub) && first_subs later == 0) whole)

  leaves : nat_lt 8192 (told (leaf_count def.sub later)) ≡ false
  leaves = told_few (leaf_count def.sub later) (subst (λ (sub : PartBy). length later * cond (is_whole sub) 1 (first_subs later) ≤ 8192) (sym whole) (omega (arith, long, few)))

  more_parts : bad_parts valid.0 (with_parts def later) ≡ None
  more_parts =
      let kinds = kinds_of def.columns def.by in
      let all = six_none (refused_if (is_without_parts def.by def.sub def.parts) (refusal.NoPartitions valid.0)) (too_many (leaf_count def.sub def.parts)) (first_in (other_subs def.parts) def.parts)
      (first_in (bad_values kinds def.by) def.parts) (bad_bounds def.by def.parts) (in_turn name_twice (part_names def.parts)) (three_none (bad_items def) (bad_kinds valid.0 def) (bad_parts valid.0 def) valid.1).2 in
      none_six (refused_if (is_without_parts def.by def.sub later) (refusal.NoPartitions valid.0)) (too_many (leaf_count def.sub later)) (first_in (other_subs later) later)
      (first_in (bad_values kinds def.by) later) (bad_bounds def.by later) (in_turn name_twice (part_names later))
      (not_refused (is_without_parts def.by def.sub later) (refusal.NoPartitions valid.0) with_some)
      (not_refused (nat_lt 8192 (told (leaf_count def.sub later))) (refusal.TooManyPartitions (told (leaf_count def.sub later))) leaves)
      (no_others 0 later have)
      (firsts_append (bad_values kinds def.by) def.parts (map numbered_part (range_with_len (length def.parts) more)) all.3 (new_values def.columns def.by (length def.parts) more numbered_by))
      (no_bounds def.by later numbered_by)
      once

  pub more_valid : IsValid (with_parts def later)
  more_valid =
      let all = three_none (bad_items def) (bad_kinds valid.0 def) (bad_parts valid.0 def) valid.1 in
      (valid.0, none_three (bad_items def) (bad_kinds valid.0 def) (bad_parts valid.0 (with_parts def later)) all.0 all.1 more_parts)

  new_storable : (kind : PartBy) → is_by_number kind ≡ true → (a n : ℕ) → All (IsStorablePartDef kind by.Whole) (map numbered_part (range_with_len a n))
  new_storable kind is a zero = All-nil (IsStorablePartDef kind by.Whole)
  new_storable kind is a (suc n) = All-cons (IsStorablePartDef kind by.Whole) (numbered_part a) (map numbered_part (range_with_len (a + 1) n)) (record { bounds = none_of kind is; subs = refl }) (new_storable kind is (a + 1) n)
    where
      none_of : (own : PartBy) → is_by_number own ≡ true → AreBoundsOf own []
      none_of by.Whole is = cc
      none_of (by.Range expr) is = cc
      none_of (by.List expr) is = cc
      none_of (by.RangeColumns numbers) is = cc
      none_of (by.ListColumns numbers) is = cc
      none_of (by.Hash linear expr) is = refl
      none_of (by.Key linear numbers) is = refl

  alone : (kind : PartBy) → is_by_number kind ≡ true → IsWholeAlone kind def.sub later
  alone by.Whole is = cc
  alone (by.Range expr) is = tt
  alone (by.List expr) is = tt
  alone (by.RangeColumns numbers) is = tt
  alone (by.ListColumns numbers) is = tt
  alone (by.Hash linear expr) is = tt
  alone (by.Key linear numbers) is = tt

  pub more_storable : IsStorableDef (with_parts def later)
  more_storable = record {
    some = storable.some;
    most = storable.most;
    columns = storable.columns;
    few = storable.few;
    keys = storable.keys;
    by = storable.by;
    sub = storable.sub;
    alone = alone def.by numbered_by;
    counted = omega (arith, long, few);
    parts = All-append (IsStorablePartDef def.by def.sub) def.parts (map numbered_part (range_with_len (length def.parts) more)) storable.parts
        (subst (λ (sub : PartBy). All (IsStorablePartDef def.by sub) (map numbered_part (range_with_len (length def.parts) more))) (sym whole) (new_storable def.by numbered_by (length def.parts) more));
  }

-- ---- what the code asks

or_nil : (o : Option Refusal) → option_or o None ≡ o
or_nil None = refl
or_nil (Some x) = refl

pub numbered_same : (def : TableDef) (table : List ℕ) (more : ℕ) → IsValid def → bad_count table more def ≡ None → with_numbered_of more def ≡ with_more_of table more def
numbered_same def table more valid none =
    let new = in_turn_from name_twice (part_names def.parts) (map number_name (range_with_len (length def.parts) more)) in
    let parts = six_none (refused_if (is_without_parts def.by def.sub def.parts) (refusal.NoPartitions valid.0)) (too_many (leaf_count def.sub def.parts)) (first_in (other_subs def.parts) def.parts)
    (first_in (bad_values (kinds_of def.columns def.by) def.by) def.parts) (bad_bounds def.by def.parts) (in_turn name_twice (part_names def.parts))
    (three_none (bad_items def) (bad_kinds valid.0 def) (bad_parts valid.0 def) valid.1).2 in
    let asked : bad_more table more def ≡ new =
    ap (λ (o : Option Refusal). option_or o (option_or (in_turn name_twice (part_names (parts_more more def.parts))) None)) none ∙ or_nil (in_turn name_twice (part_names (parts_more more def.parts))) ∙ names_more more def.parts parts.5 in
    ap (λ (o : Option Refusal). refused_or o (with_parts def (parts_more more def.parts))) (sym asked)
