-- What a level's parts rest on, and what placing takes of a valid definition.
use Rattle.std.proofs.Common.{◌≡◌, ℕ, zero, suc, ◌<◌, arith, Bool, true, false, cond, not, ◌&&◌, ◌||◌, List, [], ◌∷◌, length, All, Option, Some, None, Result, Ok, Err, IsOk, refl, sym, ap, subst, ◌∙◌, nat_eq, slice_index_or}
use Rattle.std.specs.Prelude.{filter, replicate, if◌then◌else◌}
use Rattle.std.specs.List.{cons_option, filter_map, list_all}
use Rattle.std.proofs.lemmas.Bool.{and_from, and_parts, eqb-true, eq-eqb, true≢false}
use Rattle.std.proofs.lemmas.List.Elements.{All-head}
use Rattle.std.proofs.lemmas.List.Quantifiers.{position-Some}
use Rattle.pt_value.specs.declared.value.Value.{Value}
use Rattle.pt_value.specs.declared.value.Value.TheVariants.{Null}
use Rattle.pt_ast.specs.declared.table.Column.{Column}
use Rattle.pt_ast.specs.declared.table.PartBy.{PartBy}
use Rattle.pt_ast.specs.declared.table.PartBy.TheVariants as by
use Rattle.pt_ast.specs.declared.table.PartDef.{PartDef}
use Rattle.pt_ast.specs.declared.table.TableDef.{TableDef}
use Rattle.pt_ast.specs.declared.tree.Cond.{Cond}
use Rattle.pt_ast.specs.StorableDef.{IsStorableBy, IsStorableDef, IsSub, IsWholeAlone}
use Rattle.pt_ast.specs.declared.database.Spot.{Spot}
use Rattle.pt_db.specs.Spots.{IsSpotOf, part_count, spots_of, sub_count}
use Rattle.pt_expr.specs.Columns.{is_named}
use Rattle.pt_expr.specs.declared.kind.ExprKind.{ExprKind}
use Rattle.pt_expr.specs.declared.kind.CheckFault.{CheckFault}
use Rattle.pt_place.specs.Checks.{is_whole, of_finding}
use Rattle.pt_place.specs.Names.{column_of, columns_in, names_in}
use Rattle.pt_place.specs.Place.{is_in_set, numbered, part_of, subs_at}
use Rattle.pt_place.specs.Placing.{CanFindBy}
use Rattle.pt_place.specs.Valid.{IsValid, bad_by, first_subs}
use Rattle.pt_place.proofs.Looks.{numbered_same, part_same}
use Rattle.pt_place.proofs.Passing.{can_find, passed}
use Rattle.pt_reach.specs.Kept.{AreKept, IsKept, IsKeptOf, IsKeptPart, IsReached, alone, cell_at, first, follows_all, level_column, sole, sub_in}
use Rattle.pt_followed.specs.Marks.{AreMarked}
use Rattle.pt_prune.specs.Marks.{keeps, placed}
use Rattle.pt_prune.specs.Placing.{CanPlace}
use Rattle.pt_prune.proofs.HowMany.{subs_alike}
use Rattle.pt_prune.proofs.Leaving.{all_marked}

-- ---- the part rests on the one column

some_same : (a b : ℕ) → Some a ≡ Some b → a ≡ b
some_same a b e = cc

sole_uses : (ns : List ℕ) (c : ℕ) → sole ns ≡ Some c → list_all (λ n. nat_eq n c) ns ≡ true
sole_uses [] c e = cc
sole_uses (n ∷ ns) c e = by (list_all (λ other. nat_eq other n) ns) refl e
  where
    by : (b : Bool) → list_all (λ other. nat_eq other n) ns ≡ b → (if b then Some n else None) ≡ Some c → (nat_eq n c && list_all (λ other. nat_eq other c) ns) ≡ true
    by true all e =
        let is : n ≡ c = some_same n c e in
        and_from (nat_eq n c) (list_all (λ other. nat_eq other c) ns) (eq-eqb n c is) (subst (λ k. list_all (λ other. nat_eq other k) ns ≡ true) is all)
    by false all e = cc

alone_uses : (ns : List ℕ) (c : ℕ) → alone ns ≡ Some c → list_all (λ n. nat_eq n c) ns ≡ true
alone_uses [] c e = cc
alone_uses (n ∷ []) c e = and_from (nat_eq n c) true (eq-eqb n c (some_same n c e)) refl
alone_uses (n ∷ m ∷ ns) c e = cc

module _ (columns : List Column) (parts : List PartDef) (count c : ℕ) (a b : List Value) (same : cell_at a c ≡ cell_at b c) where
  has : ℕ → Bool
  has n = nat_eq n c

  at_one : (n : ℕ) → nat_eq n c ≡ true → slice_index_or a n Null ≡ slice_index_or b n Null
  at_one n e = subst (λ k. slice_index_or a k Null ≡ slice_index_or b k Null) (sym (eqb-true n c e)) same

  pub placed_same : (kind : PartBy) → level_column columns kind ≡ Some c → placed columns kind parts count a ≡ placed columns kind parts count b
  placed_same by.Whole e = refl
  placed_same (by.Range expr) e = part_same columns a b (λ n. nat_eq n c) at_one (by.Range expr) parts (sole_uses (columns_in columns expr) c e)
  placed_same (by.List expr) e = part_same columns a b (λ n. nat_eq n c) at_one (by.List expr) parts (sole_uses (columns_in columns expr) c e)
  placed_same (by.RangeColumns numbers) e = refl
  placed_same (by.ListColumns numbers) e = refl
  placed_same (by.Hash linear expr) e = ap Some (numbered_same columns a b (λ n. nat_eq n c) at_one (by.Hash linear expr) count (sole_uses (columns_in columns expr) c e))
  placed_same (by.Key linear numbers) e = ap Some (numbered_same columns a b (λ n. nat_eq n c) at_one (by.Key linear numbers) count (alone_uses numbers c e))

-- ---- the column is one of the table's

named_below : (columns : List Column) (name : List ℕ) (n : ℕ) → column_of columns name ≡ Some n → n < length columns
named_below [] name n e = cc
named_below (column ∷ columns) name n e = (position-Some (is_named name) (column ∷ columns) n column e).0

first_below : (columns : List Column) (names : List (List ℕ)) (c : ℕ) → first (filter_map (column_of columns) names) ≡ Some c → c < length columns
first_below columns [] c e = cc
first_below columns (name ∷ names) c e = by (column_of columns name) refl (first_below columns names c) e
  where
    by : (o : Option ℕ) → column_of columns name ≡ o → (first (filter_map (column_of columns) names) ≡ Some c → c < length columns)
        → first (cons_option o (filter_map (column_of columns) names)) ≡ Some c → c < length columns
    by None is rest e = rest e
    by (Some n) is rest e = named_below columns name c (is ∙ e)

sole_first : (ns : List ℕ) (c : ℕ) → sole ns ≡ Some c → first ns ≡ Some c
sole_first [] c e = e
sole_first (n ∷ ns) c e = by (list_all (λ other. nat_eq other n) ns) e
  where
    by : (b : Bool) → (if b then Some n else None) ≡ Some c → Some n ≡ Some c
    by true e = e
    by false e = cc

first_within : (top : ℕ) (ns : List ℕ) (c : ℕ) → All (λ n. n < top) ns → first ns ≡ Some c → c < top
first_within top [] c all e = cc
first_within top (n ∷ ns) c all e = subst (λ k. k < top) (some_same n c e) (All-head (λ k. k < top) n ns all)

alone_first : (ns : List ℕ) (c : ℕ) → alone ns ≡ Some c → first ns ≡ Some c
alone_first [] c e = cc
alone_first (n ∷ []) c e = e
alone_first (n ∷ m ∷ ns) c e = cc

pub column_below : (columns : List Column) (kind : PartBy) (c : ℕ) → IsStorableBy columns kind → level_column columns kind ≡ Some c → c < length columns
column_below columns by.Whole c storable e = cc
column_below columns (by.Range expr) c storable e = first_below columns (names_in expr) c (sole_first (columns_in columns expr) c e)
column_below columns (by.List expr) c storable e = first_below columns (names_in expr) c (sole_first (columns_in columns expr) c e)
column_below columns (by.RangeColumns numbers) c storable e = first_within (length columns) numbers c storable.1.1 e
column_below columns (by.ListColumns numbers) c storable e = first_within (length columns) numbers c storable.1.1 e
column_below columns (by.Hash linear expr) c storable e = first_below columns (names_in expr) c (sole_first (columns_in columns expr) c e)
column_below columns (by.Key linear numbers) c storable e = first_within (length columns) numbers c storable.1 (alone_first numbers c e)

-- ---- the two levels as the code places in them

pub part_placed : (columns : List Column) (parts : List PartDef) (P : (List Value → Option ℕ) → Type 0) (kind : PartBy) → follows_all kind ≡ false
    → P (placed columns kind parts (length parts)) → P (part_of columns kind parts)
part_placed columns parts P by.Whole other h = h
part_placed columns parts P (by.Range expr) other h = h
part_placed columns parts P (by.List expr) other h = h
part_placed columns parts P (by.RangeColumns numbers) other h = absurd (true≢false other)
part_placed columns parts P (by.ListColumns numbers) other h = absurd (true≢false other)
part_placed columns parts P (by.Hash linear expr) other h = h
part_placed columns parts P (by.Key linear numbers) other h = h

pub sub_placed : (columns : List Column) (parts : List PartDef) (count : ℕ) (P : (List Value → Option ℕ) → Type 0) (kind : PartBy) → IsSub kind
    → P (placed columns kind parts count) → P (λ cells. Some (numbered columns kind count cells))
sub_placed columns parts count P by.Whole sub h = h
sub_placed columns parts count P (by.Range expr) sub h = absurd sub
sub_placed columns parts count P (by.List expr) sub h = absurd sub
sub_placed columns parts count P (by.RangeColumns numbers) sub h = absurd sub
sub_placed columns parts count P (by.ListColumns numbers) sub h = absurd sub
sub_placed columns parts count P (by.Hash linear expr) sub h = h
sub_placed columns parts count P (by.Key linear numbers) sub h = h

pub sub_unfollowed : (kind : PartBy) → IsSub kind → follows_all kind ≡ false
sub_unfollowed by.Whole sub = refl
sub_unfollowed (by.Range expr) sub = absurd sub
sub_unfollowed (by.List expr) sub = absurd sub
sub_unfollowed (by.RangeColumns numbers) sub = absurd sub
sub_unfollowed (by.ListColumns numbers) sub = absurd sub
sub_unfollowed (by.Hash linear expr) sub = refl
sub_unfollowed (by.Key linear numbers) sub = refl

pub column_parts : (columns : List Column) (kind : PartBy) (c : ℕ) → level_column columns kind ≡ Some c → is_whole kind ≡ false
column_parts columns by.Whole c e = cc
column_parts columns (by.Range expr) c e = refl
column_parts columns (by.List expr) c e = refl
column_parts columns (by.RangeColumns numbers) c e = refl
column_parts columns (by.ListColumns numbers) c e = refl
column_parts columns (by.Hash linear expr) c e = refl
column_parts columns (by.Key linear numbers) c e = refl

-- ---- what is kept without a column, and of a level that isn't followed

none_of : (columns : List Column) (cond : Option Cond) (all : Bool) (placed : List Value → Option ℕ) (i : ℕ) → IsKeptOf columns cond all None placed i
none_of columns cond true placed i = tt
none_of columns cond false placed i = tt

pub columnless : (columns : List Column) (cond : Option Cond) (kind : PartBy) (placed : List Value → Option ℕ) (i : ℕ) → None ≡ level_column columns kind → IsKeptPart columns cond kind placed i
columnless columns cond kind placed i e = subst (λ o. IsKeptOf columns cond (follows_all kind) o placed i) e (none_of columns cond (follows_all kind) placed i)

pub with_column : (columns : List Column) (cond : Option Cond) (kind : PartBy) (placed : List Value → Option ℕ) (total c : ℕ) (b : Bool) (marks : List Bool) → level_column columns kind ≡ Some c → follows_all kind ≡ b
    → AreMarked total (IsKeptOf columns cond b (Some c) placed) marks → AreMarked total (IsKeptPart columns cond kind placed) marks
with_column columns cond kind placed total c b marks is follows h =
    subst (λ o. AreMarked total (IsKeptOf columns cond (follows_all kind) o placed) marks) (sym is)
    (subst (λ t. AreMarked total (IsKeptOf columns cond t (Some c) placed) marks) (sym follows) h)

-- ---- what placing takes

sound : (table : List ℕ) (names : Bool) (r : Result ExprKind CheckFault) → of_finding table names r ≡ None → IsOk r
sound table names (Ok kind) e = refl
sound table names (Err fault) e = cc

can_place_by : (def : TableDef) (kind : PartBy) → CanFindBy def kind → CanPlace def.columns kind def.parts (length def.parts)
can_place_by def by.Whole can = tt
can_place_by def (by.Range expr) can = can
can_place_by def (by.List expr) can = can
can_place_by def (by.RangeColumns numbers) can = tt
can_place_by def (by.ListColumns numbers) can = tt
can_place_by def (by.Hash linear expr) can = (can.0, can.1.0)
can_place_by def (by.Key linear numbers) can = can.0

pub can_part : (def : TableDef) → IsValid def → CanPlace def.columns def.by def.parts (length def.parts)
can_part def valid = can_place_by def def.by (can_find def valid).by

or_true : (a : Bool) → (a || true) ≡ false → ⊥
or_true true e = true≢false e
or_true false e = true≢false e

some_first : (a sub : Bool) (subs : ℕ) → (a || not sub && nat_eq subs 0) ≡ false → sub ≡ false → 0 < subs
some_first a true subs e whole = absurd (true≢false whole)
some_first a false (suc subs) e whole = omega arith
some_first a false zero e whole = absurd (or_true a e)

can_sub_by : (table : List ℕ) (columns : List Column) (parts : List PartDef) (count : ℕ) (kind : PartBy) → IsSub kind → bad_by table columns kind ≡ None → (is_whole kind ≡ false → 0 < count) → CanPlace columns kind parts count
can_sub_by table columns parts count by.Whole sub e some = tt
can_sub_by table columns parts count (by.Range expr) sub e some = absurd sub
can_sub_by table columns parts count (by.List expr) sub e some = absurd sub
can_sub_by table columns parts count (by.RangeColumns numbers) sub e some = absurd sub
can_sub_by table columns parts count (by.ListColumns numbers) sub e some = absurd sub
can_sub_by table columns parts count (by.Hash linear expr) sub e some = (sound _ _ _ e, some refl)
can_sub_by table columns parts count (by.Key linear numbers) sub e some = some refl

filled : (parts : List PartDef) → 0 < first_subs parts → 0 < length parts
filled [] some = absurd (omega (arith, some))
filled (part ∷ parts) some = omega arith

pub can_sub : (def : TableDef) → IsStorableDef def → IsValid def → CanPlace def.columns def.sub def.parts (sub_count def 0)
can_sub def storable valid =
    let p = passed def valid in
    can_sub_by valid.0 def.columns def.parts (sub_count def 0) def.sub storable.sub.1 p.sub (λ whole.
    (let subs = some_first (not (is_whole def.by) && nat_eq (length def.parts) 0) (is_whole def.sub) (first_subs def.parts) p.some whole in
    let own = subs_alike def valid 0 (filled def.parts subs) in
    let count : sub_count def 0 ≡ length (subs_at def.parts 0) = ap (λ (b : Bool). if b then 1 else length (subs_at def.parts 0)) whole in
    omega (arith, subs, own, count)))

-- ---- each partition has as many subpartitions as the first

whole_alone : (main sub : PartBy) (parts : List PartDef) → is_whole main ≡ true → IsWholeAlone main sub parts → sub ≡ by.Whole
whole_alone by.Whole sub parts e h = h.0
whole_alone (by.Range expr) sub parts e h = cc
whole_alone (by.List expr) sub parts e h = cc
whole_alone (by.RangeColumns numbers) sub parts e h = cc
whole_alone (by.ListColumns numbers) sub parts e h = cc
whole_alone (by.Hash linear expr) sub parts e h = cc
whole_alone (by.Key linear numbers) sub parts e h = cc

pub part_within : (def : TableDef) (part : ℕ) → IsStorableDef def → is_whole def.sub ≡ false → part < part_count def → part < length def.parts
part_within def part storable own below = by (is_whole def.by) refl below
  where
    by : (b : Bool) → is_whole def.by ≡ b → part < (if b then 1 else length def.parts) → part < length def.parts
    by true e below = absurd (true≢false (sym (ap is_whole (whole_alone def.by def.sub def.parts e storable.alone)) ∙ own))
    by false e below = below

pub counts_alike : (def : TableDef) (part : ℕ) → IsStorableDef def → IsValid def → part < part_count def → sub_count def 0 ≡ sub_count def part
counts_alike def part storable valid below = by (is_whole def.sub) refl
  where
    by : (b : Bool) → is_whole def.sub ≡ b → (if b then 1 else length (subs_at def.parts 0)) ≡ (if b then 1 else length (subs_at def.parts part))
    by true e = refl
    by false e =
        let within = part_within def part storable e below in
        subs_alike def valid 0 (omega (arith, within)) ∙ sym (subs_alike def valid part within)

-- ---- the marks of the levels

pub parts_count : (def : TableDef) (c : ℕ) → level_column def.columns def.by ≡ Some c → part_count def ≡ length def.parts
parts_count def c is = ap (λ (b : Bool). if b then 1 else length def.parts) (column_parts def.columns def.by c is)

module _ (def : TableDef) (cond : Option Cond) (marks : List Bool) where
  abbrev KeptPart : (List Value → Option ℕ) → ℕ → Type 0
  KeptPart at = IsKeptPart def.columns cond def.by at

  abbrev KeptSub : (List Value → Option ℕ) → ℕ → Type 0
  KeptSub at = IsKeptPart def.columns cond def.sub at

  pub part_none : (count : ℕ) → count ≡ part_count def → None ≡ level_column def.columns def.by → marks ≡ replicate count true
      → AreMarked (part_count def) (KeptPart (part_of def.columns def.by def.parts)) marks
  part_none count own none is =
      all_marked (part_count def) (KeptPart (part_of def.columns def.by def.parts)) marks (is ∙ ap (λ n. replicate n true) own)
      (λ i below. columnless def.columns cond def.by (part_of def.columns def.by def.parts) i none)

  pub part_followed : (c : ℕ) → level_column def.columns def.by ≡ Some c → follows_all def.by ≡ true → AreMarked (length def.parts) (IsReached def.columns c cond (part_of def.columns def.by def.parts)) marks
      → AreMarked (part_count def) (KeptPart (part_of def.columns def.by def.parts)) marks
  part_followed c is follows h =
      subst (λ n. AreMarked n (KeptPart (part_of def.columns def.by def.parts)) marks) (sym (parts_count def c is))
      (with_column def.columns cond def.by (part_of def.columns def.by def.parts) (length def.parts) c true marks is follows h)

  pub part_other : (c count : ℕ) → level_column def.columns def.by ≡ Some c → follows_all def.by ≡ false → count ≡ part_count def
      → AreMarked count (KeptPart (placed def.columns def.by def.parts count)) marks → AreMarked (part_count def) (KeptPart (part_of def.columns def.by def.parts)) marks
  part_other c count is other own h =
      part_placed def.columns def.parts (λ p. AreMarked (part_count def) (KeptPart p) marks) def.by other
      (subst (λ n. AreMarked n (KeptPart (placed def.columns def.by def.parts (length def.parts))) marks) (sym (parts_count def c is))
      (subst (λ n. AreMarked n (KeptPart (placed def.columns def.by def.parts n)) marks) (own ∙ parts_count def c is) h))

  pub sub_none : (count part : ℕ) → IsStorableDef def → IsValid def → part < part_count def → count ≡ sub_count def 0 → None ≡ level_column def.columns def.sub → marks ≡ replicate count true
      → AreMarked (sub_count def part) (KeptSub (sub_in def part)) marks
  sub_none count part storable valid below own none is =
      all_marked (sub_count def part) (KeptSub (sub_in def part)) marks (is ∙ ap (λ n. replicate n true) (own ∙ counts_alike def part storable valid below))
      (λ i within. columnless def.columns cond def.sub (sub_in def part) i none)

  pub sub_other : (c count part : ℕ) → IsStorableDef def → IsValid def → part < part_count def → level_column def.columns def.sub ≡ Some c → count ≡ sub_count def 0
      → AreMarked count (KeptSub (placed def.columns def.sub def.parts count)) marks → AreMarked (sub_count def part) (KeptSub (sub_in def part)) marks
  sub_other c count part storable valid below is own h =
      let some = length (subs_at def.parts part) in
      let here : sub_count def part ≡ some = ap (λ (b : Bool). if b then 1 else some) (column_parts def.columns def.sub c is) in
      subst (λ n. AreMarked n (KeptSub (sub_in def part)) marks) (sym here)
      (sub_placed def.columns def.parts some (λ p. AreMarked some (KeptSub p) marks) def.sub storable.sub.1
      (subst (λ n. AreMarked n (KeptSub (placed def.columns def.sub def.parts n)) marks) (own ∙ counts_alike def part storable valid below ∙ here) h))

-- ---- both levels

pub kept_all : (def : TableDef) (names : List (List ℕ)) (cond : Option Cond) (parts subs : List Bool) (spots : List Spot)
    → AreMarked (part_count def) (IsKeptPart def.columns cond def.by (part_of def.columns def.by def.parts)) parts
    → ((part : ℕ) → part < part_count def → AreMarked (sub_count def part) (IsKeptPart def.columns cond def.sub (sub_in def part)) subs)
    → spots ≡ filter (keeps def names parts subs) (spots_of def) → AreKept def names cond spots
kept_all def names cond parts subs spots first second is = (keeps def names parts subs, λ spot own. (to spot own, back spot own), is)
  where
    to : (spot : Spot) → IsSpotOf def spot → keeps def names parts subs spot ≡ true → IsKept def names cond spot
    to spot own e =
        let both = and_parts (slice_index_or parts spot.part false && slice_index_or subs spot.sub false) (is_in_set def names spot) e in
        let marks = and_parts (slice_index_or parts spot.part false) (slice_index_or subs spot.sub false) both.0 in
        record {
          part = (first.each spot.part own.part).0 marks.0;
          sub = ((second spot.part own.part).each spot.sub own.sub).0 marks.1;
          named = both.1;
        }

    back : (spot : Spot) → IsSpotOf def spot → IsKept def names cond spot → keeps def names parts subs spot ≡ true
    back spot own k =
        and_from (slice_index_or parts spot.part false && slice_index_or subs spot.sub false) (is_in_set def names spot)
        (and_from (slice_index_or parts spot.part false) (slice_index_or subs spot.sub false) ((first.each spot.part own.part).1 k.part) (((second spot.part own.part).each spot.sub own.sub).1 k.sub)) k.named
