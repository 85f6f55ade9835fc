-- Partitionings and partitions: what is written is read, and what is read was written.
use Rattle.std.proofs.Common.{◌≡◌, ℕ, ◌<◌, ◌≤◌, ◌^◌, Bool, true, false, cond, ◌==◌, ◌&&◌, List, [], ◌∷◌, ◌++◌, length, refl, sym, ap, ◌∙◌, subst, arith, All}
use Rattle.std.specs.Prelude.{Ok, Err}
use Rattle.std.specs.List.{flat_map, AllByRecursion}
use Rattle.std.proofs.lemmas.Bool.{true≢false}
use Rattle.std.proofs.lemmas.List.Elements.{All-from_recursion, recursion_from_All}
use Rattle.pt_value.specs.Ident.{IsIdent}
use Rattle.pt_value.specs.declared.value.Value.{Value}
use Rattle.pt_value.specs.declared.value.Value.TheVariants as value
use Rattle.pt_bytes.specs.Numbers.{AreBytes}
use Rattle.pt_ast.specs.declared.table.Column.{Column}
use Rattle.pt_ast.specs.declared.table.KeyDef.{KeyDef}
use Rattle.pt_ast.specs.declared.table.PartBy.{PartBy}
use Rattle.pt_ast.specs.declared.table.PartBy.TheVariants as by
use Rattle.pt_ast.specs.declared.table.Bound.{Bound}
use Rattle.pt_ast.specs.declared.table.Bound.TheVariants as bound
use Rattle.pt_ast.specs.declared.table.PartDef.{PartDef}
use Rattle.pt_ast.specs.Storable.{HasAtLeast}
use Rattle.pt_ast.specs.StorableDef.{ArePositions, AreSomePositions, IsShortBound, IsStorableKey, IsStorableTuple}
use Rattle.pt_defs.specs.Spelling.{bound_text, bounds_text, by_text, cell_text, expr_text, key_text, list_text, name_text, part_text, positions_text, subs_text, tuple_text}
use Rattle.pt_defs.specs.Reading.{Read, Reader, bound_at, bounds_at, by_at, by_behind, byte_at, cell_at, cell_behind, expr_at, key_at, list_at, made, many, name_at, part_def_at, positions_at, subs_at, tuple_at}
use Rattle.pt_defs.specs.Fitting.{FitsBound}
use Rattle.pt_defs.proofs.Steps.{Codec, Was, AreBytes-behind, either, first, from_bind, from_made, in_row, last, one_ok, same_pair}
use Rattle.pt_defs.proofs.Items.{AreCounted, AreSoMany, byte_sound, name, so_many}
use Rattle.pt_defs.proofs.Columns.{ArePlaces, IsKey, behind_sound, cell, is_key, list, positions}
use Rattle.pt_defs.proofs.Exprs.{Good, expr}

-- the same condition in other words
pub restated : {A : Type 0} {reader : Reader A} {text : A → List ℕ} (P Q : A → Type 0) → ((x : A) → Q x → P x) → ((x : A) → P x → Q x) → Codec reader text P → Codec reader text Q
restated P Q back on codec = record {
  complete = λ x rest is. codec.complete x rest (back x is);
  sound = λ bytes x rest are e. let was = codec.sound bytes x rest are e in record { is = on x was.is; text_is = was.text_is; are = was.are };
}

-- two facts of each
pub split_all : {A : Type 0} (P Q : A → Type 0) (xs : List A) → AllByRecursion (λ x. P x × Q x) xs → All P xs × All Q xs
split_all {A} P Q xs all = (All-from_recursion P xs (left xs all), All-from_recursion Q xs (right xs all))
  where
    left : (ys : List A) → AllByRecursion (λ x. P x × Q x) ys → AllByRecursion P ys
    left [] h = tt
    left (y ∷ ys) h = (h.0.0, left ys h.1)

    right : (ys : List A) → AllByRecursion (λ x. P x × Q x) ys → AllByRecursion Q ys
    right [] h = tt
    right (y ∷ ys) h = (h.0.1, right ys h.1)

pub join_all : {A : Type 0} (P Q : A → Type 0) (xs : List A) → All P xs → All Q xs → AllByRecursion (λ x. P x × Q x) xs
join_all {A} P Q xs a b = both xs (recursion_from_All P xs a) (recursion_from_All Q xs b)
  where
    both : (ys : List A) → AllByRecursion P ys → AllByRecursion Q ys → AllByRecursion (λ x. P x × Q x) ys
    both [] h k = tt
    both (y ∷ ys) h k = ((h.0, k.0), both ys h.1 k.1)

-- one of two ways, by a number, where the first is open
either_main : {X R : Type 0} (main : Bool) (n k : ℕ) (x y z : X) → cond (main && (n == k)) x y ≡ z → (main ≡ true → n ≡ k → x ≡ z → R) → (y ≡ z → R) → R
either_main {X} {R} true n k x y z e f g = either n k x y z e (λ h same. f refl h same) g
either_main {X} {R} false n k x y z e f g = g e

-- ---- bounds

abbrev pub IsBound : Bound → Type 0
IsBound b = IsShortBound b × FitsBound b

as_cell : (c : Value) (rest : List ℕ) → bound_at (cell_text c ++ rest) ≡ made bound.Val (cell_at (cell_text c ++ rest))
unfolding bound_at cell_text cell_at byte_at
as_cell value.Null rest = refl
as_cell (value.Int n) rest = refl
as_cell (value.Day n) rest = refl
as_cell (value.Bytes bytes) rest = refl

bound_complete : (b : Bound) (rest : List ℕ) → IsBound b → bound_at (bound_text b ++ rest) ≡ Ok (b, rest)
unfolding bound_at bound_text byte_at
bound_complete bound.Max rest is = refl
bound_complete (bound.Val c) rest is = as_cell c rest ∙ ap (made bound.Val) (cell.complete c rest (record { short = is.0; fits = is.1 }))

bound_sound : (bytes : List ℕ) (b : Bound) (rest : List ℕ) → AreBytes bytes → bound_at bytes ≡ Ok (b, rest) → Was IsBound bound_text bytes b rest
unfolding bound_at bound_text
bound_sound bytes b rest are e =
    let f = from_bind (λ (kind : ℕ × List ℕ). cond (kind.0 == 255) (Ok (bound.Max, kind.1)) (made bound.Val (cell_behind bytes kind.0 kind.1))) (byte_at bytes) (b, rest) e in
    let at : bytes ≡ f.0.0 ∷ f.0.1 = byte_sound bytes f.0.0 f.0.1 f.1 in
    let own : AreBytes f.0.1 = AreBytes-behind bytes (f.0.0 ∷ []) f.0.1 are at in
    subst (λ (x : List ℕ). Was IsBound bound_text x b rest) (sym at)
    (either f.0.0 255 _ _ _ f.2
    (λ h s.
    let p : Bound × List ℕ = (bound.Max, f.0.1) in
    same_pair IsBound bound_text (f.0.0 ∷ f.0.1) p (b, rest) (one_ok p (b, rest) s) (record { is = (tt, tt); text_is = ap (λ n. n ∷ f.0.1) h; are = own }))
    (λ s.
    let g = from_made bound.Val (cell_behind bytes f.0.0 f.0.1) (b, rest) s in
    let was = behind_sound bytes f.0.0 f.0.1 g.0.0 g.0.1 own g.1 in
    same_pair IsBound bound_text (f.0.0 ∷ f.0.1) (bound.Val g.0.0, g.0.1) (b, rest) g.2 (record { is = (was.is.short, was.is.fits); text_is = was.text_is; are = was.are })))

pub is_bound : Codec bound_at bound_text IsBound
is_bound = record { complete = bound_complete; sound = bound_sound }

abbrev pub IsTuple : ℕ → List Bound → Type 0
IsTuple width tuple = IsStorableTuple width tuple × All FitsBound tuple

pub tuple : (width : ℕ) → Codec (tuple_at width) tuple_text (IsTuple width)
unfolding tuple_at
tuple width =
    restated (λ xs. AreSoMany bound_at bound_text IsBound is_bound width xs) (IsTuple width)
    (λ xs is. record { each = join_all IsShortBound FitsBound xs is.0.short is.1; number = is.0.items })
    (λ xs is. let both = split_all IsShortBound FitsBound xs is.each in (record { items = is.number; short = both.0 }, both.1))
    (so_many bound_at bound_text IsBound is_bound width)

-- as many tuples as a partition of this kind has
abbrev pub BoundsOf : PartBy → List (List Bound) → Type 0
BoundsOf by.Whole tuples = tuples ≡ []
BoundsOf (by.Range e) tuples = (length tuples ≡ 1) × AllByRecursion (IsTuple 1) tuples
BoundsOf (by.List e) tuples = HasAtLeast 1 tuples × AllByRecursion (IsTuple 1) tuples
BoundsOf (by.RangeColumns numbers) tuples = (length tuples ≡ 1) × AllByRecursion (IsTuple (length numbers)) tuples
BoundsOf (by.ListColumns numbers) tuples = HasAtLeast 1 tuples × AllByRecursion (IsTuple (length numbers)) tuples
BoundsOf (by.Hash linear e) tuples = tuples ≡ []
BoundsOf (by.Key linear numbers) tuples = tuples ≡ []

one_tuple : (width : ℕ) → Codec (many (tuple_at width) 1) (flat_map tuple_text) (λ tuples. (length tuples ≡ 1) × AllByRecursion (IsTuple width) tuples)
one_tuple width =
    restated (λ xs. AreSoMany (tuple_at width) tuple_text (IsTuple width) (tuple width) 1 xs) (λ tuples. (length tuples ≡ 1) × AllByRecursion (IsTuple width) tuples)
    (λ xs is. record { each = is.1; number = is.0 }) (λ xs is. (is.number, is.each)) (so_many (tuple_at width) tuple_text (IsTuple width) (tuple width) 1)

-- a list with a least number of items, as the storable ones are described
pub at_least : {A : Type 0} (least : ℕ) (reader : Reader A) (text : A → List ℕ) (P : A → Type 0) → Codec reader text P → Codec (list_at least reader) (list_text text) (λ xs. HasAtLeast least xs × AllByRecursion P xs)
at_least least reader text P codec =
    restated (λ xs. AreCounted reader text P codec least (2 ^ 32) xs) (λ xs. HasAtLeast least xs × AllByRecursion P xs)
    (λ xs is. let some = is.0 in record { each = is.1; count = (some.0, omega (arith, some.1), some.1) })
    (λ xs is. let some = is.count in ((some.0, some.2), is.each)) (list reader text P codec least)

-- nothing is read
nothing : {A : Type 0} → Codec (λ bytes. Ok ([], bytes)) (λ xs. []) (λ (xs : List A). xs ≡ [])
nothing {A} = record {
  complete = λ xs rest is. ap (λ (ys : List A). Ok (ys, rest)) (sym is);
  sound = λ bytes xs rest are e.
      let p : List A × List ℕ = ([], bytes) in
      same_pair (λ (ys : List A). ys ≡ []) (λ ys. []) bytes p (xs, rest) (one_ok p (xs, rest) e) (record { is = refl; text_is = refl; are = are });
}

pub bounds : (main : PartBy) → Codec (bounds_at main) (bounds_text main) (BoundsOf main)
unfolding bounds_at bounds_text
bounds by.Whole = record { complete = nothing.complete; sound = nothing.sound }
bounds (by.Range e) = record { complete = (one_tuple 1).complete; sound = (one_tuple 1).sound }
bounds (by.List e) = let c = at_least 1 (tuple_at 1) tuple_text (IsTuple 1) (tuple 1) in record { complete = c.complete; sound = c.sound }
bounds (by.RangeColumns numbers) = let c = one_tuple (length numbers) in record { complete = c.complete; sound = c.sound }
bounds (by.ListColumns numbers) = let c = at_least 1 (tuple_at (length numbers)) tuple_text (IsTuple (length numbers)) (tuple (length numbers)) in record { complete = c.complete; sound = c.sound }
bounds (by.Hash linear e) = record { complete = nothing.complete; sound = nothing.sound }
bounds (by.Key linear numbers) = record { complete = nothing.complete; sound = nothing.sound }

-- ---- names of subpartitions

abbrev pub SubsOf : PartBy → List (List ℕ) → Type 0
SubsOf by.Whole names = names ≡ []
SubsOf _ names = HasAtLeast 0 names × AllByRecursion IsIdent names

some_names : Codec (list_at 0 name_at) (list_text name_text) (λ names. HasAtLeast 0 names × AllByRecursion IsIdent names)
some_names = at_least 0 name_at name_text IsIdent name

pub subs : (sub : PartBy) → Codec (subs_at sub) (subs_text sub) (SubsOf sub)
unfolding subs_at subs_text
subs by.Whole = record { complete = nothing.complete; sound = nothing.sound }
subs (by.Range e) = record { complete = some_names.complete; sound = some_names.sound }
subs (by.List e) = record { complete = some_names.complete; sound = some_names.sound }
subs (by.RangeColumns numbers) = record { complete = some_names.complete; sound = some_names.sound }
subs (by.ListColumns numbers) = record { complete = some_names.complete; sound = some_names.sound }
subs (by.Hash linear e) = record { complete = some_names.complete; sound = some_names.sound }
subs (by.Key linear numbers) = record { complete = some_names.complete; sound = some_names.sound }

pub record IsPart (main sub : PartBy) (part : PartDef) : Type 0 where
  pub name : IsIdent part.name
  pub bounds : BoundsOf main part.bounds
  pub subs : SubsOf sub part.subs

pub is_part : (main sub : PartBy) → Codec (part_def_at main sub) (part_text main sub) (IsPart main sub)
unfolding part_def_at part_text
is_part main sub = record {
  complete = λ x rest is. first name x.name _ rest _ is.name ∙ first (bounds main) x.bounds _ rest _ is.bounds ∙ last (subs sub) x.subs rest _ is.subs;
  sound = λ bytes x rest are e.
      let a = from_bind _ (name_at bytes) (x, rest) e in
      let n = name.sound bytes a.0.0 a.0.1 are a.1 in
      let b = from_bind _ (bounds_at main a.0.1) (x, rest) a.2 in
      let t = (bounds main).sound a.0.1 b.0.0 b.0.1 n.are b.1 in
      let f = from_bind _ (subs_at sub b.0.1) (x, rest) b.2 in
      let s = (subs sub).sound b.0.1 f.0.0 f.0.1 t.are f.1 in
      let p : PartDef × List ℕ = (record { name = a.0.0; bounds = b.0.0; subs = f.0.0 }, f.0.1) in
      same_pair (IsPart main sub) (part_text main sub) bytes p (x, rest) (one_ok p (x, rest) f.2)
      (record {
        is = record { name = n.is; bounds = t.is; subs = s.is };
        text_is = in_row bytes (name_text a.0.0) a.0.1 _ f.0.1 n.text_is (in_row a.0.1 (bounds_text main b.0.0) b.0.1 (subs_text sub f.0.0) f.0.1 t.text_is s.text_is);
        are = s.are;
      });
}

-- ---- partitionings

module _ (columns : List Column) (few : length columns ≤ 1_000_000) where
  abbrev pub width : ℕ
  width = length columns

  few32 : width ≤ 2 ^ 32
  few32 = omega (arith, few)

  some_places : Codec (positions_at 1 width) positions_text (AreSomePositions width)
  some_places =
      restated (λ xs. ArePlaces width few32 1 xs) (AreSomePositions width)
      (λ xs is. let some = is.0 in record { each = recursion_from_All (λ n. n < width) xs is.1.1; count = (some.0, omega (arith, some.1), some.1) })
      (λ xs is. let some = is.count in ((some.0, some.2), (some.2, All-from_recursion (λ n. n < width) xs is.each))) (positions width few32 1)

  any_places : Codec (positions_at 0 width) positions_text (ArePositions width)
  any_places =
      restated (λ xs. ArePlaces width few32 0 xs) (ArePositions width)
      (λ xs is. let some = is.0 in record { each = recursion_from_All (λ n. n < width) xs is.1; count = (omega arith, omega (arith, some), some) })
      (λ xs is. let some = is.count in (some.2, All-from_recursion (λ n. n < width) xs is.each)) (positions width few32 0)

  abbrev pub KeyIs : KeyDef → Type 0
  KeyIs key = IsStorableKey width key × IsIdent key.name

  pub one_key : Codec (key_at width) key_text KeyIs
  one_key =
      restated (λ k. IsKey width few32 k) KeyIs
      (λ k is.
      let both = is.0.columns in
      let some = both.0 in
      record { name = record { ident = is.1; named = is.0.name }; columns = record { each = recursion_from_All (λ n. n < width) k.columns both.1.1; count = (some.0, omega (arith, some.1), some.1) } })
      (λ k is.
      let some = is.columns.count in
      (record { columns = ((some.0, some.2), (some.2, All-from_recursion (λ n. n < width) k.columns is.columns.each)); name = is.name.named }, is.name.ident)) (is_key width few32)

  module _ (room : ℕ) where
    abbrev pub GoodBy : PartBy → Type 0
    GoodBy by.Whole = Unit {0}
    GoodBy (by.Range e) = Good columns few room e
    GoodBy (by.List e) = Good columns few room e
    GoodBy (by.RangeColumns numbers) = AreSomePositions width numbers
    GoodBy (by.ListColumns numbers) = AreSomePositions width numbers
    GoodBy (by.Hash linear e) = Good columns few room e
    GoodBy (by.Key linear numbers) = ArePositions width numbers

    -- what may be, as the partitioning or as the subpartitioning
    abbrev pub MayBe : Bool → PartBy → Type 0
    MayBe main (by.Range e) = main ≡ true
    MayBe main (by.List e) = main ≡ true
    MayBe main (by.RangeColumns numbers) = main ≡ true
    MayBe main (by.ListColumns numbers) = main ≡ true
    MayBe main _ = Unit {0}

    abbrev pub IsBy : Bool → PartBy → Type 0
    IsBy main p = GoodBy p × MayBe main p

    abbrev one : Codec (expr_at columns room) (expr_text columns) (Good columns few room)
    one = expr columns few room

    by_complete : (main : Bool) (p : PartBy) (rest : List ℕ) → IsBy main p → by_at main columns room (by_text columns p ++ rest) ≡ Ok (p, rest)
    unfolding by_at by_behind by_text byte_at
    by_complete true by.Whole rest is = refl
    by_complete true (by.Range e) rest is = ap (made by.Range) (one.complete e rest is.0)
    by_complete true (by.List e) rest is = ap (made by.List) (one.complete e rest is.0)
    by_complete true (by.RangeColumns numbers) rest is = ap (made by.RangeColumns) (some_places.complete numbers rest is.0)
    by_complete true (by.ListColumns numbers) rest is = ap (made by.ListColumns) (some_places.complete numbers rest is.0)
    by_complete true (by.Hash false e) rest is = ap (made (by.Hash false)) (one.complete e rest is.0)
    by_complete true (by.Hash true e) rest is = ap (made (by.Hash true)) (one.complete e rest is.0)
    by_complete true (by.Key false numbers) rest is = ap (made (by.Key false)) (any_places.complete numbers rest is.0)
    by_complete true (by.Key true numbers) rest is = ap (made (by.Key true)) (any_places.complete numbers rest is.0)
    by_complete false by.Whole rest is = refl
    by_complete false (by.Range e) rest is = absurd (true≢false (sym is.1))
    by_complete false (by.List e) rest is = absurd (true≢false (sym is.1))
    by_complete false (by.RangeColumns numbers) rest is = absurd (true≢false (sym is.1))
    by_complete false (by.ListColumns numbers) rest is = absurd (true≢false (sym is.1))
    by_complete false (by.Hash false e) rest is = ap (made (by.Hash false)) (one.complete e rest is.0)
    by_complete false (by.Hash true e) rest is = ap (made (by.Hash true)) (one.complete e rest is.0)
    by_complete false (by.Key false numbers) rest is = ap (made (by.Key false)) (any_places.complete numbers rest is.0)
    by_complete false (by.Key true numbers) rest is = ap (made (by.Key true)) (any_places.complete numbers rest is.0)

    module _ (main : Bool) (code : ℕ) (rest : List ℕ) (p : PartBy) (more : List ℕ) (are : AreBytes rest) where
      abbrev FoundBy : ℕ → Type 0
      FoundBy n = Was (IsBy main) (by_text columns) (n ∷ rest) p more

      -- a partitioning that is made of one field
      of_part : {A : Type 0} (n : ℕ) (reader : Reader A) (t : A → List ℕ) (P : A → Type 0) (codec : Codec reader t P) (f : A → PartBy) → ((a : A) → P a → IsBy main (f a)) → ((a : A) → by_text columns (f a) ≡ n ∷ t a)
          → code ≡ n → made f (reader rest) ≡ Ok (p, more) → FoundBy code
      of_part n reader t P codec f is spelled h e =
          let g = from_made f (reader rest) (p, more) e in
          let was = codec.sound rest g.0.0 g.0.1 are g.1 in
          same_pair (IsBy main) (by_text columns) (code ∷ rest) (f g.0.0, g.0.1) (p, more) g.2
          (record {
            is = is g.0.0 was.is;
            text_is = ap (λ n. n ∷ rest) h ∙ ap (λ (b : List ℕ). n ∷ b) was.text_is ∙ ap (λ (b : List ℕ). b ++ g.0.1) (sym (spelled g.0.0));
            are = was.are;
          })

      by_behind_sound : (start : List ℕ) → by_behind main columns room start code rest ≡ Ok (p, more) → FoundBy code
      unfolding by_behind by_text
      by_behind_sound start e =
          either code 0 _ _ _ e (λ h f.
          let q : PartBy × List ℕ = (by.Whole, rest) in
          same_pair (IsBy main) (by_text columns) (code ∷ rest) q (p, more) (one_ok q (p, more) f) (record { is = (tt, tt); text_is = ap (λ n. n ∷ rest) h; are = are })) (λ e.
          either_main main code 1 _ _ _ e (λ m h f. of_part 1 (expr_at columns room) (expr_text columns) (Good columns few room) one by.Range (λ a is. (is, m)) (λ a. refl) h f) (λ e.
          either_main main code 2 _ _ _ e (λ m h f. of_part 2 (expr_at columns room) (expr_text columns) (Good columns few room) one by.List (λ a is. (is, m)) (λ a. refl) h f) (λ e.
          either_main main code 3 _ _ _ e (λ m h f. of_part 3 (positions_at 1 width) positions_text (AreSomePositions width) some_places by.RangeColumns (λ a is. (is, m)) (λ a. refl) h f) (λ e.
          either_main main code 4 _ _ _ e (λ m h f. of_part 4 (positions_at 1 width) positions_text (AreSomePositions width) some_places by.ListColumns (λ a is. (is, m)) (λ a. refl) h f) (λ e.
          either code 5 _ _ _ e (λ h f. of_part 5 (expr_at columns room) (expr_text columns) (Good columns few room) one (by.Hash false) (λ a is. (is, tt)) (λ a. refl) h f) (λ e.
          either code 6 _ _ _ e (λ h f. of_part 6 (expr_at columns room) (expr_text columns) (Good columns few room) one (by.Hash true) (λ a is. (is, tt)) (λ a. refl) h f) (λ e.
          either code 7 _ _ _ e (λ h f. of_part 7 (positions_at 0 width) positions_text (ArePositions width) any_places (by.Key false) (λ a is. (is, tt)) (λ a. refl) h f) (λ e.
          either code 8 _ _ _ e (λ h f. of_part 8 (positions_at 0 width) positions_text (ArePositions width) any_places (by.Key true) (λ a is. (is, tt)) (λ a. refl) h f) (λ e.
          absurd (let bad : ◌≡◌ {A = Read PartBy} (Err (length start)) (Ok (p, more)) = e in cc))))))))))

    by_sound : (main : Bool) (bytes : List ℕ) (p : PartBy) (rest : List ℕ) → AreBytes bytes → by_at main columns room bytes ≡ Ok (p, rest) → Was (IsBy main) (by_text columns) bytes p rest
    unfolding by_at
    by_sound main bytes p rest are e =
        let f = from_bind (λ (code : ℕ × List ℕ). by_behind main columns room bytes code.0 code.1) (byte_at bytes) (p, rest) e in
        let at : bytes ≡ f.0.0 ∷ f.0.1 = byte_sound bytes f.0.0 f.0.1 f.1 in
        subst (λ (b : List ℕ). Was (IsBy main) (by_text columns) b p rest) (sym at)
        (by_behind_sound main f.0.0 f.0.1 p rest (AreBytes-behind bytes (f.0.0 ∷ []) f.0.1 are at) bytes f.2)

    pub is_by : (main : Bool) → Codec (by_at main columns room) (by_text columns) (IsBy main)
    is_by main = record { complete = by_complete main; sound = by_sound main }
