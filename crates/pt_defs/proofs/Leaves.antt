-- The nodes of an expression without parts: numbers, dates and columns; and the codes of operators and functions.
use Rattle.std.proofs.Common.{◌≡◌, ℕ, zero, suc, ◌+◌, ◌*◌, ◌<◌, ◌≤◌, ◌^◌, Bool, true, false, cond, not, ◌==◌, ◌&&◌, ℤ, pos, negsuc, List, [], ◌∷◌, ◌++◌, length, take, drop, get_or, Option, Some, None, refl, sym, ap, ap₂, ◌∙◌, subst, arith, append_assoc, length-append, length-take, length-drop}
use Rattle.std.specs.Prelude.{Result, Ok, Err, nat_lt, Any}
use Rattle.std.specs.Int.{w32, w128}
use Rattle.std.specs.Int.RustNames.{FitsSigned}
use Rattle.std.specs.Str.{bytes_eq}
use Rattle.std.proofs.lemmas.Int.{ints}
use Rattle.std.proofs.lemmas.Bool.{lt-ltb, ltb-true, ltb-false, le-ltb, eq-eqb, eqb-true, not-false, and_from, and_parts, true≢false}
use Rattle.std.proofs.lemmas.List.{get_or-map, take-append-drop}
use Rattle.std.proofs.lemmas.List.Sums.{prefix_len_passes, prefix_len_stops}
use Rattle.std.proofs.lemmas.Slice.Eq.{bytes_eq-Decides}
use Rattle.pt_value.specs.Fits.{FitsDate, fits_date}
use Rattle.pt_value.proofs.Spelled.{fits_date-Decides}
use Rattle.pt_bytes.specs.Numbers.{AreBytes, le_bytes, number_of}
use Rattle.pt_bytes.proofs.Numbers.{again, back, below, joined, length-le_bytes}
use Rattle.pt_ast.specs.declared.tree.Func.{Func}
use Rattle.pt_ast.specs.declared.tree.Func.TheVariants as func
use Rattle.pt_ast.specs.declared.tree.Op.{Op}
use Rattle.pt_ast.specs.declared.tree.Op.TheVariants as op
use Rattle.pt_ast.specs.declared.table.Column.{Column}
use Rattle.pt_ast.specs.Storable.{IsNotNegative}
use Rattle.pt_ast.specs.StorableDef.{IsFitDate}
use Rattle.pt_defs.specs.Spelling.{column_place, date_text, flag, func_code, i32_text, i128_text, op_code}
use Rattle.pt_defs.specs.Reading.{◌>>=◌, Read, Reader, byte_at, date_at, day_at, first_named, func_of, meant, name_of, named_at, number_at, op_at, op_of, pair_at, pass, plus_at, whole_at}
use Rattle.pt_defs.proofs.Steps.{Codec, Was, AreBytes-behind, AreBytes-front, either, first, from_bind, from_meant, from_pass, in_row, last, one_ok, one_some, same_pair}
use Rattle.pt_defs.proofs.Items.{byte_sound, day, number, number_read, number_sound}
use Rattle.pt_defs.proofs.Columns.{named_byte}

-- ---- numbers

pub record IsWhole (n : ℤ) : Type 0 where
  pub least : IsNotNegative n
  pub fits : FitsSigned w128 n

abbrev high_half : List ℕ → ℕ → ℕ × List ℕ → Result (ℤ × List ℕ) ℕ
high_half bytes low high = pass (nat_lt high.0 (2 ^ 63)) bytes (pos (2 ^ 64 * high.0 + low), high.1)

abbrev low_half : List ℕ → ℕ × List ℕ → Result (ℤ × List ℕ) ℕ
low_half bytes low = number_at 8 low.1 >>= high_half bytes low.0

-- sixteen bytes as twice eight
whole_parts : (a b rest : List ℕ) → length a ≡ 8 → length b ≡ 8 → number_of b < 2 ^ 63 → whole_at ((a ++ b) ++ rest) ≡ Ok (pos (2 ^ 64 * number_of b + number_of a), rest)
unfolding whole_at
whole_parts a b rest is_a is_b low =
    ap (λ t. cond t (Err (length ((a ++ b) ++ rest))) (number_at 8 ((a ++ b) ++ rest) >>= low_half ((a ++ b) ++ rest))) (enough ((a ++ b) ++ rest) (omega (arith, is_a, is_b, length-append (a ++ b) rest, length-append a b)))
    ∙ ap (λ (bytes : List ℕ). number_at 8 bytes >>= low_half ((a ++ b) ++ rest)) (append_assoc a b rest)
    ∙ ap (λ (v : Read ℕ). v >>= low_half ((a ++ b) ++ rest)) (number_read 8 a (b ++ rest) is_a)
    ∙ ap (λ (v : Read ℕ). v >>= high_half ((a ++ b) ++ rest) (number_of a)) (number_read 8 b rest is_b)
    ∙ ap (λ t. pass t ((a ++ b) ++ rest) (pos (2 ^ 64 * number_of b + number_of a), rest)) (lt-ltb (number_of b) (2 ^ 63) low)
  where
    enough : (bytes : List ℕ) → 16 ≤ length bytes → nat_lt (length bytes) 16 ≡ false
    enough bytes le = le-ltb (length bytes) 16 le

whole_complete : (n : ℤ) (rest : List ℕ) → IsWhole n → whole_at (i128_text n ++ rest) ≡ Ok (n, rest)
whole_complete (negsuc n) rest is = let h = is.least in absurd (omega (arith, ints))
whole_complete (pos n) rest is =
    let few : n < 2 ^ 127 = is.fits.sfits in
    let all = le_bytes 16 n in
    let a = take 8 all in
    let b = drop 8 all in
    let long : length all ≡ 16 = length-le_bytes 16 n in
    let is_a : length a ≡ 8 = omega (arith, long, length-take 8 all) in
    let is_b : length b ≡ 8 = omega (arith, long, length-drop 8 all) in
    let both : a ++ b ≡ all = take-append-drop 8 all in
    let value : number_of a + 256 ^ 8 * number_of b ≡ n =
    ap (λ k. number_of a + 256 ^ k * number_of b) (sym is_a) ∙ sym (joined a b) ∙ ap number_of both ∙ again 16 n (omega arith) in
    let low : number_of b < 2 ^ 63 = omega (arith, value, few) in
    ap (λ (x : List ℕ). whole_at (x ++ rest)) (sym both)
    ∙ whole_parts a b rest is_a is_b low
    ∙ ap (λ k. Ok (pos k, rest)) (omega (arith, value))

both_bytes : (a b : List ℕ) → AreBytes a → AreBytes b → AreBytes (a ++ b)
both_bytes [] b is_a is_b = is_b
both_bytes (x ∷ a) b is_a is_b = cons (is_a 0 x (omega arith)) (both_bytes a b (λ k d lt. is_a (suc k) d (omega arith)) is_b)
  where
    cons : x < 256 → AreBytes (a ++ b) → AreBytes (x ∷ (a ++ b))
    cons lt is zero d l = lt
    cons lt is (suc k) d l = is k d (omega arith)

whole_sound : (bytes : List ℕ) (n : ℤ) (rest : List ℕ) → AreBytes bytes → whole_at bytes ≡ Ok (n, rest) → Was IsWhole i128_text bytes n rest
unfolding whole_at
whole_sound bytes n rest are e = go (nat_lt (length bytes) 16) e
  where
    read : (number_at 8 bytes >>= low_half bytes) ≡ Ok (n, rest) → Was IsWhole i128_text bytes n rest
    read f =
        let g = from_bind (low_half bytes) (number_at 8 bytes) (n, rest) f in
        let low = number_sound 8 bytes g.0.0 g.0.1 g.1 in
        let h = from_bind (high_half bytes g.0.0) (number_at 8 g.0.1) (n, rest) g.2 in
        let high = number_sound 8 g.0.1 h.0.0 h.0.1 h.1 in
        let k = from_pass (nat_lt h.0.0 (2 ^ 63)) bytes (pos (2 ^ 64 * h.0.0 + g.0.0), h.0.1) (n, rest) h.2 in
        let few : h.0.0 < 2 ^ 63 = ltb-true h.0.0 (2 ^ 63) k.0 in
        let a = low.part in
        let b = high.part in
        let is_a : AreBytes a = AreBytes-front bytes a g.0.1 are low.front.parts in
        let are_1 : AreBytes g.0.1 = AreBytes-behind bytes a g.0.1 are low.front.parts in
        let is_b : AreBytes b = AreBytes-front g.0.1 b h.0.1 are_1 high.front.parts in
        let m = 2 ^ 64 * h.0.0 + g.0.0 in
        let long_a : length a ≡ 8 = low.front.long in
        let long_b : length b ≡ 8 = high.front.long in
        let low_few : number_of a < 256 ^ 8 = subst (λ k. number_of a < 256 ^ k) long_a (below a is_a) in
        let value : number_of (a ++ b) ≡ m =
        joined a b ∙ ap (λ k. number_of a + 256 ^ k * number_of b) long_a ∙ omega (arith, low.number_is, high.number_is) in
        let spelled : le_bytes 16 m ≡ a ++ b =
        ap₂ (λ (k x : ℕ). le_bytes k x) (omega (arith, long_a, long_b, length-append a b)) (sym value) ∙ back (a ++ b) (both_bytes a b is_a is_b) in
        let size : m < 2 ^ 127 = omega (arith, few, low_few, low.number_is) in
        same_pair IsWhole i128_text bytes (pos m, h.0.1) (n, rest) k.1
        (record {
          is = record { least = omega (arith, ints); fits = record { sfits = size } };
          text_is = in_row bytes a g.0.1 b h.0.1 low.front.parts high.front.parts ∙ ap (λ (x : List ℕ). x ++ h.0.1) (sym spelled);
          are = AreBytes-behind g.0.1 b h.0.1 are_1 high.front.parts;
        })

    go : (t : Bool) → cond t (Err (length bytes)) (number_at 8 bytes >>= low_half bytes) ≡ Ok (n, rest) → Was IsWhole i128_text bytes n rest
    go true f = absurd (let bad : ◌≡◌ {A = Read ℤ} (Err (length bytes)) (Ok (n, rest)) = f in cc)
    go false f = read f

pub whole : Codec whole_at i128_text IsWhole
whole = record { complete = whole_complete; sound = whole_sound }

-- ---- dates

date_fits : (z : ℤ) → FitsDate z → FitsSigned w32 z
date_fits (pos n) fits = let low = fits.1 in record { sfits = omega (arith, ints) }
date_fits (negsuc n) fits = let high = fits.0 in record { sfits = omega (arith, ints) }

pub date : Codec date_at date_text IsFitDate
unfolding date_at
date = record {
  complete = complete;
  sound = λ bytes d rest are e.
      let f = from_bind (λ (day : ℤ × List ℕ). pass (fits_date day.0) bytes (Some day.0, day.1)) (day_at bytes) (d, rest) e in
      let g = from_pass (fits_date f.0.0) bytes (Some f.0.0, f.0.1) (d, rest) f.2 in
      let was = day.sound bytes f.0.0 f.0.1 are f.1 in
      same_pair IsFitDate date_text bytes (Some f.0.0, f.0.1) (d, rest) g.1 (record { is = (fits_date-Decides f.0.0).0 g.0; text_is = was.text_is; are = was.are });
}
  where
    complete : (d : Option ℤ) (rest : List ℕ) → IsFitDate d → date_at (date_text d ++ rest) ≡ Ok (d, rest)
    complete None rest is = absurd is
    complete (Some z) rest is = last day z rest _ (date_fits z is) ∙ ap (λ b. pass b (i32_text z ++ rest) (Some z, rest)) ((fits_date-Decides z).1 is)

-- ---- columns

any_at : (P : Column → Type 0) (xs : List Column) (n : ℕ) → n < length xs → ((d : Column) → P (get_or xs n d)) → Any P xs
any_at P [] n lt h = absurd (omega arith)
any_at P (x ∷ xs) zero lt h = (0, x, omega arith, refl, h x)
any_at P (x ∷ xs) (suc n) lt h = let r = any_at P xs n (omega arith) h in (suc r.0, r.1, omega (arith, r.2), r.3, r.4)

module _ (columns : List Column) where
  abbrev named : List ℕ → Column → Bool
  named name column = bytes_eq column.name name

  -- the column of a name is the first one
  pub record IsFirst (name : List ℕ) (n : ℕ) : Type 0 where
    pub there : n < length columns
    pub name_is : name_of columns n ≡ name
    pub place_is : column_place name columns ≡ n

  name_is_of : (n : ℕ) (d : Column) → n < length columns → name_of columns n ≡ (get_or columns n d).name
  name_is_of n d lt = get_or-map (λ (c : Column). c.name) columns n d [] lt

  first_is : (name : List ℕ) → Any (λ column. column.name ≡ name) columns → IsFirst name (column_place name columns)
  first_is name any =
      let test = λ (c : Column). not (named name c) in
      let place = column_place name columns in
      let k = any.0 in
      let d = any.1 in
      let here : (get_or columns k d).name ≡ name = ap (λ (c : Column). c.name) any.3 ∙ any.4 in
      let passes : named name (get_or columns k d) ≡ true = (bytes_eq-Decides (get_or columns k d).name name).1 here in
      let low : place ≤ k = at_most k d passes in
      let there : place < length columns = omega (arith, low, any.2) in
      let stops = prefix_len_stops test columns d there in
      let is : (get_or columns place d).name ≡ name = (bytes_eq-Decides (get_or columns place d).name name).0 (not-false _ stops) in
      record { there = there; name_is = name_is_of place d there ∙ is; place_is = refl }
    where
      at_most : (k : ℕ) (d : Column) → named name (get_or columns k d) ≡ true → column_place name columns ≤ k
      at_most k d passes = by (nat_lt k (column_place name columns)) refl
        where
          by : (b : Bool) → nat_lt k (column_place name columns) ≡ b → column_place name columns ≤ k
          by true e =
              let no : not (named name (get_or columns k d)) ≡ true = prefix_len_passes (λ (c : Column). not (named name c)) columns k d (ltb-true _ _ e) in
              absurd (true≢false (sym no ∙ ap not passes))
          by false e = ltb-false _ _ e

  first_complete : (name : List ℕ) (n : ℕ) → IsFirst name n → first_named columns n ≡ Some name
  unfolding first_named
  first_complete name n is =
      ap (λ (x : List ℕ). cond (nat_lt n (length columns) && (column_place x columns == n)) (Some x) None) is.name_is
      ∙ ap (λ b. cond b (Some name) None) (and_from _ _ (lt-ltb n (length columns) is.there) (eq-eqb _ n is.place_is))

  first_sound : (name : List ℕ) (n : ℕ) → first_named columns n ≡ Some name → IsFirst name n
  unfolding first_named
  first_sound name n e = go (nat_lt n (length columns) && (column_place (name_of columns n) columns == n)) refl e
    where
      go : (b : Bool) → (nat_lt n (length columns) && (column_place (name_of columns n) columns == n)) ≡ b → cond b (Some (name_of columns n)) None ≡ Some name → IsFirst name n
      go true t f =
          let both = and_parts _ _ t in
          let same : name_of columns n ≡ name = one_some _ _ f in
          record { there = ltb-true _ _ both.0; name_is = same; place_is = ap (λ (x : List ℕ). column_place x columns) (sym same) ∙ eqb-true _ _ both.1 }
      go false t f = absurd (let bad : ◌≡◌ {A = Option (List ℕ)} None (Some name) = f in cc)

  abbrev pub IsNamed : List ℕ → Type 0
  IsNamed name = Any (λ column. column.name ≡ name) columns

  any_first : (name : List ℕ) (n : ℕ) → IsFirst name n → IsNamed name
  any_first name n is = any_at (λ column. column.name ≡ name) columns n is.there (λ d. sym (name_is_of n d is.there) ∙ is.name_is)

  pub named_column : length columns ≤ 1_000_000 → Codec (named_at columns) (λ name. le_bytes 4 (column_place name columns)) IsNamed
  unfolding named_at
  named_column few = record {
    complete = λ name rest is.
        let here = first_is name is in
        let n = column_place name columns in
        last (number 4) n rest _ (omega (arith, here.there, few))
        ∙ ap (λ (o : Option (List ℕ)). meant (le_bytes 4 n ++ rest) o rest) (first_complete name n here);
    sound = λ bytes name rest are e.
        let f = from_bind (λ (n : ℕ × List ℕ). meant bytes (first_named columns n.0) n.1) (number_at 4 bytes) (name, rest) e in
        let g = from_meant bytes (first_named columns f.0.0) f.0.1 (name, rest) f.2 in
        let was = (number 4).sound bytes f.0.0 f.0.1 are f.1 in
        let is = first_sound g.0 f.0.0 g.1 in
        let p : List ℕ × List ℕ = (g.0, f.0.1) in
        same_pair IsNamed (λ name. le_bytes 4 (column_place name columns)) bytes p (name, rest) g.2
        (record { is = any_first g.0 f.0.0 is; text_is = was.text_is ∙ ap (λ n. le_bytes 4 n ++ f.0.1) (sym is.place_is); are = was.are });
  }

-- ---- codes

op_back : (o : Op) → op_of (op_code o) ≡ Some o
op_back op.Times = refl
op_back op.Div = refl
op_back op.Mod = refl

op_only : (n : ℕ) (o : Op) → op_of n ≡ Some o → n ≡ op_code o
op_only n o e =
    either n 1 _ _ _ e (λ h s. h ∙ ap op_code (one_some op.Times o s)) (λ e.
    either n 2 _ _ _ e (λ h s. h ∙ ap op_code (one_some op.Div o s)) (λ e.
    either n 3 _ _ _ e (λ h s. h ∙ ap op_code (one_some op.Mod o s)) (λ e. absurd (let bad : ◌≡◌ {A = Option Op} None (Some o) = e in cc))))

pub is_op : Codec op_at (λ o. op_code o ∷ []) (λ o. Unit {0})
unfolding op_at
is_op = named_byte op_of op_code op_back op_only

pub func_only : (n : ℕ) (o : Func) → func_of n ≡ Some o → n ≡ func_code o
func_only n o e =
    either n 8 _ _ _ e (λ h s. h ∙ ap func_code (one_some func.Abs o s)) (λ e.
    either n 9 _ _ _ e (λ h s. h ∙ ap func_code (one_some func.Year o s)) (λ e.
    either n 10 _ _ _ e (λ h s. h ∙ ap func_code (one_some func.Month o s)) (λ e.
    either n 11 _ _ _ e (λ h s. h ∙ ap func_code (one_some func.DayOfMonth o s)) (λ e.
    either n 12 _ _ _ e (λ h s. h ∙ ap func_code (one_some func.DayOfYear o s)) (λ e.
    either n 13 _ _ _ e (λ h s. h ∙ ap func_code (one_some func.DayOfWeek o s)) (λ e.
    either n 14 _ _ _ e (λ h s. h ∙ ap func_code (one_some func.Weekday o s)) (λ e.
    either n 15 _ _ _ e (λ h s. h ∙ ap func_code (one_some func.Quarter o s)) (λ e.
    either n 16 _ _ _ e (λ h s. h ∙ ap func_code (one_some func.ToDays o s)) (λ e. absurd (let bad : ◌≡◌ {A = Option Func} None (Some o) = e in cc))))))))))

zero_is : (n : ℕ) → (n == 0) ≡ true → n ≡ 0
zero_is n h = eqb-true n 0 h

pub plus : Codec plus_at (λ b. flag b ∷ []) (λ b. b ≡ false)
unfolding plus_at byte_at
plus = record {
  complete = complete;
  sound = λ bytes b rest are e.
      let f = from_bind (λ (n : ℕ × List ℕ). pass (n.0 == 0) bytes (false, n.1)) (byte_at bytes) (b, rest) e in
      let g = from_pass (f.0.0 == 0) bytes (false, f.0.1) (b, rest) f.2 in
      let at : bytes ≡ f.0.0 ∷ f.0.1 = byte_sound bytes f.0.0 f.0.1 f.1 in
      let p : Bool × List ℕ = (false, f.0.1) in
      same_pair (λ b. b ≡ false) (λ b. flag b ∷ []) bytes p (b, rest) g.1
      (record { is = refl; text_is = at ∙ ap (λ n. n ∷ f.0.1) (zero_is f.0.0 g.0); are = AreBytes-behind bytes (f.0.0 ∷ []) f.0.1 are at });
}
  where
    complete : (b : Bool) (rest : List ℕ) → b ≡ false → plus_at (flag b ∷ rest) ≡ Ok (b, rest)
    complete true rest is = absurd (true≢false is)
    complete false rest is = refl

-- ---- two in a row

pub pair : {A B : Type 0} (ra : Reader A) (rb : Reader B) (ta : A → List ℕ) (tb : B → List ℕ) (P : A → Type 0) (Q : B → Type 0) → Codec ra ta P → Codec rb tb Q
    → Codec (pair_at ra rb) (λ p. ta p.0 ++ tb p.1) (λ p. P p.0 × Q p.1)
unfolding pair_at
pair {A} {B} ra rb ta tb P Q a b = record {
  complete = λ p rest is. first a p.0 (tb p.1) rest _ is.0 ∙ last b p.1 rest _ is.1;
  sound = λ bytes p rest are e.
      let f = from_bind _ (ra bytes) (p, rest) e in
      let x = a.sound bytes f.0.0 f.0.1 are f.1 in
      let g = from_bind _ (rb f.0.1) (p, rest) f.2 in
      let y = b.sound f.0.1 g.0.0 g.0.1 x.are g.1 in
      let q : (A × B) × List ℕ = ((f.0.0, g.0.0), g.0.1) in
      same_pair (λ (p : A × B). P p.0 × Q p.1) (λ (p : A × B). ta p.0 ++ tb p.1) bytes q (p, rest) (one_ok q (p, rest) g.2)
      (record { is = (x.is, y.is); text_is = in_row bytes (ta f.0.0) f.0.1 (tb g.0.0) g.0.1 x.text_is y.text_is; are = y.are });
}
