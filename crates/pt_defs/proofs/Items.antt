-- Numbers, names, cells and columns: what is written is read, and what is read was written.
use Rattle.std.proofs.Common.{◌≡◌, ℕ, zero, suc, ◌<◌, ◌≤◌, ◌^◌, true, ℤ, List, [], ◌∷◌, ◌++◌, length, take, drop, refl, sym, ap, ap₂, ◌∙◌, subst, arith, length-append, length-take}
use Rattle.std.specs.Prelude.{Ok, Err, nat_lt, nat_le, ◌&&◌}
use Rattle.std.specs.Int.{w32, w64, cast_signed, cast_unsigned}
use Rattle.std.specs.Int.RustNames.{FitsSigned}
use Rattle.std.specs.List.{flat_map, AllByRecursion}
use Rattle.std.proofs.Math.Facts.{Fits-of_lt, Fits-of_z, sfits_to_z}
use Rattle.std.proofs.lemmas.Int.{to_z-of_z, of_z-to_z}
use Rattle.std.proofs.lemmas.Bool.{le-leb, leb-true, lt-ltb, ltb-true, and_from, and_parts}
use Rattle.std.proofs.lemmas.List.{take_at, drop_at, take-append-drop}
use Rattle.std.proofs.lemmas.List.Sums.{list_all-from_AllPass}
use Rattle.pt_value.specs.Ident.{IsIdent, is_ident_byte}
use Rattle.pt_bytes.specs.Numbers.{AreBytes, le_bytes, number_of}
use Rattle.pt_bytes.proofs.Numbers.{again, back, below, length-le_bytes}
use Rattle.pt_ast.specs.StorableDef.{IsShort}
use Rattle.pt_defs.specs.Spelling.{i32_text, i64_text, name_text, string_text}
use Rattle.pt_defs.specs.Reading.{◌>>=◌, Read, Reader, byte_at, count_at, day_at, int_at, is_ident, list_at, made, many, name_at, number_at, part_at, pass, position_at, short_at, string_at}
use Rattle.pt_defs.proofs.Fields.{ident_is, part_enough}
use Rattle.pt_defs.proofs.Steps.{Codec, Was, AreBytes-behind, AreBytes-front, first, from_bind, from_field, from_made, from_pass, in_row, last, one_ok, same_pair}

-- ---- parts

pub part_front : (n : ℕ) (a rest : List ℕ) → length a ≡ n → part_at n (a ++ rest) ≡ Ok (a, rest)
part_front n a rest len =
    part_enough n (a ++ rest) (omega (arith, len, length-append a rest))
    ∙ ap₂ (λ (x y : List ℕ). Ok (x, y)) (take_at a rest n len) (drop_at a rest n len)

pub record IsFront (n : ℕ) (bytes a rest : List ℕ) : Type 0 where
  pub parts : bytes ≡ a ++ rest
  pub long : length a ≡ n

pub part_sound : (n : ℕ) (bytes a rest : List ℕ) → part_at n bytes ≡ Ok (a, rest) → IsFront n bytes a rest
unfolding part_at
part_sound n bytes a rest e =
    let x : List ℕ × List ℕ = (take n bytes, drop n bytes) in
    let y : List ℕ × List ℕ = (a, rest) in
    let f = from_pass (nat_le n (length bytes)) bytes x y e in
    let p : take n bytes ≡ a = ap (λ (z : List ℕ × List ℕ). z.0) f.1 in
    let q : drop n bytes ≡ rest = ap (λ (z : List ℕ × List ℕ). z.1) f.1 in
    let enough : n ≤ length bytes = leb-true n (length bytes) f.0 in
    record {
      parts = sym (take-append-drop n bytes) ∙ ap₂ (λ (x y : List ℕ). x ++ y) p q;
      long = ap (λ (x : List ℕ). length x) (sym p) ∙ length-take n bytes ∙ omega arith;
    }

-- ---- numbers

-- the number of so many bytes in front
pub number_read : (n : ℕ) (a rest : List ℕ) → length a ≡ n → number_at n (a ++ rest) ≡ Ok (number_of a, rest)
unfolding number_at
number_read n a rest len = ap (made number_of) (part_front n a rest len)

pub record IsNumber (n : ℕ) (bytes : List ℕ) (number : ℕ) (rest : List ℕ) : Type 0 where
  pub part : List ℕ
  pub front : IsFront n bytes part rest
  pub number_is : number_of part ≡ number

pub number_sound : (n : ℕ) (bytes : List ℕ) (number : ℕ) (rest : List ℕ) → number_at n bytes ≡ Ok (number, rest) → IsNumber n bytes number rest
unfolding number_at
number_sound n bytes number rest e =
    let f = from_made number_of (part_at n bytes) (number, rest) e in
    let is = part_sound n bytes f.0.0 f.0.1 f.1 in
    let same : f.0.1 ≡ rest = ap (λ (p : ℕ × List ℕ). p.1) f.2 in
    record { part = f.0.0; front = subst (λ (r : List ℕ). IsFront n bytes f.0.0 r) same is; number_is = ap (λ (p : ℕ × List ℕ). p.0) f.2 }

pub number : (n : ℕ) → Codec (number_at n) (le_bytes n) (λ m. m < 256 ^ n)
number n = record {
  complete = λ m rest fits. number_read n (le_bytes n m) rest (length-le_bytes n m) ∙ ap (λ k. Ok (k, rest)) (again n m fits);
  sound = λ bytes m rest are e.
      let is = number_sound n bytes m rest e in
      let a = is.part in
      let front : AreBytes a = AreBytes-front bytes a rest are is.front.parts in
      let again_a : le_bytes n m ≡ a = ap₂ (λ (k m : ℕ). le_bytes k m) (sym is.front.long) (sym is.number_is) ∙ back a front in
      record {
        is = subst (λ m. m < 256 ^ n) is.number_is (subst (λ k. number_of a < 256 ^ k) is.front.long (below a front));
        text_is = is.front.parts ∙ ap (λ (x : List ℕ). x ++ rest) (sym again_a);
        are = AreBytes-behind bytes a rest are is.front.parts;
      };
}

abbrev pub IsCount : ℕ → ℕ → ℕ → Type 0
IsCount least most n = (least ≤ n) × (n ≤ most) × (n < 2 ^ 32)

pub count : (least most : ℕ) → Codec (count_at least most) (le_bytes 4) (IsCount least most)
unfolding count_at
count least most = record {
  complete = λ n rest is.
      last (number 4) n rest _ (let h = is.2 in omega arith)
      ∙ ap (λ b. pass b (le_bytes 4 n ++ rest) (n, rest)) (and_from _ _ (le-leb least n is.0) (le-leb n most is.1));
  sound = λ bytes n rest are e.
      let f = from_bind (λ (n : ℕ × List ℕ). pass (nat_le least n.0 && nat_le n.0 most) bytes n) (number_at 4 bytes) (n, rest) e in
      let g = from_pass (nat_le least f.0.0 && nat_le f.0.0 most) bytes f.0 (n, rest) f.2 in
      let both = and_parts (nat_le least f.0.0) (nat_le f.0.0 most) g.0 in
      let was = (number 4).sound bytes f.0.0 f.0.1 are f.1 in
      let low : f.0.0 < 256 ^ 4 = was.is in
      same_pair (IsCount least most) (le_bytes 4) bytes f.0 (n, rest) g.1
      (record { is = (leb-true least f.0.0 both.0, leb-true f.0.0 most both.1, omega arith); text_is = was.text_is; are = was.are });
}

-- a column of so many, fewer than 2^32
pub position : (width : ℕ) → width ≤ 2 ^ 32 → Codec (position_at width) (le_bytes 4) (λ n. n < width)
unfolding position_at
position width few = record {
  complete = λ n rest is. last (number 4) n rest _ (omega (arith, is, few)) ∙ ap (λ b. pass b (le_bytes 4 n ++ rest) (n, rest)) (lt-ltb n width is);
  sound = λ bytes n rest are e.
      let f = from_bind (λ (n : ℕ × List ℕ). pass (nat_lt n.0 width) bytes n) (number_at 4 bytes) (n, rest) e in
      let g = from_pass (nat_lt f.0.0 width) bytes f.0 (n, rest) f.2 in
      let was = (number 4).sound bytes f.0.0 f.0.1 are f.1 in
      same_pair (λ n. n < width) (le_bytes 4) bytes f.0 (n, rest) g.1 (record { is = ltb-true f.0.0 width g.0; text_is = was.text_is; are = was.are });
}

-- ---- signed numbers

below64 : (n : ℤ) → FitsSigned w64 n → cast_unsigned w64 n < 256 ^ 8
below64 n fits = let f = Fits-of_z {w = w64} {z = n} fits in omega arith

below32 : (n : ℤ) → FitsSigned w32 n → cast_unsigned w32 n < 256 ^ 4
below32 n fits = let f = Fits-of_z {w = w32} {z = n} fits in omega arith

pub int : Codec int_at i64_text (λ n. FitsSigned w64 n)
unfolding int_at
int = record {
  complete = λ n rest fits. ap (made (cast_signed w64)) ((number 8).complete (cast_unsigned w64 n) rest (below64 n fits)) ∙ ap (λ z. Ok (z, rest)) (to_z-of_z w64 n fits);
  sound = λ bytes n rest are e.
      let f = from_made (cast_signed w64) (number_at 8 bytes) (n, rest) e in
      let was = (number 8).sound bytes f.0.0 f.0.1 are f.1 in
      let h : f.0.0 < 256 ^ 8 = was.is in
      let low : f.0.0 < 2 ^ 64 = omega arith in
      same_pair (λ n. FitsSigned w64 n) i64_text bytes (cast_signed w64 f.0.0, f.0.1) (n, rest) f.2
      (record { is = sfits_to_z {w = w64} {n = f.0.0} (Fits-of_lt {w = w64} low); text_is = was.text_is ∙ ap (λ m. le_bytes 8 m ++ f.0.1) (sym (of_z-to_z w64 f.0.0 low)); are = was.are });
}

pub day : Codec day_at i32_text (λ n. FitsSigned w32 n)
unfolding day_at
day = record {
  complete = λ n rest fits. ap (made (cast_signed w32)) ((number 4).complete (cast_unsigned w32 n) rest (below32 n fits)) ∙ ap (λ z. Ok (z, rest)) (to_z-of_z w32 n fits);
  sound = λ bytes n rest are e.
      let f = from_made (cast_signed w32) (number_at 4 bytes) (n, rest) e in
      let was = (number 4).sound bytes f.0.0 f.0.1 are f.1 in
      let h : f.0.0 < 256 ^ 4 = was.is in
      let low : f.0.0 < 2 ^ 32 = omega arith in
      same_pair (λ n. FitsSigned w32 n) i32_text bytes (cast_signed w32 f.0.0, f.0.1) (n, rest) f.2
      (record { is = sfits_to_z {w = w32} {n = f.0.0} (Fits-of_lt {w = w32} low); text_is = was.text_is ∙ ap (λ m. le_bytes 4 m ++ f.0.1) (sym (of_z-to_z w32 f.0.0 low)); are = was.are });
}

-- ---- bytes and strings

pub byte_sound : (bytes : List ℕ) (n : ℕ) (rest : List ℕ) → byte_at bytes ≡ Ok (n, rest) → bytes ≡ n ∷ rest
unfolding byte_at
byte_sound [] n rest e = absurd (let bad : ◌≡◌ {A = Read ℕ} (Err 0) (Ok (n, rest)) = e in cc)
byte_sound (b ∷ bytes) n rest e =
    let p : ℕ × List ℕ = (b, bytes) in
    let q : ℕ × List ℕ = (n, rest) in
    let same : p ≡ q = one_ok p q e in
    ap (λ (p : ℕ × List ℕ). p.0 ∷ p.1) same

pub byte_first : (b : ℕ) (rest : List ℕ) → byte_at (b ∷ rest) ≡ Ok (b, rest)
unfolding byte_at
byte_first b rest = refl

abbrev pub IsString : List ℕ → Type 0
IsString bytes = IsShort bytes × AreBytes bytes

pub string : Codec string_at string_text IsString
unfolding string_at string_text
string = record {
  complete = λ xs rest is.
      ap (Rattle.pt_defs.specs.Reading.field ((le_bytes 2 (length xs) ++ xs) ++ rest))
      (first (number 2) (length xs) xs rest (λ n. part_at n.0 n.1) (let h = is.0 in omega arith) ∙ part_front (length xs) xs rest refl);
  sound = λ bytes xs rest are e.
      let f = from_field bytes (number_at 2 bytes >>= λ n. part_at n.0 n.1) (xs, rest) e in
      let g = from_bind (λ (n : ℕ × List ℕ). part_at n.0 n.1) (number_at 2 bytes) (xs, rest) f in
      let was = (number 2).sound bytes g.0.0 g.0.1 are g.1 in
      let is = part_sound g.0.0 g.0.1 xs rest g.2 in
      let low : g.0.0 < 256 ^ 2 = was.is in
      let long : length xs ≡ g.0.0 = is.long in
      record {
        is = (omega arith, AreBytes-front g.0.1 xs rest was.are is.parts);
        text_is = in_row bytes (le_bytes 2 (length xs)) g.0.1 xs rest (was.text_is ∙ ap (λ m. le_bytes 2 m ++ g.0.1) (sym is.long)) is.parts;
        are = AreBytes-behind g.0.1 xs rest was.are is.parts;
      };
}

ident_test : (name : List ℕ) → IsIdent name → is_ident name ≡ true
ident_test name is =
    and_from _ _ (lt-ltb 0 (length name) is.some) (and_from _ _ (le-leb (length name) 64 is.fits) (list_all-from_AllPass is_ident_byte name is.each))

short_read : (name rest : List ℕ) → short_at (name_text name ++ rest) ≡ Ok (name, rest)
unfolding short_at name_text byte_at
short_read name rest = ap (Rattle.pt_defs.specs.Reading.field (length name ∷ (name ++ rest))) (part_front (length name) name rest refl)

pub name : Codec name_at name_text IsIdent
unfolding name_at short_at name_text
name = record {
  complete = λ x rest is. ap (λ (v : Read (List ℕ)). v >>= λ (name : List ℕ × List ℕ). pass (is_ident name.0) (name_text x ++ rest) name) (short_read x rest)
      ∙ ap (λ b. pass b (name_text x ++ rest) (x, rest)) (ident_test x is);
  sound = λ bytes x rest are e.
      let f = from_bind (λ (name : List ℕ × List ℕ). pass (is_ident name.0) bytes name) (short_at bytes) (x, rest) e in
      let g = from_pass (is_ident f.0.0) bytes f.0 (x, rest) f.2 in
      let h = from_field bytes (byte_at bytes >>= λ n. part_at n.0 n.1) f.0 f.1 in
      let k = from_bind (λ (n : ℕ × List ℕ). part_at n.0 n.1) (byte_at bytes) f.0 h in
      let is = part_sound k.0.0 k.0.1 f.0.0 f.0.1 k.2 in
      let at : bytes ≡ k.0.0 ∷ k.0.1 = byte_sound bytes k.0.0 k.0.1 k.1 in
      let own : AreBytes k.0.1 = AreBytes-behind bytes (k.0.0 ∷ []) k.0.1 are at in
      same_pair IsIdent name_text bytes f.0 (x, rest) g.1
      (record {
        is = ident_is f.0.0 g.0;
        text_is = at ∙ ap₂ (λ (m : ℕ) (xs : List ℕ). m ∷ xs) (sym is.long) is.parts;
        are = AreBytes-behind k.0.1 f.0.0 f.0.1 own is.parts;
      });
}

-- ---- lists

module _ {A : Type 0} (reader : Reader A) (text : A → List ℕ) (P : A → Type 0) (codec : Codec reader text P) where
  many_complete : (xs : List A) (rest : List ℕ) → AllByRecursion P xs → many reader (length xs) (flat_map text xs ++ rest) ≡ Ok (xs, rest)
  unfolding many
  many_complete [] rest each = refl
  many_complete (x ∷ xs) rest each =
      first codec x (flat_map text xs) rest _ each.0 ∙ ap (λ (v : Read (List A)). v >>= λ (others : List A × List ℕ). Ok (x ∷ others.0, others.1)) (many_complete xs rest each.1)

  pub record AreSoMany (n : ℕ) (xs : List A) : Type 0 where
    pub each : AllByRecursion P xs
    pub number : length xs ≡ n

  many_sound : (n : ℕ) (bytes : List ℕ) (xs : List A) (rest : List ℕ) → AreBytes bytes → many reader n bytes ≡ Ok (xs, rest) → Was (AreSoMany n) (flat_map text) bytes xs rest
  unfolding many
  many_sound zero bytes xs rest are e =
      let p : List A × List ℕ = ([], bytes) in
      let q : List A × List ℕ = (xs, rest) in
      let same : p ≡ q = one_ok p q e in
      same_pair (AreSoMany 0) (flat_map text) bytes p q same (record { is = record { each = tt; number = refl }; text_is = refl; are = are })
  many_sound (suc n) bytes xs rest are e =
      let f = from_bind (λ (x : A × List ℕ). many reader n x.1 >>= λ (others : List A × List ℕ). Ok (x.0 ∷ others.0, others.1)) (reader bytes) (xs, rest) e in
      let g = from_bind (λ (others : List A × List ℕ). Ok (f.0.0 ∷ others.0, others.1)) (many reader n f.0.1) (xs, rest) f.2 in
      let was = codec.sound bytes f.0.0 f.0.1 are f.1 in
      let more = many_sound n f.0.1 g.0.0 g.0.1 was.are g.1 in
      let p : List A × List ℕ = (f.0.0 ∷ g.0.0, g.0.1) in
      let q : List A × List ℕ = (xs, rest) in
      same_pair (AreSoMany (suc n)) (flat_map text) bytes p q (one_ok p q g.2)
      (record {
        is = record { each = (was.is, more.is.each); number = ap suc more.is.number };
        text_is = in_row bytes (text f.0.0) f.0.1 (flat_map text g.0.0) g.0.1 was.text_is more.text_is;
        are = more.are;
      })

  pub so_many : (n : ℕ) → Codec (many reader n) (flat_map text) (AreSoMany n)
  so_many n = record {
    complete = λ xs rest is. ap (λ k. many reader k (flat_map text xs ++ rest)) (sym is.number) ∙ many_complete xs rest is.each;
    sound = many_sound n;
  }

  -- a list that says how many items it has
  pub record AreCounted (least most : ℕ) (xs : List A) : Type 0 where
    pub each : AllByRecursion P xs
    pub count : IsCount least most (length xs)
