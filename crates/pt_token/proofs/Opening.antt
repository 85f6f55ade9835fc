-- The machine leaves what `/*` opens at its end. It counts the digits behind `/*!` by a number with a 1 before them.
use Rattle.std.proofs.Common.{◌≡◌, inl, inr, ℕ, zero, suc, ◌+◌, ◌*◌, ◌-◌, ◌≤◌, ◌<◌, cond, Bool, true, false, List, [], ◌∷◌, length, drop, Option, Some, None, refl, ap, ◌∙◌, sym, subst, arith}
use Rattle.std.specs.Prelude.{◌==◌, ◌&&◌, ◌||◌, nat_le, nat_lt}
use Rattle.std.specs.List.{fold}
use Rattle.std.specs.Option.{option_map}
use Rattle.std.proofs.lemmas.Bool.{cases_Bool, eqb-true, false≢true, and_parts, leb-true, le-leb, lt-leb, leb-false, le-ltb, lt-ltb, ne_eqb}
use Rattle.std.proofs.Math.Dec.{eqb-zero-suc, eqb-suc-zero, eqb-suc-suc}
use Rattle.std.proofs.lemmas.List.Sums.{take_while-cons}
use Rattle.pt_token.specs.declared.bytes.Class.TheVariants.{Digit}
use Rattle.pt_token.specs.declared.state.State.{State}
use Rattle.pt_token.specs.declared.state.State.TheVariants.{Opened, Block, Star, Version, Read}
use Rattle.pt_token.specs.declared.comment.Comment.TheVariants.{Plain as Skipped, Read as IsRead, Malformed}
use Rattle.pt_token.specs.Bytes.{digits_number, is_digit, is_in, front}
use Rattle.pt_token.specs.Machine.{closing, is_plain, from_block, from_read}
use Rattle.pt_token.specs.Ends.{comment_end}
use Rattle.pt_token.specs.Gap.{opened_end, kind, end_of, by_digits}
use Rattle.pt_token.specs.Laws.{IsLeftAtEnds}
use Rattle.pt_token.proofs.Loops.{moved-zero, suc-moved}
use Rattle.pt_token.proofs.Ending.{line-ends, quote-ends, comment-ends, read-behind, read-ends}

-- The least and the greatest number that a version is, once so many more digits are read.
abbrev least : ℕ → ℕ → ℕ
least zero version = version
least (suc more) version = least more (10 * version)

abbrev greatest : ℕ → ℕ → ℕ
greatest zero version = version
greatest (suc more) version = greatest more (10 * version + 9)

least-up : (more v w : ℕ) → v ≤ w → least more v ≤ least more w
least-up zero v w h = h
least-up (suc more) v w h = least-up more (10 * v) (10 * w) (omega arith)

greatest-up : (more v w : ℕ) → v ≤ w → greatest more v ≤ greatest more w
greatest-up zero v w h = h
greatest-up (suc more) v w h = greatest-up more (10 * v + 9) (10 * w + 9) (omega arith)

greatest_above : (more v : ℕ) → v ≤ greatest more v
greatest_above zero v = omega arith
greatest_above (suc more) v = omega (arith, greatest_above more (10 * v + 9))

-- a 1 and digits, of which so many more make five
record IsVersion (more version : ℕ) : Type 0 where
  some : 1 ≤ version
  low : 100000 ≤ least more version
  high : greatest more version < 200000

digit_most : (b : ℕ) → is_digit b ≡ true → b - 48 ≤ 9
digit_most b digit = omega (arith, leb-true b 57 (and_parts (nat_le 48 b) (nat_le b 57) digit).1)

one_more : (more version b : ℕ) → is_digit b ≡ true → IsVersion (suc more) version → IsVersion more (10 * version + (b - 48))
one_more more version b digit h = record {
  some = omega (arith, h.some);
  low = omega (arith, h.low, least-up more (10 * version) (10 * version + (b - 48)) (omega arith));
  high = omega (arith, h.high, greatest-up more (10 * version + (b - 48)) (10 * version + 9) (omega (arith, digit_most b digit)));
}

-- fewer than five digits so far
few : (more version : ℕ) → IsVersion (suc more) version → version < 100000
few more version h = omega (arith, h.high, greatest_above more (10 * version + 9))

abbrev shifted : ℕ → List ℕ → ℕ
shifted version ds = fold (λ n d. 10 * n + (d - 48)) version ds

-- whether the comment is read, by the digits that come
abbrev is-read : ℕ → ℕ → List ℕ → Bool
is-read more version ds = (version == 1 && length ds == 0) || (length ds == more && nat_le (shifted version ds) 150799)

abbrev behind-digits : Bool → ℕ → List ℕ → Option ℕ
behind-digits true n bytes = read-behind bytes n
behind-digits false n bytes = closing Block bytes

none_left : (read : Bool) → None ≡ behind-digits read 0 []
unfolding closing
none_left true = refl
none_left false = refl

-- behind a byte
abbrev after : State → List ℕ → Option ℕ
after s bytes = cond (is_plain s) (Some 1) (option_map suc (closing s bytes))

block-byte : (b : ℕ) (bytes : List ℕ) → (b == 42) ≡ false → option_map suc (closing Block bytes) ≡ closing Block (b ∷ bytes)
unfolding closing
block-byte b bytes other = ap (λ v. after (cond v Star Block) bytes) (sym other)

suc-digits : (read : Bool) (n b : ℕ) (bytes : List ℕ) → (b == 42) ≡ false → option_map suc (behind-digits read n bytes) ≡ behind-digits read (suc n) (b ∷ bytes)
suc-digits true n b bytes other = suc-moved n (closing Read (drop n bytes))
suc-digits false n b bytes other = block-byte b bytes other

-- Where no digit comes, five were read or not.
enough : (more version : ℕ) → IsVersion more version → nat_le 100000 version ≡ (0 == more)
enough zero version h = le-leb 100000 version h.low
enough (suc more) version h = lt-leb 100000 version (few more version h) ∙ sym (eqb-zero-suc more)

no_digits : (one five most : Bool) → (one || (five && most)) ≡ ((one && true) || (five && most))
no_digits true five most = refl
no_digits false five most = refl

either-byte : (read : Bool) (b : ℕ) (bytes : List ℕ) → after (cond read (from_read b) (from_block b)) bytes ≡ behind-digits read 0 (b ∷ bytes)
unfolding closing
either-byte true b bytes = moved-zero (closing Read (b ∷ bytes))
either-byte false b bytes = refl

version-other : (b : ℕ) (bytes : List ℕ) (more version : ℕ) → is_digit b ≡ false → IsVersion more version
    → closing (Version version) (b ∷ bytes) ≡ behind-digits (is-read more version []) 0 (b ∷ bytes)
unfolding closing
version-other b bytes more version other h =
    ap (λ v. after (cond v (cond (nat_lt version 100000) (Version (10 * version + (b - 48))) Block) (cond (version == 1 || (nat_le 100000 version && nat_le version 150799)) (from_read b) (from_block b))) bytes) other
    ∙ either-byte (version == 1 || (nat_le 100000 version && nat_le version 150799)) b bytes
    ∙ ap (λ v. behind-digits (version == 1 || (v && nat_le version 150799)) 0 (b ∷ bytes)) (enough more version h)
    ∙ ap (λ v. behind-digits v 0 (b ∷ bytes)) (no_digits (version == 1) (0 == more) (nat_le version 150799))

no_star_digit : (b : ℕ) → is_digit b ≡ true → (b == 42) ≡ false
no_star_digit b digit = elim (cases_Bool (b == 42)) [
  | inl star ↦ absurd (false≢true (subst (λ n. is_digit n ≡ true) (eqb-true b 42 star) digit))
  | inr other ↦ other
]

-- a digit more, where five may come or more than five did
some_digits : (one more : Bool) → ((one && false) || more) ≡ more
some_digits true more = refl
some_digits false more = refl

digit-test : (n version : ℕ) (more : Bool) → ((version == 1 && suc n == 0) || more) ≡ more
digit-test n version more = ap (λ v. (version == 1 && v) || more) (eqb-suc-zero n) ∙ some_digits (version == 1) more

many-test : (version b : ℕ) (ds : List ℕ) → is-read zero version (b ∷ ds) ≡ false
many-test version b ds = digit-test (length ds) version (suc (length ds) == 0 && nat_le (shifted version (b ∷ ds)) 150799)
    ∙ ap (λ v. v && nat_le (shifted version (b ∷ ds)) 150799) (eqb-suc-zero (length ds))

more-test : (more version b : ℕ) (ds : List ℕ) → 1 ≤ version → is-read more (10 * version + (b - 48)) ds ≡ is-read (suc more) version (b ∷ ds)
more-test more version b ds some =
    ap (λ v. (v && length ds == 0) || (length ds == more && nat_le (shifted version (b ∷ ds)) 150799)) (ne_eqb (10 * version + (b - 48)) 1 (λ e. omega (arith, e)))
    ∙ ap (λ v. v && nat_le (shifted version (b ∷ ds)) 150799) (sym (eqb-suc-suc (length ds) more))
    ∙ sym (digit-test (length ds) version (suc (length ds) == suc more && nat_le (shifted version (b ∷ ds)) 150799))

digit-byte : (b : ℕ) (bytes : List ℕ) (version : ℕ) (v : Bool) → is_digit b ≡ true → nat_lt version 100000 ≡ v
    → closing (Version version) (b ∷ bytes) ≡ option_map suc (closing (cond v (Version (10 * version + (b - 48))) Block) bytes)
unfolding closing
digit-byte b bytes version v digit e =
    ap (λ v. after (cond v (cond (nat_lt version 100000) (Version (10 * version + (b - 48))) Block) (cond (version == 1 || (nat_le 100000 version && nat_le version 150799)) (from_read b) (from_block b))) bytes) digit
    ∙ ap (λ v. after (cond v (Version (10 * version + (b - 48))) Block) bytes) e
    ∙ elim v as (λ v. after (cond v (Version (10 * version + (b - 48))) Block) bytes ≡ option_map suc (closing (cond v (Version (10 * version + (b - 48))) Block) bytes)) [ true ↦ refl | false ↦ refl ]

version-digit : (b : ℕ) (bytes : List ℕ) (more version : ℕ) → is_digit b ≡ true → IsVersion more version
    → ((less : ℕ) → IsVersion less (10 * version + (b - 48))
    → closing (Version (10 * version + (b - 48))) bytes ≡ behind-digits (is-read less (10 * version + (b - 48)) (front Digit bytes)) (length (front Digit bytes)) bytes)
    → closing (Version version) (b ∷ bytes) ≡ behind-digits (is-read more version (b ∷ front Digit bytes)) (suc (length (front Digit bytes))) (b ∷ bytes)
version-digit b bytes zero version digit h behind =
    digit-byte b bytes version false digit (le-ltb version 100000 h.low)
    ∙ block-byte b bytes (no_star_digit b digit)
    ∙ ap (λ v. behind-digits v (suc (length (front Digit bytes))) (b ∷ bytes)) (sym (many-test version b (front Digit bytes)))
version-digit b bytes (suc more) version digit h behind =
    digit-byte b bytes version true digit (lt-ltb version 100000 (few more version h))
    ∙ ap (option_map suc) (behind more (one_more more version b digit h))
    ∙ suc-digits (is-read more (10 * version + (b - 48)) (front Digit bytes)) (length (front Digit bytes)) b bytes (no_star_digit b digit)
    ∙ ap (λ v. behind-digits v (suc (length (front Digit bytes))) (b ∷ bytes)) (more-test more version b (front Digit bytes) h.some)

-- the digits at the front, by the first byte
front-byte : (b : ℕ) (bytes : List ℕ) (v : Bool) → is_digit b ≡ v → front Digit (b ∷ bytes) ≡ cond v (b ∷ front Digit bytes) []
front-byte b bytes v e = take_while-cons (is_in Digit) b bytes ∙ ap (λ v. cond v (b ∷ front Digit bytes) []) e

version-ends : (bytes : List ℕ) (more version : ℕ) → IsVersion more version
    → closing (Version version) bytes ≡ behind-digits (is-read more version (front Digit bytes)) (length (front Digit bytes)) bytes
unfolding closing
version-ends [] more version h = none_left (is-read more version [])
version-ends (b ∷ bytes) more version h = elim (cases_Bool (is_digit b)) [
  | inl digit ↦ version-digit b bytes more version digit h (λ less. version-ends bytes less (10 * version + (b - 48)))
      ∙ ap (λ ds. behind-digits (is-read more version ds) (length ds) (b ∷ bytes)) (sym (front-byte b bytes true digit))
  | inr other ↦ version-other b bytes more version other h
      ∙ ap (λ ds. behind-digits (is-read more version ds) (length ds) (b ∷ bytes)) (sym (front-byte b bytes false other))
]

-- The 1 before five digits adds 100000.
shifted-sum : (ds : List ℕ) (a n : ℕ) → shifted (a + n) ds ≡ least (length ds) a + shifted n ds
shifted-sum [] a n = refl
shifted-sum (d ∷ ds) a n =
    let same : 10 * (a + n) + (d - 48) ≡ 10 * a + (10 * n + (d - 48)) = omega arith in
    ap (λ k. shifted k ds) same ∙ shifted-sum ds (10 * a) (10 * n + (d - 48))

limit : (k : ℕ) → nat_le (100000 + k) 150799 ≡ nat_le k 50799
limit k = elim (cases_Bool (nat_le k 50799)) [
  | inl e ↦ le-leb (100000 + k) 150799 (omega (arith, leb-true k 50799 e)) ∙ sym e
  | inr e ↦ lt-leb (100000 + k) 150799 (omega (arith, leb-false k 50799 e)) ∙ sym e
]

five-test : (ds : List ℕ) → length ds ≡ 5 → nat_le (shifted 1 ds) 150799 ≡ nat_le (digits_number ds) 50799
five-test ds five =
    let sum : shifted 1 ds ≡ 100000 + digits_number ds = shifted-sum ds 1 0 ∙ ap (λ k. least k 1 + digits_number ds) five in
    ap (λ k. nat_le k 150799) sum ∙ limit (digits_number ds)

-- the end by what the digits say
skipped : (b : ℕ) (bytes : List ℕ) → (b == 42) ≡ false → option_map suc (closing Block bytes) ≡ comment_end (b ∷ bytes)
skipped b bytes other = block-byte b bytes other ∙ comment-ends (b ∷ bytes)

five-ends : (read : Bool) (n b : ℕ) (bytes : List ℕ) → (b == 42) ≡ false → n ≡ 5 → option_map suc (behind-digits read n bytes) ≡ end_of (cond read (IsRead 6) Skipped) (b ∷ bytes)
five-ends true n b bytes other five = ap (λ k. option_map suc (read-behind bytes k)) five ∙ ap (option_map suc) (sym (read-ends bytes 5))
five-ends false n b bytes other five = skipped b bytes other

digits-end : (b : ℕ) (bytes ds : List ℕ) → (b == 42) ≡ false → option_map suc (behind-digits (is-read 5 1 ds) (length ds) bytes) ≡ end_of (by_digits ds) (b ∷ bytes)
digits-end b bytes ds other = elim (cases_Bool (length ds == 0)) [
  | inl none ↦ ap (λ v. option_map suc (behind-digits (v || (length ds == 5 && nat_le (shifted 1 ds) 150799)) (length ds) bytes)) none
      ∙ ap (λ k. option_map suc (read-behind bytes k)) (eqb-true (length ds) 0 none)
      ∙ ap (option_map suc) (sym (read-ends bytes 0))
      ∙ ap (λ v. end_of (cond v (IsRead 1) (cond (length ds == 5) (cond (nat_le (digits_number ds) 50799) (IsRead 6) Skipped) Malformed)) (b ∷ bytes)) (sym none)
  | inr some ↦ ap (λ v. option_map suc (behind-digits (v || (length ds == 5 && nat_le (shifted 1 ds) 150799)) (length ds) bytes)) some
      ∙ elim (cases_Bool (length ds == 5)) [
        | inl five ↦ ap (λ v. option_map suc (behind-digits (v && nat_le (shifted 1 ds) 150799) (length ds) bytes)) five
            ∙ ap (λ v. option_map suc (behind-digits v (length ds) bytes)) (five-test ds (eqb-true (length ds) 5 five))
            ∙ five-ends (nat_le (digits_number ds) 50799) (length ds) b bytes other (eqb-true (length ds) 5 five)
            ∙ ap (λ v. end_of (cond v (cond (nat_le (digits_number ds) 50799) (IsRead 6) Skipped) Malformed) (b ∷ bytes)) (sym five)
        | inr more ↦ ap (λ v. option_map suc (behind-digits (v && nat_le (shifted 1 ds) 150799) (length ds) bytes)) more
            ∙ skipped b bytes other
            ∙ ap (λ v. end_of (cond v (cond (nat_le (digits_number ds) 50799) (IsRead 6) Skipped) Malformed) (b ∷ bytes)) (sym more)
      ]
      ∙ ap (λ v. end_of (cond v (IsRead 1) (cond (length ds == 5) (cond (nat_le (digits_number ds) 50799) (IsRead 6) Skipped) Malformed)) (b ∷ bytes)) (sym some)
]

first_digit : IsVersion 5 1
first_digit = record { some = omega arith; low = omega arith; high = omega arith }

no_star_bang : (b : ℕ) → (b == 33) ≡ true → (b == 42) ≡ false
no_star_bang b bang = ap (λ n. n == 42) (eqb-true b 33 bang)

pub opened-ends : (bytes : List ℕ) → closing Opened bytes ≡ opened_end bytes
unfolding closing opened_end kind
opened-ends [] = refl
opened-ends (b ∷ bytes) = elim (cases_Bool (b == 33)) [
  | inl bang ↦ ap (λ v. after (cond v (Version 1) (from_block b)) bytes) bang
      ∙ ap (option_map suc) (version-ends bytes 5 1 first_digit)
      ∙ digits-end b bytes (front Digit bytes) (no_star_bang b bang)
      ∙ ap (λ v. end_of (cond v (by_digits (front Digit bytes)) Skipped) (b ∷ bytes)) (sym bang)
  | inr other ↦ ap (λ v. after (cond v (Version 1) (from_block b)) bytes) other
      ∙ comment-ends (b ∷ bytes)
      ∙ ap (λ v. end_of (cond v (by_digits (front Digit bytes)) Skipped) (b ∷ bytes)) (sym other)
]

pub left_at_ends : (bytes : List ℕ) → IsLeftAtEnds bytes
left_at_ends bytes = record {
  line = line-ends bytes;
  quote = λ mark. quote-ends mark false bytes;
  comment = comment-ends bytes;
  read = moved-zero (closing Read bytes) ∙ sym (read-ends bytes zero);
  opened = opened-ends bytes;
}
