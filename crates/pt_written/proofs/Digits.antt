-- Integers that digits write, cut beyond each range.
use Rattle.std.proofs.Common.{◌≡◌, ◌⊎◌, inl, inr, ℕ, ◌+◌, ◌-◌, ◌*◌, ◌^◌, ◌≤◌, ℤ, pos, neg_ℤ, min, Bool, true, false, not, ◌==◌, cond, fold, List, [], ◌∷◌, Option, Some, None, refl, sym, ap, ◌∙◌, arith}
use Rattle.std.specs.Option.{option_map, option_map_or}
use Rattle.std.proofs.lemmas.Int.{ints}
use Rattle.pt_value.specs.declared.value.Value.TheVariants as value
use Rattle.pt_value.specs.declared.value.Kind.TheVariants as kind
use Rattle.pt_ast.specs.declared.written.KindSpec.{KindSpec}
use Rattle.pt_ast.specs.declared.written.KindSpec.TheVariants as spec
use Rattle.pt_place.specs.Fitting.{is_in_range}
use Rattle.pt_written.specs.Reading.{cut, cut_step, digit_step, has_room, is_beyond, is_integer, is_text_out, sign, sized}
use Rattle.pt_written.specs.Written.{kind_of, natural_in}

twice-cut : (m n d : ℕ) → min (min n m * 10 + d) m ≡ min (n * 10 + d) m
twice-cut m n d = grind arith

cut-on : (n : ℕ) (bytes : List ℕ) → fold cut_step (cut n) bytes ≡ cut (fold digit_step n bytes)
cut-on n [] = refl
cut-on n (b ∷ bytes) = ap (λ m. fold cut_step m bytes) (twice-cut (2 ^ 64 - 1) n (b - 48)) ∙ cut-on (digit_step n b) bytes

pub cut_last : (n : ℕ) (bytes : List ℕ) → fold cut_step 0 bytes ≡ cut (fold digit_step 0 bytes)
cut_last n bytes = cut-on 0 bytes

cases : (n : ℕ) → (cut n ≡ n) ⊎ ((cut n ≡ 2 ^ 64 - 1) × (2 ^ 64 - 1 ≤ n))
cases n = grind arith

int-plus : (n : ℕ) → 2 ^ 64 - 1 ≤ n → is_in_range kind.Int (value.Int (pos n)) ≡ false
int-plus n e = grind (arith, ints, e)

int-minus : (n : ℕ) → 2 ^ 64 - 1 ≤ n → is_in_range kind.Int (value.Int (neg_ℤ (pos n))) ≡ false
int-minus n e = grind (arith, ints, e)

big-plus : (n : ℕ) → 2 ^ 64 - 1 ≤ n → is_in_range kind.BigInt (value.Int (pos n)) ≡ false
big-plus n e = grind (arith, ints, e)

big-minus : (n : ℕ) → 2 ^ 64 - 1 ≤ n → is_in_range kind.BigInt (value.Int (neg_ℤ (pos n))) ≡ false
big-minus n e = grind (arith, ints, e)

beyond : (written : KindSpec) (minus : Bool) (n : ℕ) → is_integer written ≡ true → 2 ^ 64 - 1 ≤ n → has_room (kind_of written) minus (pos n) ≡ false
beyond spec.Int true n i e = int-minus n e
beyond spec.Int false n i e = int-plus n e
beyond spec.BigInt true n i e = big-minus n e
beyond spec.BigInt false n i e = big-plus n e
beyond spec.Date minus n i e = cc
beyond (spec.Binary most) minus n i e = cc

cut-room : (written : KindSpec) (minus : Bool) (n : ℕ) → is_integer written ≡ true → has_room (kind_of written) minus (pos (cut n)) ≡ has_room (kind_of written) minus (pos n)
cut-room written minus n i = by-cases (cases n)
  where
    by-cases : (cut n ≡ n) ⊎ ((cut n ≡ 2 ^ 64 - 1) × (2 ^ 64 - 1 ≤ n)) → has_room (kind_of written) minus (pos (cut n)) ≡ has_room (kind_of written) minus (pos n)
    by-cases (inl e) = ap (λ m. has_room (kind_of written) minus (pos m)) e
    by-cases (inr e) = ap (λ m. has_room (kind_of written) minus (pos m)) e.0 ∙ beyond written minus (2 ^ 64 - 1) i (omega arith) ∙ sym (beyond written minus n i e.1)

pub first_is : (b c : Bool) (x y : ℤ) → ◌≡◌ {A = Option (Bool × ℤ)} (Some (b, x)) (Some (c, y)) → c ≡ b
first_is b c x y e = sym (ap (λ (found : Option (Bool × ℤ)). option_map_or (λ (own : Bool × ℤ). own.0) found b) e)

pub next_is : (b c : Bool) (x y : ℤ) → ◌≡◌ {A = Option (Bool × ℤ)} (Some (b, x)) (Some (c, y)) → y ≡ x
next_is b c x y e = sym (ap (λ (found : Option (Bool × ℤ)). option_map_or (λ (own : Bool × ℤ). own.1) found x) e)

-- the integer is that of the parts
digits-of : (written : KindSpec) (bytes : List ℕ) (minus-first minus : Bool) (own rest : Option ℕ) (n : ℤ) → is_integer written ≡ true
    → cond minus-first (sign true rest) (sign false own) ≡ Some (minus, n)
    → is_in_range (kind_of written) (option_map_or value.Int (cond minus-first (option_map (λ m. neg_ℤ (pos m)) rest) (option_map pos own)) (value.Bytes bytes)) ≡ has_room (kind_of written) minus n
digits-of written bytes true minus own (Some m) n i e = rw (first_is true minus (pos (cut m)) n e, next_is true minus (pos (cut m)) n e) (sym (cut-room written true m i))
digits-of written bytes true minus own None n i e = cc
digits-of written bytes false minus (Some m) rest n i e = rw (first_is false minus (pos (cut m)) n e, next_is false minus (pos (cut m)) n e) (sym (cut-room written false m i))
digits-of written bytes false minus None rest n i e = cc

digits_out : (written : KindSpec) (bytes : List ℕ) (minus : Bool) (n : ℤ) → is_integer written ≡ true → sized bytes ≡ Some (minus, n) → not (has_room (kind_of written) minus n) ≡ is_text_out written bytes
digits_out written [] minus n i e = cc
digits_out spec.Int (b ∷ bytes) minus n i e = ap not (sym (digits-of spec.Int (b ∷ bytes) (b == 45) minus (natural_in (b ∷ bytes)) (natural_in bytes) n i e))
digits_out spec.BigInt (b ∷ bytes) minus n i e = ap not (sym (digits-of spec.BigInt (b ∷ bytes) (b == 45) minus (natural_in (b ∷ bytes)) (natural_in bytes) n i e))
digits_out spec.Date (b ∷ bytes) minus n i e = cc
digits_out (spec.Binary most) (b ∷ bytes) minus n i e = cc

-- no digits are never too large
no-digits : (written : KindSpec) (bytes : List ℕ) (minus-first : Bool) (own rest : Option ℕ) → is_integer written ≡ true → cond minus-first (sign true rest) (sign false own) ≡ None
    → is_in_range (kind_of written) (option_map_or value.Int (cond minus-first (option_map (λ m. neg_ℤ (pos m)) rest) (option_map pos own)) (value.Bytes bytes)) ≡ true
no-digits spec.Int bytes true own (Some m) i e = cc
no-digits spec.Int bytes true own None i e = refl
no-digits spec.Int bytes false (Some m) rest i e = cc
no-digits spec.Int bytes false None rest i e = refl
no-digits spec.BigInt bytes true own (Some m) i e = cc
no-digits spec.BigInt bytes true own None i e = refl
no-digits spec.BigInt bytes false (Some m) rest i e = cc
no-digits spec.BigInt bytes false None rest i e = refl
no-digits spec.Date bytes minus-first own rest i e = cc
no-digits (spec.Binary most) bytes minus-first own rest i e = cc

none-out : (written : KindSpec) (bytes : List ℕ) → is_integer written ≡ true → sized bytes ≡ None → false ≡ is_text_out written bytes
none-out spec.Int [] i e = refl
none-out spec.BigInt [] i e = refl
none-out spec.Int (b ∷ bytes) i e = ap not (sym (no-digits spec.Int (b ∷ bytes) (b == 45) (natural_in (b ∷ bytes)) (natural_in bytes) i e))
none-out spec.BigInt (b ∷ bytes) i e = ap not (sym (no-digits spec.BigInt (b ∷ bytes) (b == 45) (natural_in (b ∷ bytes)) (natural_in bytes) i e))
none-out spec.Date bytes i e = cc
none-out (spec.Binary most) bytes i e = cc

pub digits_beyond : (written : KindSpec) (bytes : List ℕ) (found : Option (Bool × ℤ)) → is_integer written ≡ true → sized bytes ≡ found → is_beyond written found ≡ is_text_out written bytes
digits_beyond written bytes (Some number) i e = digits_out written bytes number.0 number.1 i e
digits_beyond written bytes None i e = none-out written bytes i e
