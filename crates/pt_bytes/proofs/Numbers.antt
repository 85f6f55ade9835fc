-- Numbers and their bytes, by going from byte to byte.
use Rattle.std.proofs.Common.{◌≡◌, ℕ, zero, suc, ◌+◌, ◌*◌, ◌/◌, ◌%◌, ◌^◌, ◌<◌, List, [], ◌∷◌, ◌++◌, length, refl, sym, ap, ◌∙◌, arith}
use Rattle.std.specs.Int.{byte_at, bytes_low_first}
use Rattle.std.proofs.Math.Nat.{pow-succ', pow-suc, div-one, div-div-eq-div-mul}
use Rattle.std.proofs.lemmas.List.Elements.{All-head, All-tail}
use Rattle.byteorder.specs.Endian.{little_from}
use Rattle.byteorder.specs.Numbers.{little_from-cons}
use Rattle.pt_bytes.specs.Numbers.{number_of, le_bytes, AreBytes}

-- a byte in front of a number, taken away again
low : (byte n : ℕ) → byte < 256 → (byte + 256 * n) % 256 ≡ byte
low byte n lt = omega arith

high : (byte n : ℕ) → byte < 256 → (byte + 256 * n) / 256 ≡ n
high byte n lt = omega arith

pub back : (bytes : List ℕ) → AreBytes bytes → le_bytes (length bytes) (number_of bytes) ≡ bytes
unfolding number_of le_bytes
back [] are = refl
back (byte ∷ bytes) are =
    let first : byte < 256 = All-head (λ b. b < 256) byte bytes are in
    rw (low byte (number_of bytes) first, high byte (number_of bytes) first, back bytes (All-tail (λ b. b < 256) byte bytes are)) refl

pub determined : (a b : List ℕ) → AreBytes a → AreBytes b → length a ≡ length b → number_of a ≡ number_of b → a ≡ b
determined a b is_a is_b long same = sym (back a is_a) ∙ ap (λ n. le_bytes n (number_of a)) long ∙ ap (le_bytes (length b)) same ∙ back b is_b

pub again : (n number : ℕ) → number < 256 ^ n → number_of (le_bytes n number) ≡ number
unfolding number_of le_bytes
again zero number lt = omega arith
again (suc n) number lt =
    let below : number / 256 < 256 ^ n = omega (arith, pow-succ' 256 n) in
    rw (again n (number / 256) below) (omega arith)

pub below : (bytes : List ℕ) → AreBytes bytes → number_of bytes < 256 ^ length bytes
unfolding number_of
below [] are = omega arith
below (byte ∷ bytes) are = omega (arith, All-head (λ b. b < 256) byte bytes are, below bytes (All-tail (λ b. b < 256) byte bytes are), pow-succ' 256 (length bytes))

pub joined : (a b : List ℕ) → number_of (a ++ b) ≡ number_of a + 256 ^ length a * number_of b
unfolding number_of
joined [] b = omega arith
joined (byte ∷ a) b = omega (arith, joined a b, ap (λ k. k * number_of b) (pow-succ' 256 (length a)))

pub length-le_bytes : (n number : ℕ) → length (le_bytes n number) ≡ n
unfolding le_bytes
length-le_bytes zero number = refl
length-le_bytes (suc n) number = ap suc (length-le_bytes n (number / 256))

-- ---- as the kit's crate reads and writes them

pub little_is : (bytes : List ℕ) → little_from 0 (length bytes) bytes ≡ number_of bytes
unfolding number_of
little_is [] = refl
little_is (byte ∷ bytes) = rw (little_from-cons 0 (length bytes) byte bytes, little_is bytes) refl

-- a byte of a number, by its place
byte_at-pow : (i number : ℕ) → byte_at i number ≡ number / 256 ^ i % 256
byte_at-pow zero number = ap (λ n. n % 256) (sym (div-one number))
byte_at-pow (suc i) number = refl

pub low_first_is : (i n number : ℕ) → bytes_low_first i n number ≡ le_bytes n (number / 256 ^ i)
unfolding le_bytes
low_first_is i zero number = refl
low_first_is i (suc n) number =
    let behind : number / 256 ^ suc i ≡ number / 256 ^ i / 256 = ap (λ p. number / p) (pow-suc 256 i) ∙ sym (div-div-eq-div-mul number (256 ^ i) 256) in
    rw (byte_at-pow i number, low_first_is (suc i) n number, behind) refl

pub lowest_is : (n number : ℕ) → bytes_low_first 0 n number ≡ le_bytes n number
lowest_is n number = low_first_is 0 n number ∙ ap (le_bytes n) (div-one number)
