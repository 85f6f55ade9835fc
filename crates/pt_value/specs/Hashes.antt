-- Which of n partitions, counted from 0, a number or a key goes to. MySQL 5.7 manual, section 22.2.4, "HASH Partitioning";
-- section 22.2.4.1, "LINEAR HASH Partitioning"; section 22.2.5, "KEY Partitioning"; and section 22.2.7, "How MySQL Partitioning
-- Handles NULL". The manual leaves open what becomes of negative numbers, and KEY's function: these are this project's.
use Rattle.std.specs.Prelude.{◌≡◌, ℕ, zero, suc, ◌+◌, ◌-◌, ◌*◌, ◌/◌, ◌%◌, ◌^◌, ◌<◌, ◌≤◌, Bool, nat_lt, nat_le, if◌then◌else◌, ℤ, pos, ◌+ℤ◌, ◌*ℤ◌, unsigned_abs, bit_xor, List, Option, Some, None}
use Rattle.std.specs.Int.{int_rem_euclid}
use Rattle.std.specs.List.{fold}
use Rattle.pt_value.specs.declared.value.Value.{Value}
use Rattle.pt_value.specs.declared.value.Value.TheVariants.{Null, Int, Day, Bytes}

-- NULL counts as 0
abbrev pub counted : Option ℤ → ℤ
counted None = pos 0
counted (Some number) = number

-- HASH: the absolute value modulo n
abbrev pub hash_part : Option ℤ → ℕ → ℕ
hash_part value n = unsigned_abs (counted value) % n

-- r is the residue of a number modulo m: it lies below m, and a multiple of m away from the number
pub record IsResidue (number : ℤ) (m r : ℕ) : Type 0 where
  pub below : r < m
  pub apart : (q : ℤ) × (number ≡ q *ℤ pos m +ℤ pos r)

-- the one that is so, which is never negative: that of -7 modulo 8 is 1
abbrev pub residue : ℤ → ℕ → ℕ
residue number m = unsigned_abs (int_rem_euclid number (pos m))

-- p is the least power of two that is at least n
pub record IsLeastPower (n p : ℕ) : Type 0 where
  pub power : (k : ℕ) × (p ≡ 2 ^ k)
  pub reaches : n ≤ p
  pub least : (k : ℕ) → n ≤ 2 ^ k → p ≤ 2 ^ k

-- the one that is so, told from n - 1: the same power again where it is at least n, and else the next one
unfoldable pub least_power : ℕ → ℕ
least_power zero = 1
least_power (suc n) = if nat_lt n (least_power n) then least_power n else 2 * least_power n

-- LINEAR HASH: the residue modulo the least power of two that is at least n, where that is below n, and else modulo the power
-- before it
abbrev pub linear_part : Option ℤ → ℕ → ℕ
linear_part value n =
    let part = residue (counted value) (least_power n) in
    if nat_lt part n then part else residue (counted value) (least_power n / 2)

-- p is the greatest power of two that is at most n
pub record IsGreatestPower (n p : ℕ) : Type 0 where
  pub power : (k : ℕ) × (p ≡ 2 ^ k)
  pub reached : p ≤ n
  pub greatest : (k : ℕ) → 2 ^ k ≤ n → 2 ^ k ≤ p

-- the one that is so, told from n - 1: the next power where that is at most n, and else the same again
unfoldable pub greatest_power : ℕ → ℕ
greatest_power zero = 1
greatest_power (suc n) = if nat_le (2 * greatest_power n) (suc n) then 2 * greatest_power n else greatest_power n

-- the partition that values leave where n partitions become n + 1 under LINEAR HASH
abbrev pub split_source : ℕ → ℕ
split_source n = n - greatest_power n

-- FNV-1a of 64 bits: exclusive or with the byte, then times the prime, modulo 2^64
abbrev pub fnv_step : ℕ → ℕ → ℕ
fnv_step hash byte = (bit_xor hash byte * 1_099_511_628_211) % 2 ^ 64

-- over bytes, from the basis on
abbrev pub fnv : List ℕ → ℕ
fnv bytes = fold fnv_step 14_695_981_039_346_656_037 bytes

-- A column's number: 0 for NULL, an integer in two's complement of 64 bits, the days of a date from 0000-01-01 on (TO_DAYS), and a
-- byte string by FNV-1a
abbrev pub key_number : Value → ℕ
key_number Null = 0
key_number (Int number) = residue number (2 ^ 64)
key_number (Day day) = residue (day +ℤ pos 719_528) (2 ^ 64)
key_number (Bytes bytes) = fnv bytes

-- the number of the columns so far, and one column more
abbrev pub key_step : ℕ → Value → ℕ
key_step before value = (before * 31 + key_number value) % 2 ^ 64

-- the key number of columns: each one in turn, from 0
abbrev pub key_of : List Value → ℕ
key_of values = fold key_step 0 values

-- KEY and LINEAR KEY: the same two rules on the key number
abbrev pub key_part : ℕ → ℕ → Bool → ℕ
key_part number n linear = if linear then linear_part (Some (pos number)) n else hash_part (Some (pos number)) n
