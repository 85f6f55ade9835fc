-- What the definitions come to. Each is proved.
use Rattle.std.specs.Prelude.{◌≡◌, ℕ, ◌+◌, ◌*◌, ◌^◌, ◌<◌, List, ◌++◌, length}
use Rattle.pt_bytes.specs.Numbers.{number_of, le_bytes, AreBytes}

pub record OneNumber : Type 0 where
  -- n bytes are determined by their number
  pub determined : (a b : List ℕ) → AreBytes a → AreBytes b → length a ≡ length b → number_of a ≡ number_of b → a ≡ b
  -- the bytes of the number of n bytes are these
  pub back : (bytes : List ℕ) → AreBytes bytes → le_bytes (length bytes) (number_of bytes) ≡ bytes
  -- the number of the bytes of a number is it
  pub again : (n number : ℕ) → number < 256 ^ n → number_of (le_bytes n number) ≡ number
  -- so many bytes have a number below 256^n
  pub below : (bytes : List ℕ) → AreBytes bytes → number_of bytes < 256 ^ length bytes
  -- the number of the bytes at the end counts 256^n times, where n are before them
  pub joined : (a b : List ℕ) → number_of (a ++ b) ≡ number_of a + 256 ^ length a * number_of b
