-- File names: 1 to 160 bytes of ASCII letters, digits, '_', '$', '#' and '.', the first one no '.', so that no call can
-- be made on `.` or `..` or on a path.
use Rattle.std.specs.Prelude.{◌≢◌, ℕ, ◌<◌, ◌≤◌, Bool, ◌&&◌, ◌||◌, ◌==◌, nat_le, List, length, All, slice_index, IsTrue, nat_eq, codes}
use Rattle.std.specs.List.{ends_with}

abbrev pub is_name_byte : ℕ → Bool
is_name_byte b = (nat_le 97 b && nat_le b 122) || (nat_le 65 b && nat_le b 90) || (nat_le 48 b && nat_le b 57) || b == 95 || b == 36 || b == 35 || b == 46

pub record IsName (bytes : List ℕ) : Type 0 where
  pub some : 0 < length bytes
  pub fits : length bytes ≤ 160
  pub each : All (λ b. IsTrue (is_name_byte b)) bytes
  pub first : slice_index bytes 0 ≢ 46

-- the end of a shadow's name
abbrev pub shadow_end : List ℕ
shadow_end = codes ".new"

-- the end of a temporary name
abbrev pub temp_end : List ℕ
temp_end = codes ".swap"

-- A name that ends so is extra: it is no part of what the directory stands for.
abbrev pub is_extra : List ℕ → Bool
is_extra bytes = ends_with nat_eq bytes shadow_end || ends_with nat_eq bytes temp_end
