-- The day that a text stands for.
use Rattle.std.proofs.Common.{◌≡◌, Option, Some, None, ℤ, refl}
use Rattle.pt_expr.specs.Agrees.{day_in}
use Rattle.pt_expr.specs.Values.{day_or_null}

pub day_in-or_null : (day : Option ℤ) → day_in (day_or_null day) ≡ day
day_in-or_null (Some day) = refl
day_in-or_null None = refl
