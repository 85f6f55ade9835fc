-- What the value of a well-typed expression is.
use Rattle.std.specs.Prelude.{◌<◌, ◌^◌, unsigned_abs}
use Rattle.pt_value.specs.Fits.{FitsDate}
use Rattle.pt_value.specs.declared.value.Value.{Value}
use Rattle.pt_value.specs.declared.value.Value.TheVariants as value
use Rattle.pt_expr.specs.declared.kind.ExprKind.{ExprKind}
use Rattle.pt_expr.specs.declared.kind.ExprKind.TheVariants.{Wide, Day, Bytes}

-- NULL, or else by its kind a number that is nearer to 0 than 2^126, a day that fits DATE, or bytes
abbrev pub HasKind : ExprKind → Value → Type 0
HasKind kind value.Null = Unit {0}
HasKind Wide (value.Int n) = unsigned_abs n < 2 ^ 126
HasKind Day (value.Day day) = FitsDate day
HasKind Bytes (value.Bytes bytes) = Unit {0}
HasKind kind other = ⊥
