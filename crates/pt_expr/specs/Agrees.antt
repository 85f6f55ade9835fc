-- For the code of `eval`: what it knows of the value of an expression by what that was found to be. Nothing public cites these.
use Rattle.std.specs.Prelude.{◌≡◌, ℕ, ◌<◌, ◌≤◌, ◌^◌, ℤ, pos, ◌*ℤ◌, int_div, unsigned_abs, FitsSigned, IsSome, Option, Some, None}
use Rattle.std.specs.Int.{w128}
use Rattle.pt_value.specs.Fits.{FitsDate}
use Rattle.pt_value.specs.declared.value.Value.{Value}
use Rattle.pt_value.specs.declared.value.Value.TheVariants as value
use Rattle.pt_ast.specs.declared.tree.Op.{Op}
use Rattle.pt_ast.specs.declared.tree.Op.TheVariants as op
use Rattle.pt_expr.specs.declared.found.Shape.{Shape}
use Rattle.pt_expr.specs.declared.found.Shape.TheVariants as shape
use Rattle.pt_expr.specs.declared.found.Found.{Found}
use Rattle.pt_value.specs.Text.{day_of}

abbrev pub IsNull : Value → Type 0
IsNull value.Null = Unit {0}
IsNull _ = ⊥

-- NULL, or a number no further from 0 than this
abbrev pub IsWithin : ℕ → Value → Type 0
IsWithin bound value.Null = Unit {0}
IsWithin bound (value.Int n) = unsigned_abs n ≤ bound
IsWithin bound _ = ⊥

-- a number this far from 0
abbrev pub IsJust : ℕ → Value → Type 0
IsJust bound (value.Int n) = unsigned_abs n ≡ bound
IsJust bound _ = ⊥

abbrev pub IsDay : Value → Type 0
IsDay value.Null = Unit {0}
IsDay (value.Day day) = FitsDate day
IsDay _ = ⊥

abbrev pub IsDayText : Value → Type 0
IsDayText (value.Bytes bytes) = IsSome (day_of bytes)
IsDayText _ = ⊥

abbrev pub IsBytes : Value → Type 0
IsBytes value.Null = Unit {0}
IsBytes (value.Bytes bytes) = Unit {0}
IsBytes _ = ⊥

abbrev pub AgreesBy : Shape → ℕ → Value → Type 0
AgreesBy shape.Null bound value = IsNull value
AgreesBy shape.Number bound value = IsJust bound value
AgreesBy shape.Signed bound value = IsJust bound value
AgreesBy shape.Wide bound value = IsWithin bound value
AgreesBy shape.Day bound value = IsDay value
AgreesBy shape.DayText bound value = IsDayText value
AgreesBy shape.OtherText bound value = IsBytes value
AgreesBy shape.Bytes bound value = IsBytes value

-- a value that an expression may have which was found to be this
pub record Agrees (found : Found) (value : Value) : Type 0 where
  pub by : AgreesBy found.shape found.bound value
  pub narrow : found.bound < 2 ^ 126

-- a number has 128 bits
abbrev pub FitsWide : Value → Type 0
FitsWide (value.Int n) = FitsSigned w128 n
FitsWide _ = Unit {0}

-- a day fits DATE
abbrev pub FitsDay : Value → Type 0
FitsDay (value.Day day) = FitsDate day
FitsDay _ = Unit {0}

-- the operation doesn't overflow, and DIV and MOD have no divisor 0
abbrev pub CanOperate : Op → ℤ → ℤ → Type 0
CanOperate op.Times a b = FitsSigned w128 (a *ℤ b)
CanOperate op.Div a b = ¬ (b ≡ pos 0) × FitsSigned w128 (int_div a b)
CanOperate op.Mod a b = ¬ (b ≡ pos 0) × FitsSigned w128 (int_div a b)

abbrev pub CanMultiply : Op → Value → Value → Type 0
CanMultiply op (value.Int a) (value.Int b) = CanOperate op a b
CanMultiply op _ _ = Unit {0}

abbrev pub day_in : Value → Option ℤ
day_in (value.Day day) = Some day
day_in _ = None
