-- In the shape of the code: constants and parts one by one. Nothing public cites these.
use Rattle.std.specs.Prelude.{◌≡◌, ℕ, Bool, true, false, not, ◌&&◌, ◌||◌, List, Option, Some, None, Result, Ok, Err, length, nat_lt, if◌then◌else◌}
use Rattle.std.specs.List.{list_any}
use Rattle.std.specs.declared.cmp.Ordering.{Ordering}
use Rattle.pt_value.specs.declared.value.Value.{Value}
use Rattle.pt_value.specs.declared.value.Value.TheVariants.{Null}
use Rattle.pt_value.specs.declared.value.Kind.{Kind}
use Rattle.pt_ast.specs.declared.table.Column.{Column}
use Rattle.pt_ast.specs.declared.tree.Cmp.{Cmp}
use Rattle.pt_ast.specs.declared.tree.Cmp.TheVariants as cmp
use Rattle.pt_expr.specs.declared.kind.ExprKind.{ExprKind}
use Rattle.pt_expr.specs.declared.kind.ExprKind.TheVariants as expr
use Rattle.pt_expr.specs.declared.kind.CheckFault.{CheckFault}
use Rattle.pt_place.specs.Fitting.{kind_at}
use Rattle.pt_interval.specs.Spans.{has}
use Rattle.pt_interval.specs.declared.span.Span.{Span}

abbrev pub is_day_found : Result ExprKind CheckFault → Bool
is_day_found (Ok expr.Any) = false
is_day_found (Ok expr.Wide) = false
is_day_found (Ok expr.Day) = true
is_day_found (Ok expr.Bytes) = false
is_day_found (Err fault) = false

-- the comparison with its sides exchanged
abbrev pub mirrored : Cmp → Cmp
mirrored cmp.Eq = cmp.Eq
mirrored cmp.Ne = cmp.Ne
mirrored cmp.Lt = cmp.Gt
mirrored cmp.Le = cmp.Ge
mirrored cmp.Gt = cmp.Lt
mirrored cmp.Ge = cmp.Le

-- one of the sets has the value
abbrev pub has_some : {T : Type 0} → (T → T → Ordering) → List (List (Span T)) → T → Bool
has_some cmp sets v = list_any (λ set. has cmp set v) sets

-- what is gathered so far or in the rest is the whole
pub record IsJoining {T : Type 0} (cmp : T → T → Ordering) (is_value : T → Bool) (value : T → Value) (null : Bool) (sets : List (List (Span T))) (rest whole : Value → Bool) : Type 0 where
  pub nulls : (null || rest Null) ≡ whole Null
  pub others : (v : T) → is_value v ≡ true → (has_some cmp sets v || rest (value v)) ≡ whole (value v)

-- what is in no gap so far and in the rest is the whole
pub record IsMeeting {T : Type 0} (cmp : T → T → Ordering) (is_value : T → Bool) (value : T → Value) (null : Bool) (gaps : List (List (Span T))) (rest whole : Value → Bool) : Type 0 where
  pub nulls : (null && rest Null) ≡ whole Null
  pub others : (v : T) → is_value v ≡ true → (not (has_some cmp gaps v) && rest (value v)) ≡ whole (value v)

-- the kind of the column at a position, if there is one
abbrev pub kind_of : List Column → ℕ → Option Kind
kind_of columns at = if nat_lt at (length columns) then Some (kind_at columns at) else None
