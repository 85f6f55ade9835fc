-- What the value of a well-typed expression shows.
use Rattle.pt_value.specs.Text.{CanShow}
use Rattle.pt_value.specs.declared.value.Value.{Value}
use Rattle.pt_value.specs.declared.value.Value.TheVariants as value
use Rattle.pt_expr.specs.declared.kind.ExprKind.{ExprKind}
use Rattle.pt_expr.specs.declared.kind.ExprKind.TheVariants as expr
use Rattle.pt_expr.specs.Kinds.{HasKind}

pub kind_shows : (own : ExprKind) (v : Value) → HasKind own v → CanShow v
kind_shows own value.Null h = tt
kind_shows own (value.Int n) h = tt
kind_shows expr.Any (value.Day day) h = absurd h
kind_shows expr.Wide (value.Day day) h = absurd h
kind_shows expr.Day (value.Day day) h = h
kind_shows expr.Bytes (value.Day day) h = absurd h
kind_shows own (value.Bytes bytes) h = tt
