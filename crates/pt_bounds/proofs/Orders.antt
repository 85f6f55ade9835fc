-- The orders of bounds and of tuples are total, and none but equal ones tie.
use Rattle.std.proofs.Common.{◌≡◌, ℕ, List, refl, ap, subst}
use Rattle.std.specs.declared.cmp.Ordering.{Ordering}
use Rattle.std.specs.declared.cmp.Ordering.TheVariants.{Equal}
use Rattle.std.specs.Ordering.{nat_cmp, on, then_cmp}
use Rattle.std.specs.Cmp.{IsTotalOrder, then_total, on_total, nat_cmp_total}
use Rattle.std.specs.Cmp.Lexicographic.{lists_total}
use Rattle.std.specs.FinMap.{slice_cmp-IsAntisymmetric}
use Rattle.pt_value.specs.Value.{value_cmp, value_cmp_total}
use Rattle.pt_value.specs.declared.value.Value.{Value}
use Rattle.pt_value.specs.declared.value.Value.TheVariants.{Null}
use Rattle.pt_value.proofs.Order.{value_cmp-Equal}
use Rattle.pt_ast.specs.declared.table.Bound.{Bound}
use Rattle.pt_ast.specs.declared.table.Bound.TheVariants.{Val, Max}
use Rattle.pt_ast.specs.Bounds.{bound_cmp, tuple_cmp}

abbrev rank : Bound → ℕ
rank (Val value) = 0
rank Max = 1

abbrev value_in : Bound → Value
value_in (Val value) = value
value_in Max = Null

abbrev by_rank : Bound → Bound → Ordering
by_rank = then_cmp (on rank nat_cmp) (on value_in value_cmp)

by_rank-is : (a b : Bound) → by_rank a b ≡ bound_cmp a b
unfolding value_cmp
by_rank-is (Val a) (Val b) = refl
by_rank-is (Val a) Max = refl
by_rank-is Max (Val b) = refl
by_rank-is Max Max = refl

pub bound_cmp_total : IsTotalOrder bound_cmp
bound_cmp_total = subst IsTotalOrder (λ i a b. by_rank-is a b i) (then_total (on_total rank nat_cmp_total) (on_total value_in value_cmp_total))

pub tuple_cmp_total : IsTotalOrder tuple_cmp
tuple_cmp_total = lists_total bound_cmp_total

bound_cmp-Equal : (a b : Bound) → bound_cmp a b ≡ Equal → a ≡ b
bound_cmp-Equal (Val a) (Val b) tie = ap Val (value_cmp-Equal a b tie)
bound_cmp-Equal (Val a) Max tie = cc
bound_cmp-Equal Max (Val b) tie = cc
bound_cmp-Equal Max Max tie = refl

pub tuple_cmp-Equal : (a b : List Bound) → tuple_cmp a b ≡ Equal → a ≡ b
tuple_cmp-Equal a b tie = slice_cmp-IsAntisymmetric bound_cmp-Equal a b tie
