-- Values that tie are one value.
use Rattle.std.proofs.Common.{◌≡◌, refl, ap}
use Rattle.std.specs.declared.cmp.Ordering.{Ordering}
use Rattle.std.specs.declared.cmp.Ordering.TheVariants.{Less, Equal, Greater}
use Rattle.std.specs.Ordering.{int_cmp, ordering_then}
use Rattle.std.specs.FinMap.{int_cmp-IsAntisymmetric, nat_cmp-IsAntisymmetric, slice_cmp-IsAntisymmetric}
use Rattle.pt_value.specs.Value.{value_cmp}
use Rattle.pt_value.specs.declared.value.Value.{Value}
use Rattle.pt_value.specs.declared.value.Value.TheVariants.{Null, Int, Day, Bytes}

then_first : (o p : Ordering) → ordering_then o p ≡ Equal → o ≡ Equal
then_first Less p tie = cc
then_first Equal p tie = refl
then_first Greater p tie = cc

pub value_cmp-Equal : (a b : Value) → value_cmp a b ≡ Equal → a ≡ b
unfolding value_cmp
value_cmp-Equal Null Null tie = refl
value_cmp-Equal Null (Int n) tie = cc
value_cmp-Equal Null (Day n) tie = cc
value_cmp-Equal Null (Bytes n) tie = cc
value_cmp-Equal (Int n) Null tie = cc
value_cmp-Equal (Int n) (Int m) tie = ap Int (int_cmp-IsAntisymmetric n m (then_first (int_cmp n m) Equal tie))
value_cmp-Equal (Int n) (Day m) tie = cc
value_cmp-Equal (Int n) (Bytes m) tie = cc
value_cmp-Equal (Day n) Null tie = cc
value_cmp-Equal (Day n) (Int m) tie = cc
value_cmp-Equal (Day n) (Day m) tie = ap Day (int_cmp-IsAntisymmetric n m (then_first (int_cmp n m) Equal tie))
value_cmp-Equal (Day n) (Bytes m) tie = cc
value_cmp-Equal (Bytes n) Null tie = cc
value_cmp-Equal (Bytes n) (Int m) tie = cc
value_cmp-Equal (Bytes n) (Day m) tie = cc
value_cmp-Equal (Bytes n) (Bytes m) tie = ap Bytes (slice_cmp-IsAntisymmetric nat_cmp-IsAntisymmetric n m tie)
