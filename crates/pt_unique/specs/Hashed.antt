-- Equal keys feed a hash the same.
use Rattle.std.specs.Prelude.{◌≡◌, true, List, IsTrue}
use Rattle.std.proofs.Common.{ap, refl}
use Rattle.std.specs.Hash as fed
use Rattle.std.specs.Hash.{items_Alike}
use Rattle.std.specs.Ordering.{is_eq, eq_by_cmp}
use Rattle.std.specs.declared.cmp.Ordering.{Ordering}
use Rattle.std.specs.declared.cmp.Ordering.TheVariants.{Less, Equal, Greater}
use Rattle.std.specs.Cmp.Lexicographic.{pointwise}
use Rattle.pt_value.specs.Value.{value_cmp}
use Rattle.pt_value.specs.declared.value.Value.{Value}
use Rattle.pt_value.proofs.Order.{value_cmp-Equal}
use Rattle.pt_unique.specs.Tuple.{value_input}

pub tie : (o : Ordering) → is_eq o ≡ true → o ≡ Equal
tie Less h = cc
tie Equal h = refl
tie Greater h = cc

pub same_value : (a b : Value) → eq_by_cmp value_cmp a b ≡ true → a ≡ b
same_value a b h = value_cmp-Equal a b (tie (value_cmp a b) h)

pub alike_input : (a b : Value) → IsTrue (eq_by_cmp value_cmp a b) → value_input a ≡ value_input b
alike_input a b h = ap value_input (same_value a b h)

pub alike_inputs : (a b : List Value) → IsTrue (pointwise (eq_by_cmp value_cmp) a b) → fed.slice value_input a ≡ fed.slice value_input b
alike_inputs = (items_Alike {E = eq_by_cmp value_cmp} {F = value_input} (record { fed = alike_input })).fed
