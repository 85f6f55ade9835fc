-- What a key feeds to a hash, in the order of the code: equal keys feed the same.
use Rattle.std.specs.Prelude.{ℕ, List}
use Rattle.std.specs.Hash as fed
use Rattle.pt_value.specs.declared.value.Value.{Value}
use Rattle.pt_value.specs.declared.value.Value.TheVariants.{Null, Int, Day, Bytes}

abbrev pub value_input : Value → List (List ℕ)
value_input Null = fed.u8 0
value_input (Int n) = fed.i64 n
value_input (Day day) = fed.i32 day
value_input (Bytes bytes) = fed.slice fed.u8 bytes
