use Rattle.std.proofs.Common.{arith}
use Rattle.std.proofs.lemmas.Int.{ints}
use Rattle.pt_place.proofs.fitting.int_in_range.Goals as goal

pub returns-in-BigInt : goal.returns-in-BigInt
returns-in-BigInt c = grind (arith, ints, c.ranges.n)
