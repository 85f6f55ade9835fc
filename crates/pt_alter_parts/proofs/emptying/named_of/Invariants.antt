use Rattle.std.proofs.Common.{◌≡◌, filter}
use Rattle.pt_checks.specs.Wanted.{is_named_spot}
use Rattle.pt_alter_parts.proofs.emptying.named_of.Given as goal

abbrev pub invariant-loop-own : goal.invariant-loop-own
invariant-loop-own l = l.found ≡ filter (λ given. is_named_spot l.def l.parts given.0) l.yielded
