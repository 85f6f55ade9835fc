use Rattle.std.proofs.Common.{◌≡◌, take}
use Rattle.pt_actions.proofs.naming.names_among.Given as goal

abbrev pub invariant-loop-name : goal.invariant-loop-name
invariant-loop-name l = l.names ≡ take l.name-index l.listed
