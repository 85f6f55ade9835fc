use Rattle.std.proofs.Common.{◌≡◌, ◌++◌, take}
use Rattle.pt_actions.proofs.numbering.add_names.Given as goal

abbrev pub invariant-loop-sub : goal.invariant-loop-sub
invariant-loop-sub l = l.names ≡ l.initial.names ++ take l.sub-index l.part.subs
