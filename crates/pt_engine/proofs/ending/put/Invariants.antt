use Rattle.std.proofs.Common.{◌≡◌, ◌+◌, ◌++◌, take, drop}
use Rattle.pt_engine.proofs.ending.put.Given as goal

abbrev pub invariant-loop-i : goal.invariant-loop-i
invariant-loop-i l = l.into ≡ take l.at l.fn.into ++ take l.i l.bytes ++ drop (l.at + l.i) l.fn.into
