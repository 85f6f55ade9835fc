use Rattle.std.proofs.Common.{◌≡◌, ◌-◌, ◌+◌, ◌++◌, length, take, replicate}
use Rattle.pt_plain.proofs.short.joined.Given as goal

abbrev pub invariant-loop-i : goal.invariant-loop-i
invariant-loop-i g l = l.all ≡ (l.front ++ take l.i l.end) ++ replicate (g.row.N - (length l.front + l.i)) 0
