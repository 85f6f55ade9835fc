use Rattle.pt_plain.proofs.Padding.{set-padded_end}
use Rattle.std.proofs.Common.{◌≡◌, ◌+◌, ◌∷◌, [], ◌++◌, take, get_or, arith}
use Rattle.std.proofs.lemmas.Grind.{common_steps}
use Rattle.pt_plain.proofs.short.joined.Goals as goal

pub loop-i-preserved : goal.loop-i-preserved
loop-i-preserved g c =
    let more : take (c.loop-i.i + 1) c.args.end.now ≡ take c.loop-i.i c.args.end.now ++ get_or c.args.end.now c.loop-i.i 0 ∷ [] = grind (arith, common_steps) in
    rw c.loop-i.invariant (set-padded_end c.args.front.now c.args.end.now c.loop-i.i g.row.N _ (omega arith) (omega arith) more)
