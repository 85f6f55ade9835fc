use Rattle.std.proofs.Common.{◌≡◌, ◌+◌, [], ◌∷◌, ◌++◌, take, get_or, arith}
use Rattle.std.proofs.lemmas.Grind.{common_steps}
use Rattle.pt_engine.proofs.Overwrites.{overwrite-more}
use Rattle.pt_engine.proofs.ending.put.Goals as goal

pub loop-i-preserved : goal.loop-i-preserved
loop-i-preserved c =
    let more : take (c.loop-i.i + 1) c.args.bytes.now ≡ take c.loop-i.i c.args.bytes.now ++ get_or c.args.bytes.now c.loop-i.i 0 ∷ [] = grind (arith, common_steps) in
    rw c.loop-i.invariant (overwrite-more c.args.into.now c.args.bytes.now c.args.at c.loop-i.i _ (omega arith) (omega arith) more)
