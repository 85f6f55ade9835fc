use Rattle.pt_token.proofs.Loops.{cut_more, run_more}
use Rattle.pt_token.proofs.splitter.next_cut.Goals as goal

pub loop-place-preserved : goal.loop-place-preserved
loop-place-preserved c = record {
  place = rw c.step.ensures (cut_more _ c.loop-place.state c.args.bytes.now c.loop-place.place c.loop-place-test.true c.loop-place.invariant.place cc);
  state = rw c.step.ensures (run_more _ c.loop-place.state c.args.bytes.now c.loop-place.place c.loop-place-test.true c.loop-place.invariant.state);
}
