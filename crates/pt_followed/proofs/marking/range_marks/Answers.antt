use Rattle.std.proofs.Common.{map}
use Rattle.pt_ast.specs.Ranges.{bound_of}
use Rattle.pt_followed.specs.Steps.{IsMet}
use Rattle.pt_followed.proofs.Counting.{one_marked}
use Rattle.pt_followed.proofs.marking.range_marks.Goals as goal

pub loop-at-preserved : goal.loop-at-preserved
loop-at-preserved c =
    one_marked (IsMet c.args.sets.now (map bound_of c.args.parts.now)) c.loop-at.marks.items c.loop-at.at c.in_ok-mark.mark c.loop-at.invariant c.in_ok-mark.ensures c.push.new.self.items c.in_ok-push.ensures.items
