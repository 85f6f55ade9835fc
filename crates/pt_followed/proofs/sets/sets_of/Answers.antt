use Rattle.std.proofs.Common.{refl}
use Rattle.std.specs.Option.{option_copied}
use Rattle.pt_followed.proofs.Entered.{sets_more}
use Rattle.pt_followed.proofs.sets.sets_of.Goals as goal

pub loop-number-preserved : goal.loop-number-preserved
loop-number-preserved c =
    sets_more c.args.columns.now c.args.at (option_copied c.args.cond) c.args.numbers.now c.loop-number.number-index _ 0 c.loop-number.sets.items c.push.new.self.items c.in_ok-set.set c.loop-number-test.true refl
    c.loop-number.invariant c.in_ok-set.ensures c.in_ok-push.ensures.items
