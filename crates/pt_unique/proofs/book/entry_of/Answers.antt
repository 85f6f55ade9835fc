use Rattle.std.proofs.Common.{rules}
use Rattle.pt_unique.proofs.Entries.{entry_pushed}
use Rattle.pt_unique.proofs.book.entry_of.Goals as goal

pub loop-number-preserved : goal.loop-number-preserved
loop-number-preserved c =
    entry_pushed c.args.keys.now c.args.cells.now c.loop-number.number c.index-keys-number.result c.loop-number.entry c.push.new.self c.in_ok-tuple.tuple (search rules) c.index-keys-number.is
    c.loop-number.invariant (search rules) (search rules)
