use Rattle.pt_bytes.specs.Numbers.{le_bytes}
use Rattle.pt_defs.proofs.Texts.{list_written}
use Rattle.pt_defs.proofs.put_item.put_positions.Goals as goal

pub returns : goal.returns
returns c = list_written c.args.out.now.items _ _ (le_bytes 4) _ _ c.loop-number.number-index c.items-items.ensures c.in_ok-put_count.ensures c.loop-number-test.false c.loop-number.invariant
