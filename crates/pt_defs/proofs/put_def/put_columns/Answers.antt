use Rattle.pt_defs.specs.Spelling.{column_text}
use Rattle.pt_defs.proofs.Texts.{list_written}
use Rattle.pt_defs.proofs.put_def.put_columns.Goals as goal

pub returns : goal.returns
returns c = list_written c.args.out.now.items _ _ column_text _ _ c.loop-column.column-index c.items-items.ensures c.in_ok-put_count.ensures c.loop-column-test.false c.loop-column.invariant
