use Rattle.pt_defs.specs.Spelling.{name_text}
use Rattle.pt_defs.proofs.Texts.{list_written}
use Rattle.pt_defs.proofs.put_def.put_names.Goals as goal

pub returns : goal.returns
returns c = list_written c.args.out.now.items _ _ name_text _ _ c.loop-name.name-index c.items-items.ensures c.in_ok-put_count.ensures c.loop-name-test.false c.loop-name.invariant
