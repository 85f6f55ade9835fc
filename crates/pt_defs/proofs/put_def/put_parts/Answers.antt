use Rattle.pt_defs.specs.Spelling.{part_text}
use Rattle.pt_defs.proofs.Texts.{list_written}
use Rattle.pt_defs.proofs.put_def.put_parts.Goals as goal

pub returns : goal.returns
returns c = list_written c.args.out.now.items _ _ (part_text c.args.def.now.by c.args.def.now.sub) _ _ c.loop-part.part-index c.items-items.ensures c.in_ok-put_count.ensures c.loop-part-test.false c.loop-part.invariant
