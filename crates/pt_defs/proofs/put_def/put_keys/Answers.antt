use Rattle.pt_defs.specs.Spelling.{key_text}
use Rattle.pt_defs.proofs.Texts.{list_written}
use Rattle.pt_defs.proofs.put_def.put_keys.Goals as goal

pub returns : goal.returns
returns c = list_written c.args.out.now.items _ _ key_text _ _ c.loop-key.key-index c.items-items.ensures c.in_ok-put_count.ensures c.loop-key-test.false c.loop-key.invariant
