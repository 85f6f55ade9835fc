use Rattle.pt_rowfile.proofs.WrittenParts.{text_written}
use Rattle.pt_rowfile.proofs.written.put_text.Goals as goal

pub returns-clause-written : goal.returns-clause-written
returns-clause-written c = text_written _ _ _ _ _ c.args.bytes.now c.requires c.in_ok-put_u8.ensures.ok c.in_ok-put_u8-2.ensures.ok c.in_ok-put_u8-3.ensures.ok c.in_ok-put_bytes.ensures.ok
