use Rattle.pt_session.proofs.GivenFiles.{text_more}
use Rattle.pt_session.proofs.altering.text_of.Goals as goal

pub loop-row-preserved : goal.loop-row-preserved
loop-row-preserved c =
    text_more c.args.rows.now c.loop-row.row-index c.row-item.result c.loop-row.text.items c.put_bytes.new.out.items c.loop-row-test.true c.row-item.is c.loop-row.invariant
    c.in_ok-put_bytes.ensures.written c.in_ok-put_bytes.ensures.record
