use Rattle.pt_rowfile.proofs.WrittenParts.{delete_record, delete_written}
use Rattle.pt_rowfile.proofs.written.delete_bytes.Goals as goal

pub returns-clause-written : goal.returns-clause-written
returns-clause-written c = delete_written _ _ _ _ c.args.serial c.in_ok-put_u32.ensures.ok c.in_ok-put_u8.ensures.ok c.in_ok-put_u64.ensures.ok

pub returns-clause-record : goal.returns-clause-record
returns-clause-record c = delete_record c.args.serial c.ranges.serial
