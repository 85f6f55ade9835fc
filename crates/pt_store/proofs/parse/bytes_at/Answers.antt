use Rattle.pt_left.proofs.Fields.{bytes_none, bytes_short, bytes_taken}
use Rattle.pt_store.proofs.parse.bytes_at.Goals as goal

pub returns-in_err-length : goal.returns-in_err-length
returns-in_err-length c = rw c.from_residual.ensures (λ content more is e. bytes_none c.args.bytes.now content more c.in_err-length.ensures is e)

pub returns-in_err-content : goal.returns-in_err-content
returns-in_err-content c =
    let read = c.in_ok-length.ensures in
    rw c.from_residual-in_err-content.ensures
    (λ content more is e. bytes_short c.args.bytes.now _ _ read.0 read.1 content more c.in_err-content.ensures.cases is e)

pub returns : goal.returns
returns c =
    let read = c.in_ok-length.ensures in
    bytes_taken c.args.bytes.now _ _ read.0 read.1 _ _ c.in_ok-content.ensures.cases
