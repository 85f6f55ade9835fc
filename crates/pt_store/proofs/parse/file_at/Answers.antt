use Rattle.pt_left.proofs.Fields.{file_none, file_bad, file_unnamed, file_taken}
use Rattle.pt_store.proofs.parse.file_at.Goals as goal

pub returns-in_err-name : goal.returns-in_err-name
returns-in_err-name c = rw c.from_residual.ensures (λ file more is e. file_none c.args.bytes.now file more c.in_err-name.ensures is e)

pub returns-in_err-content : goal.returns-in_err-content
returns-in_err-content c =
    rw c.from_residual-in_err-content.ensures (λ file more is e. file_bad c.args.bytes.now _ _ c.in_ok-name.ensures.1 file more is e c.in_err-content.ensures)

pub returns-in_err-name-2 : goal.returns-in_err-name-2
returns-in_err-name-2 c =
    rw c.from_residual-in_err-name-2.ensures (λ file more is e. file_unnamed c.args.bytes.now _ _ c.in_ok-name.ensures.1 file more is e c.in_err-name-2.ensures.none)

pub returns : goal.returns
returns c =
    let of = c.in_ok-name-2.ensures.some in
    rw (of.0) (file_taken c.args.bytes.now _ _ _ _ c.in_ok-name.ensures.1 c.in_ok-content.ensures.1 of.1 c.in_ok-content.ensures.0)
