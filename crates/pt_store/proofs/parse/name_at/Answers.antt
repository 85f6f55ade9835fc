use Rattle.pt_left.proofs.Fields.{name_none, name_short, name_taken}
use Rattle.pt_store.proofs.parse.name_at.Goals as goal

pub returns-in_err-length : goal.returns-in_err-length
returns-in_err-length c = rw c.from_residual.ensures (λ name more is e. name_none c.args.bytes.now name more c.in_err-length.ensures.cases e)

pub returns-in_err-name : goal.returns-in_err-name
returns-in_err-name c =
    rw c.from_residual-in_err-name.ensures
    (λ name more is e. name_short c.args.bytes.now _ c.in_ok-length.rest.now c.in_ok-length.ensures.cases.0 name more c.in_err-name.ensures.cases e)

pub returns : goal.returns
returns c = name_taken c.args.bytes.now _ c.in_ok-length.rest.now c.in_ok-length.ensures.cases.0 _ _ c.in_ok-name.ensures.cases (λ i. c.type_inv.bytes i)
