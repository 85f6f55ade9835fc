use Rattle.pt_token.proofs.Steps.{gap_step, token_step, fault_here}
use Rattle.pt_token.proofs.lexer.next_step.Goals as goal

pub returns-in-Some-clause-step : goal.returns-in-Some-clause-step
returns-in-Some-clause-step c = gap_step c.args.inside c.args.place c.args.bytes.now c.in-Some.gap c.in-Some.ensures.value c.in-Some.ensures.some c.in-Some.ensures.within

pub returns-in-Ok-None-clause-fault : goal.returns-in-Ok-None-clause-fault
returns-in-Ok-None-clause-fault c =
    let value = rw c.in-Ok-None.field-0-is at c.in-Ok-None.ensures.value in
    fault_here c.args.inside c.args.place c.args.bytes.now _ c.requires.some (cc) value c.fault_at.ensures

pub returns-in-Ok-Some-clause-step : goal.returns-in-Ok-Some-clause-step
returns-in-Ok-Some-clause-step c =
    let value = rw c.in-Ok-Some.field-0-is at c.in-Ok-Some.ensures.value in
    let part = rw c.in-Ok-Some.field-0-is at c.in-Ok-Some.ensures.part in
    token_step c.args.inside c.args.place c.args.bytes.now c.in-Ok-Some.found (cc) value part
