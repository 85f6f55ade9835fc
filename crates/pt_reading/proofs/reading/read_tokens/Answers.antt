use Rattle.pt_parse_dml.specs.Spelling.{as_definition}
use Rattle.pt_parse_alter.specs.Spelling.{other}
use Rattle.pt_reading.proofs.Known.{definition_known}
use Rattle.pt_reading.proofs.reading.read_tokens.Goals as goal

pub returns-in-Ok-clause-reads : goal.returns-in-Ok-clause-reads
returns-in-Ok-clause-reads c =
    let is = c.in-Ok.ensures.reading in
    record { limits = is.limits; spelled = other (as_definition is.spelled); known = definition_known is.spelled }

pub returns-in-Ok-clause-covered : goal.returns-in-Ok-clause-covered
returns-in-Ok-clause-covered c = definition_known c.in-Ok.ensures.reading.spelled
