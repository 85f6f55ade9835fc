use Rattle.std.proofs.Common.{arith}
use Rattle.pt_value.proofs.Reading.{is_date_text}
use Rattle.pt_value.proofs.written.Written.read.Goals as goal

pub returns-clause-some : goal.returns-clause-some
returns-clause-some c =
    is_date_text c.args.bytes.now c.in_ok-century.century c.in_ok-year.year c.in_ok-month.month c.in_ok-day.day
    (omega arith) (omega arith) (omega arith)
    c.in_ok-century.ensures.some c.in_ok-year.ensures.some c.in_ok-month.ensures.some c.in_ok-day.ensures.some
