-- In the shape of the code: what is written is a date, whether the calendar has it or not.
use Rattle.pt_value.specs.Calendar.{Date}
use Rattle.pt_value.specs.declared.written.Written.{Written}

abbrev pub as_date : Written → Date
as_date written = record { year = written.year; month = written.month; day = written.day }
