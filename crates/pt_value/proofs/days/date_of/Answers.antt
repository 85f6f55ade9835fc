use Rattle.std.proofs.Common.{◌≡◌, ap, ◌∙◌, pos, ◌+◌, ◌%◌, FitsSigned, w32, to_z-of_z}
use Rattle.jiff_core.specs.Date.{epoch_day}
use Rattle.jiff_core.specs.Calendar.{weekday_number}
use Rattle.pt_value.proofs.Civil.{is_date_of, weekday_number-monday, weekday_number-sunday}
use Rattle.pt_value.proofs.days.date_of.Goals as goal

number : (c : goal.After-numbered) → epoch_day c.numbered.result ≡ c.args.day
number c = let fits : FitsSigned w32 c.args.day = c.ranges.day in c.numbered.ensures ∙ to_z-of_z fits

pub returns-clause-ymd : goal.returns-clause-ymd
returns-clause-ymd c = (is_date_of c.args.day c.numbered.result c.requires.0 (number c)).ymd

pub returns-clause-place : goal.returns-clause-place
returns-clause-place c = (is_date_of c.args.day c.numbered.result c.requires.0 (number c)).place

pub returns-clause-monday : goal.returns-clause-monday
returns-clause-monday c = ap (λ z. pos (weekday_number z)) (number c) ∙ weekday_number-monday c.args.day

pub returns-clause-sunday : goal.returns-clause-sunday
returns-clause-sunday c = ap (λ z. pos ((weekday_number z + 1) % 7)) (number c) ∙ weekday_number-sunday c.args.day
