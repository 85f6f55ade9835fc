use Rattle.pt_value.proofs.Spelled.{day_of-spells, day_of-some}
use Rattle.pt_value.proofs.laws.spelled_day.Goals as goal

pub returns : goal.returns
returns c = λ bytes day. (day_of-spells bytes day, day_of-some bytes day)
