use Rattle.std.proofs.Common.{arith}
use Rattle.std.proofs.lemmas.Int.{ints}
use Rattle.pt_value.proofs.Dates.{date_of_day, date_of_zero, day_of_date, fits_exactly}
use Rattle.pt_value.proofs.laws.one_date.Goals as goal

pub returns : goal.returns
returns c = record {
  of_day = λ day h. date_of_day day (let low = h.0 in omega (arith, ints));
  of_date = day_of_date;
  of_zero = date_of_zero;
  fitting = fits_exactly;
}
