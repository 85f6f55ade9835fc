use Rattle.pt_reach.proofs.Few.{day_values, number_values, string_values}
use Rattle.pt_reach.proofs.domain.Domain.values.Goals as goal

pub returns-in_ok-found-in-Numbers : goal.returns-in_ok-found-in-Numbers
returns-in_ok-found-in-Numbers c = number_values c.args.self.now _ c.args.limit _ c.in-Numbers.is c.in_ok-found-in-Numbers.ensures

pub returns-in_ok-found-in-Days : goal.returns-in_ok-found-in-Days
returns-in_ok-found-in-Days c = day_values c.args.self.now _ c.args.limit _ c.in-Days.is c.in_ok-found-in-Days.ensures

pub returns-in_ok-found-in-Strings : goal.returns-in_ok-found-in-Strings
returns-in_ok-found-in-Strings c = string_values c.args.self.now _ c.args.limit _ c.in-Strings.is c.in_ok-found-in-Strings.ensures
