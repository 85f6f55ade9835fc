use Rattle.pt_parse_expr.proofs.Places as places
use Rattle.pt_parse_expr.proofs.laws.one_reading.Goals as goal

pub returns : goal.returns
returns c = places.one_reading
