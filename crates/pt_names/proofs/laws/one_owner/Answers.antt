use Rattle.pt_names.proofs.Owners.{defs, def_owned, rows, row_owned, apart}
use Rattle.pt_names.proofs.laws.one_owner.Goals as goal

pub returns : goal.returns
returns c = record { defs = defs; def_owned = def_owned; rows = rows; row_owned = row_owned; apart = apart }
