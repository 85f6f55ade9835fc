use Rattle.pt_db.proofs.Found.{place_found}
use Rattle.pt_db.proofs.lookup.table_place.Goals as goal

pub returns : goal.returns
returns c = place_found c.args.tables.now c.args.name.now c.requires c.search.result c.search.ensures.place c.search.ensures.bound
