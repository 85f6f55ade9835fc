use Rattle.pt_store.proofs.Sought.{sought, sought_none}
use Rattle.pt_store.proofs.entry.entry_of.Goals as goal

pub returns-in-Ok : goal.returns-in-Ok
returns-in-Ok c = sought c.args.entries.now c.args.name.now c.requires c.in-Ok.place c.index-entries-place.result c.in-Ok.ensures.place c.in-Ok.ensures.bound c.index-entries-place.is

pub returns-in-Err : goal.returns-in-Err
returns-in-Err c = sought_none c.args.entries.now c.args.name.now c.requires _ c.in-Err.ensures.place
