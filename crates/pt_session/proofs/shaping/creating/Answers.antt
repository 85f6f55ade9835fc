use Rattle.pt_session.proofs.Asks.{creating_asks, fresh_short}
use Rattle.pt_session.proofs.shaping.creating.Goals as goal

pub renames-requires : goal.renames-requires
renames-requires c = record { short = fresh_short c.args.name.now c.args.def.now c.in_ok-fresh.fresh c.name_fits.ensures c.def_fits.ensures c.in_ok-fresh.ensures }

pub returns-clause-asks : goal.returns-clause-asks
returns-clause-asks c =
    creating_asks c.args.name.now c.args.def.now c.in_ok-fresh.fresh c.name_fits.ensures c.def_fits.ensures c.in_ok-fresh.ensures c.args.session.now c.in_ok-acts.acts c.requires.open c.requires.change c.in_ok-acts.ensures
