use Rattle.std.proofs.Common.{List, is_some, sym, ap, subst}
use Rattle.std.specs.List.{All}
use Rattle.pt_ast.specs.declared.database.Row.{Row}
use Rattle.pt_ast.specs.declared.database.Spot.{Spot}
use Rattle.pt_rowfile.specs.Written.{IsShortRow}
use Rattle.pt_session.specs.Session.{def_of}
use Rattle.pt_session.specs.Shaping.{AreAltered}
use Rattle.pt_session.proofs.Altered.{altered_short, altering_asks, given_short}
use Rattle.pt_session.proofs.altering.altering.Goals as goal

pub altered_files-requires : goal.altered_files-requires
altered_files-requires c = record {
  storable = c.requires.change.storable;
  short = subst (All (λ (given : Spot × List Row). All IsShortRow given.1)) (sym c.items.ensures) (given_short c.args.def.now (def_of c.args.session.now) c.args.name.now c.args.fresh.now c.requires.change);
}

pub altering_acts-requires : goal.altering_acts-requires
altering_acts-requires c = record {
  held = ap is_some c.requires.change.held;
  short = altered_short c.args.name.now c.args.def.now c.items.result.now c.in_ok-files.files c.name_fits.ensures c.def_fits.ensures.parts c.in_ok-files.ensures;
}

pub returns-clause-of : goal.returns-clause-of
returns-clause-of c = record {
  name_is = c.name_fits.ensures;
  fits = c.def_fits.ensures;
  files = subst (λ fresh. AreAltered c.args.name.now c.args.def.now fresh c.in_ok-files.files) c.items.ensures c.in_ok-files.ensures;
  acts = c.in_ok-acts.ensures;
  same = c.in_ok-own.ensures;
}

pub returns-clause-asks : goal.returns-clause-asks
returns-clause-asks c = altering_asks c.args.session.now c.args.name.now c.args.def.now c.args.fresh.now _ c.requires.open c.requires.change (returns-clause-of c)
