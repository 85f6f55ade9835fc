use Rattle.std.proofs.Common.{sym}
use Rattle.std.proofs.lemmas.Result.{err_from_is_err_and}
use Rattle.pt_store.proofs.Steps.{no_look}
use Rattle.pt_session.proofs.Telling.{short_tells}
use Rattle.pt_session.proofs.TellingAlter.{weaker}
use Rattle.pt_alter_parts.proofs.Given.{empties, kept_def}
use Rattle.pt_alter_parts.proofs.Meant.{held}
use Rattle.pt_alter_parts.proofs.Without.{empties_rows}
use Rattle.pt_alter_parts.proofs.truncating.empty_named.Goals as goal

pub emptied-requires : goal.emptied-requires
emptied-requires g c = record { valid = (kept_def c.args.session.now c.args.name.now c.args.def.now c.requires.open c.requires.held).valid }

pub redefine-requires-clause-change : goal.redefine-requires-clause-change
redefine-requires-clause-change g c = empties c.args.session.now c.args.name.now c.args.def.now c.args.parts.now c.in_ok-fresh.fresh c.requires.open c.requires.held c.in_ok-fresh.ensures

pub returns-in_err-fresh-clause-told : goal.returns-in_err-fresh-clause-told
returns-in_err-fresh-clause-told g c tells map is meaning meant =
    let p = err_from_is_err_and c.from_residual.result c.from_residual.ensures.1 in
    let w = g.H.Host.world c.args.host.now in
    weaker meaning c.args.session.now c.args.session.now map w w c.from_residual.result
    (short_tells meaning c.args.session.now map w w is (no_look c.args.session.now.store map w is) p.0 c.from_residual.result p.1 p.2)

pub returns-clause-told : goal.returns-clause-told
returns-clause-told g c tells map is meaning meant =
    let name = c.args.name.now in
    let def = c.args.def.now in
    c.redefine.ensures.told tells map is meaning
    (λ db stands.
    let own = held c.args.session.now map db stands name c.bytes.ensures.ident def (sym c.requires.held) in
    empties_rows db name own.0 stands.holds.sound own.1 c.args.parts.now def c.in_ok-fresh.fresh (meaning db) own.2 c.in_ok-fresh.ensures (meant db stands own.0 own.1))
