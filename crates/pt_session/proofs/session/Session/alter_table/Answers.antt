use Rattle.std.proofs.Common.{◌∙◌, is_some, refl, sym, ap, subst}
use Rattle.std.specs.Prelude.{Result, Err}
use Rattle.std.specs.Str.{bytes_eq}
use Rattle.std.proofs.lemmas.Result.{err_from_is_err_and}
use Rattle.indexmap.specs.IndexMap.{insert_entry}
use Rattle.pt_store.specs.declared.stop.Stop.{Stop}
use Rattle.pt_store.specs.Step.{IsStep}
use Rattle.pt_store.proofs.Steps.{stopped_step}
use Rattle.pt_session.proofs.Altered.{changed_given, changed_holds, changed_leaves, changed_open, changed_over, each_is}
use Rattle.pt_session.proofs.Executing.{leaves_stopped}
use Rattle.pt_session.proofs.Shaped.{unkept_leaves}
use Rattle.pt_session.proofs.Writes.{over_with, stopped_over}
use Rattle.pt_session.proofs.session.Session.alter_table.Goals as goal

pub returns-in_err-altering-clause-told : goal.returns-in_err-altering-clause-told
returns-in_err-altering-clause-told g c tells map is =
    let p = err_from_is_err_and c.from_residual.result c.from_residual.ensures.1 in (
      map,
      stopped_step c.args.self.now.store map map p.0 c.from_residual.result (g.H.Host.world c.args.host.now) p.1 is,
      λ over. stopped_over c.args.self.now map map p.0 c.from_residual.result p.1 over,
      λ db later stands change. leaves_stopped c.args.self.now map db stands later p.0 c.from_residual.result p.1,
    )

pub returns-in_err-reshape-clause-told : goal.returns-in_err-reshape-clause-told
returns-in_err-reshape-clause-told g c tells map is =
    let p = err_from_is_err_and c.from_residual-in_err-reshape.result c.from_residual-in_err-reshape.ensures.1 in
    let told = c.in_err-reshape.ensures.told tells map is in
    let stops = p.1 ∙ ap (λ (e : Stop). Err e) p.2 in (
      told.0,
      subst (λ (r : Result (Unit {0}) Stop). IsStep c.reshape.new.self map told.0 (g.H.Host.world c.args.host.now) (g.H.Host.world c.reshape.new.host) r) (sym stops) told.2,
      λ over. stopped_over _ map told.0 _ c.from_residual-in_err-reshape.result stops (over_with c.args.self.now c.reshape.new.self map over),
      λ db later stands change. unkept_leaves c.args.self.now c.reshape.new.self map told.0 db later _ c.from_residual-in_err-reshape.result stops stands.defs
          (changed_holds c.args.self.now c.args.name.now c.args.def.now c.args.fresh.now c.in_ok-altering.altering c.requires.open c.requires.change c.in_ok-altering.ensures.of c.in_ok-altering.ensures.asks map told.0 db later told.1 stands change),
    )

pub returns-clause-told : goal.returns-clause-told
returns-clause-told g c tells map is =
    let told = c.in_ok-reshape.ensures.told tells map is in (
      told.0,
      told.2,
      λ over. changed_over c.args.self.now c.args.name.now c.args.def.now c.args.fresh.now c.in_ok-altering.altering c.requires.open c.requires.change c.in_ok-altering.ensures.of c.in_ok-altering.ensures.asks _ (each_is c.args.self.now c.args.name.now c.args.def.now _ _ c.in_ok-altering.ensures.of.same c.put_again.ensures.each) refl map told.0 told.1 over,
      λ db later stands change. changed_leaves c.args.self.now c.args.name.now c.args.def.now c.args.fresh.now c.in_ok-altering.altering c.requires.open c.requires.change c.in_ok-altering.ensures.of c.in_ok-altering.ensures.asks _ (each_is c.args.self.now c.args.name.now c.args.def.now _ _ c.in_ok-altering.ensures.of.same c.put_again.ensures.each) refl map told.0 db later told.1 stands change,
    )

pub returns-clause-open : goal.returns-clause-open
returns-clause-open g c = changed_open c.args.self.now c.args.name.now c.args.def.now c.args.fresh.now c.in_ok-altering.altering c.requires.open c.requires.change c.in_ok-altering.ensures.of c.in_ok-altering.ensures.asks _ (each_is c.args.self.now c.args.name.now c.args.def.now _ _ c.in_ok-altering.ensures.of.same c.put_again.ensures.each) refl c.in_ok-reshape.ensures.after

pub put_again-requires : goal.put_again-requires
put_again-requires g c = record { held = ap is_some c.requires.change.held }

pub returns-clause-after : goal.returns-clause-after
returns-clause-after g c = record {
  place = c.put_again.ensures.place ∙ ap (insert_entry bytes_eq c.args.self.now.tables.entries c.args.name.now) c.in_ok-altering.ensures.of.same;
  given = λ tells next is.
      let stood = c.requires.stands tells in
      let told = c.in_ok-reshape.ensures.told tells stood.0 stood.1 in
      changed_given c.args.self.now c.args.name.now c.args.def.now c.args.fresh.now c.in_ok-altering.altering c.requires.open c.requires.change c.in_ok-altering.ensures.of c.in_ok-altering.ensures.asks
      stood.0 told.0 next c.reshape.new.self (g.H.Host.world c.reshape.new.host) told.1 told.2.stands is;
}
