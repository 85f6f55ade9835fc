use Rattle.std.proofs.Common.{inr, ◌∙◌, sym, ap, subst}
use Rattle.std.specs.Prelude.{Result, Err}
use Rattle.std.proofs.lemmas.Result.{err_from_is_err_and}
use Rattle.pt_store.specs.declared.stop.Stop.{Stop}
use Rattle.pt_store.specs.Reshape.{IsReshape}
use Rattle.pt_store.specs.Step.{IsStep}
use Rattle.pt_store.specs.Store.{sizes}
use Rattle.pt_store.proofs.Steps.{stopped_step}
use Rattle.pt_session.proofs.Executing.{leaves_stopped}
use Rattle.pt_session.proofs.Shaped.{unkept_leaves}
use Rattle.pt_session.proofs.Swaps.{swapped_defs, swapped_holds, swapped_open, swapped_over}
use Rattle.pt_session.proofs.Writes.{over_with, stopped_over}
use Rattle.pt_session.proofs.session.Session.exchange.Goals as goal

pub returns-in_err-chain-clause-told : goal.returns-in_err-chain-clause-told
returns-in_err-chain-clause-told g c tells map is =
    let p = err_from_is_err_and c.from_residual.result c.from_residual.ensures.1 in (
      map,
      stopped_step c.args.self.now.store map map p.0 c.from_residual.result (g.H.Host.world c.args.host.now) p.1 is,
      λ over. stopped_over c.args.self.now map map p.0 c.from_residual.result p.1 over,
      λ db later stands change. leaves_stopped c.args.self.now map db stands later p.0 c.from_residual.result p.1,
    )

pub returns-in_err-reshape-clause-told : goal.returns-in_err-reshape-clause-told
returns-in_err-reshape-clause-told g c tells map is =
    let p = err_from_is_err_and c.from_residual-in_err-reshape.result c.from_residual-in_err-reshape.ensures.1 in
    let told = c.in_err-reshape.ensures.told tells map is in
    let stops = p.1 ∙ ap (λ (e : Stop). Err e) p.2 in (
      told.0,
      subst (λ (r : Result (Unit {0}) Stop). IsStep c.reshape-2.new.self map told.0 (g.H.Host.world c.args.host.now) (g.H.Host.world c.reshape-2.new.host) r) (sym stops) told.2,
      λ over. stopped_over _ map told.0 _ c.from_residual-in_err-reshape.result stops (over_with c.args.self.now c.reshape-2.new.self map over),
      λ db later stands change. unkept_leaves c.args.self.now c.reshape-2.new.self map told.0 db later _ c.from_residual-in_err-reshape.result stops stands.defs
          (swapped_holds c.args.self.now c.args.name.now c.args.spot c.args.other.now c.in_ok-chain.chain c.requires.open c.in_ok-chain.ensures.of c.requires.change c.new.result (subst (λ fresh. IsReshape (sizes c.args.self.now.store) fresh c.in_ok-chain.chain) (sym c.new.ensures) c.in_ok-chain.ensures.asks) map told.0 db later told.1 stands change),
    )

pub returns-clause-told : goal.returns-clause-told
returns-clause-told g c tells map is =
    let told = c.in_ok-reshape.ensures.told tells map is in
    let asks = subst (λ fresh. IsReshape (sizes c.args.self.now.store) fresh c.in_ok-chain.chain) (sym c.new.ensures) c.in_ok-chain.ensures.asks in (
      told.0,
      told.2,
      λ over. swapped_over c.args.self.now c.args.name.now c.args.spot c.args.other.now c.in_ok-chain.chain c.requires.open c.in_ok-chain.ensures.of c.requires.change c.new.result asks c.reshape-2.new.self map told.0 told.1 over,
      λ db later stands change.
          let holds = swapped_holds c.args.self.now c.args.name.now c.args.spot c.args.other.now c.in_ok-chain.chain c.requires.open c.in_ok-chain.ensures.of c.requires.change c.new.result asks map told.0 db later told.1 stands change in
          record {
            between = inr holds;
            holds = holds;
            defs = swapped_defs c.args.self.now c.args.name.now c.args.spot c.args.other.now c.in_ok-chain.chain c.requires.open c.in_ok-chain.ensures.of c.requires.change c.new.result asks c.reshape-2.new.self db later stands.defs change;
          },
    )

pub returns-clause-open : goal.returns-clause-open
returns-clause-open g c =
    let asks = subst (λ fresh. IsReshape (sizes c.args.self.now.store) fresh c.in_ok-chain.chain) (sym c.new.ensures) c.in_ok-chain.ensures.asks in
    swapped_open c.args.self.now c.args.name.now c.args.spot c.args.other.now c.in_ok-chain.chain c.requires.open c.in_ok-chain.ensures.of c.requires.change c.new.result asks c.reshape-2.new.self c.in_ok-reshape.ensures.after
