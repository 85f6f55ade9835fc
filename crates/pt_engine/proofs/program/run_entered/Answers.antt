use Rattle.std.proofs.Common.{◌∙◌, ap}
use Rattle.pt_ast.specs.declared.database.Db.{Db}
use Rattle.pt_host.specs.Disk.{shown}
use Rattle.pt_host.proofs.Runs.{idle_looks, idle_on}
use Rattle.pt_reading.specs.Script.{has_excess}
use Rattle.pt_session.specs.Directory.{HoldsIn}
use Rattle.pt_engine.specs.Endings.{ending_of}
use Rattle.pt_engine.specs.Run.{StandsAt}
use Rattle.pt_engine.proofs.RunLemmas.{opened_quiet, opened_over, opened_session, quiet_in_order, opening_damage, stands_opening, caused_opening, formed_opening, stops_only, taken_in_order, stands_stopped, stopped_damage, tells_damage, answered_in_order, answered_stands, answered_idle, idle_taken, stands_at}
use Rattle.pt_engine.proofs.program.run_entered.Goals as goal

pub returns-in-Err-clause-formed : goal.returns-in-Err-clause-formed
returns-in-Err-clause-formed g c = rw c.from.ensures (formed_opening c.in-Err.stop)

pub returns-in-Err-clause-causes : goal.returns-in-Err-clause-causes
returns-in-Err-clause-causes g c = rw c.from.ensures (caused_opening c.in-Err.stop _ _ c.in-Err.ensures.counts)

pub returns-in-Err-clause-told : goal.returns-in-Err-clause-told
returns-in-Err-clause-told g c tells =
    let old = g.H.Host.world c.args.host.now in
    let new = g.H.Host.world c.begin.new.host in
    let clears = c.in-Err.ensures.clears tells in
    let stands : (db : Db) → HoldsIn (shown old.now.fs) db → StandsAt db (ending_of c.in-Err.stop) old new = λ db held.
    let quiet = opened_quiet db old new (c.requires.at_rest tells) held clears in
    stands_opening g.H.Host.tells tells (shown old.now.fs) (shown new.now.fs) c.in-Err.stop c.in-Err.ensures.bad db old new held quiet.said quiet.now in
    rw c.from.ensures
    (record {
      damage = tells_damage (ending_of c.in-Err.stop) old new (opening_damage g.H.Host.tells tells (shown old.now.fs) (shown new.now.fs) c.in-Err.stop c.in-Err.ensures.bad) stands;
      headline = λ db held. quiet_in_order db _ old new (opened_quiet db old new (c.requires.at_rest tells) held clears);
      stands = stands;
      idle = λ db held none changes. idle_looks old new (clears.looks none);
    })

pub returns-in-Err-take_script-clause-told : goal.returns-in-Err-take_script-clause-told
returns-in-Err-take_script-clause-told g c tells =
    let old = g.H.Host.world c.args.host.now in
    let new = g.H.Host.world c.take_script.new.host in
    let clears = c.in-Ok.ensures.clears tells in
    let stops = c.in-Err-take_script.ensures.err tells in
    let ending = c.in-Err-take_script.ending in
    let only = stops_only ending _ _ stops in
    let stands : (db : Db) → HoldsIn (shown old.now.fs) db → StandsAt db ending old new = λ db held.
    stands_stopped db old (g.H.Host.world c.begin.new.host) (c.requires.at_rest tells) held clears new only ending stops in
    record {
      damage = tells_damage ending old new (stopped_damage ending (g.H.Host.world c.begin.new.host) new _ stops) stands;
      headline = λ db held. taken_in_order db old _ (c.requires.at_rest tells) held clears new only;
      stands = stands;
      idle = λ db held none changes. idle_on old _ new (idle_looks old _ (clears.looks none)) (idle_taken _ new only);
    }

pub returns-clause-dir : goal.returns-clause-dir
returns-clause-dir g c tells =
    let taken = c.in-Ok-take_script.ensures.ok tells in
    (c.answer_taken.ensures.only tells).dir ∙ ap (λ w. w.dir) taken.only ∙ (c.in-Ok.ensures.clears tells).others.dir

pub answer_taken-requires-clause-stands : goal.answer_taken-requires-clause-stands
answer_taken-requires-clause-stands g c tells =
    opened_over c.in-Ok.session (g.H.Host.world c.args.host.now) (g.H.Host.world c.begin.new.host) (g.H.Host.world c.take_script.new.host) (c.in-Ok.ensures.opened tells) (c.in-Ok-take_script.ensures.ok tells).only

pub returns-clause-told : goal.returns-clause-told
returns-clause-told g c tells =
    let old = g.H.Host.world c.args.host.now in
    let w = g.H.Host.world c.begin.new.host in
    let v = g.H.Host.world c.take_script.new.host in
    let new = g.H.Host.world c.answer_taken.new.host in
    let rest = c.requires.at_rest tells in
    let clears = c.in-Ok.ensures.clears tells in
    let taken = c.in-Ok-take_script.ensures.ok tells in
    let ending = c.answer_taken.result in
    let answered = λ (db : Db) (held : HoldsIn (shown old.now.fs) db).
    c.answer_taken.ensures.told tells db (opened_session db old w rest held clears c.in-Ok.session v (g.met.H.Host.sound c.args.host.now tells) (c.in-Ok.ensures.opened tells) taken.only) in
    let stands : (db : Db) → HoldsIn (shown old.now.fs) db → StandsAt db ending old new = λ db held.
    stands_at db ending c.in-Ok-take_script.taken.too_long old new
    (answered_stands db old w rest held clears v taken.only _ taken.statements ending c.in-Ok-take_script.taken.too_long new (answered db held).stands)
    (taken.too_long ∙ ap has_excess (opened_quiet db old w rest held clears).input) (λ short. (c.answer_taken.ensures.only tells).input ∙ taken.to_the_end short) in
    record {
      damage = tells_damage ending old new (c.answer_taken.ensures.damage tells) stands;
      headline = λ db held. answered_in_order db old w rest held clears v taken.only _ taken.statements new (answered db held).in_order;
      stands = stands;
      idle = λ db held none changes.
          idle_on old v new (idle_on old w v (idle_looks old w (clears.looks none)) (idle_taken w v taken.only))
          (answered_idle db old w rest held clears v taken.only _ taken.statements new (answered db held).idle changes);
    }
