use Rattle.std.proofs.Common.{ap, sym, subst}
use Rattle.pt_host.specs.Disk.{Fs, EachImage}
use Rattle.pt_host.specs.World.{IsIdle}
use Rattle.pt_host.proofs.Runs.{idle_none}
use Rattle.pt_reading.specs.Script.{statements}
use Rattle.pt_session.specs.Directory.{HoldsIn}
use Rattle.pt_engine.proofs.RunLemmas.{keeping_none, none_in_order, entered_run, rest_holds}
use Rattle.pt_engine.proofs.program.run_in.Goals as goal

pub returns-in-Err-clause-told : goal.returns-in-Err-clause-told
returns-in-Err-clause-told g c tells =
    let same = c.in-Err.ensures.failed tells in
    let now = g.H.Host.world c.args.host.now in
    record {
      damage = tt;
      headline = λ db held. none_in_order db (statements now.input) now _ (ap (λ w. w.moments) same);
      stands = λ db held. (
        0,
        keeping_none db (statements now.input) now.now.said _ (ap (λ w. w.now.said) same)
            (subst (λ (fs : Fs). EachImage fs (λ files. HoldsIn files db)) (sym (ap (λ w. w.now.fs) same)) (rest_holds now.now.fs db (c.requires.at_rest tells) held)),
      );
      idle = λ db held none changes. subst (λ w. IsIdle now w) (sym same) (idle_none now);
    }

pub returns-in-Ok-clause-told : goal.returns-in-Ok-clause-told
returns-in-Ok-clause-told g c tells =
    entered_run c.run_entered.result c.args.dir.now (g.H.Host.world c.args.host.now) _ _ (c.in-Ok.ensures.ok tells) c.run_entered.ensures.formed (c.run_entered.ensures.told tells)
