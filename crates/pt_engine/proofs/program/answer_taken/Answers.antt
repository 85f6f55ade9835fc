use Rattle.std.proofs.Common.{◌≤◌, ◌^◌, length, subst}
use Rattle.std.proofs.lemmas.List.Elements.{All-same}
use Rattle.pt_host.specs.World.{IsIdle}
use Rattle.pt_engine.specs.Answers.{ChangesNothing}
use Rattle.pt_engine.specs.Kept.{KeepsInOrder, StandsAfter}
use Rattle.pt_engine.specs.Parts.{StandsTaken}
use Rattle.pt_engine.proofs.SayingLemmas.{all_answered}
use Rattle.pt_engine.proofs.RunLemmas.{stands_taken}
use Rattle.pt_engine.proofs.program.answer_taken.Goals as goal

pub answer_all-requires-clause-short : goal.answer_all-requires-clause-short
answer_all-requires-clause-short g c = All-same (λ piece. length piece ≤ 2 ^ 20) c.items.result.now c.args.taken.now.statements c.items.ensures c.requires.short

pub returns-in-Err-clause-told : goal.returns-in-Err-clause-told
returns-in-Err-clause-told g c tells db is =
    let first = c.in-Err.ensures.err tells db is in
    record {
      in_order = subst (λ pieces. KeepsInOrder db pieces (g.H.Host.world c.args.host.now) (g.H.Host.world c.answer_all.new.host)) c.items.ensures first.in_order;
      idle = subst (λ pieces. ChangesNothing db pieces → IsIdle (g.H.Host.world c.args.host.now) (g.H.Host.world c.answer_all.new.host)) c.items.ensures first.idle;
      stands = subst (λ pieces. StandsTaken c.in-Err.ending c.args.taken.now.too_long db pieces (g.H.Host.world c.args.host.now).now.said (g.H.Host.world c.answer_all.new.host)) c.items.ensures
          (stands_taken c.in-Err.ending c.args.taken.now.too_long db c.items.result.now _ _ first.stands);
    }

pub returns-in-Err-clause-only : goal.returns-in-Err-clause-only
returns-in-Err-clause-only g c tells = (c.in-Err.ensures.over tells).only

pub returns-in-Ok-clause-only : goal.returns-in-Ok-clause-only
returns-in-Ok-clause-only g c tells = (c.in-Ok.ensures.over tells).only

pub returns-in-Ok-2-clause-only : goal.returns-in-Ok-2-clause-only
returns-in-Ok-2-clause-only g c tells = (c.in-Ok-2.ensures.over tells).only

pub returns-in-Err-clause-damage : goal.returns-in-Err-clause-damage
returns-in-Err-clause-damage g c tells = (c.in-Err.ensures.over tells).over

pub returns-in-Ok-clause-told : goal.returns-in-Ok-clause-told
returns-in-Ok-clause-told g c tells db is =
    let first = c.in-Ok.ensures.ok tells db is in
    record {
      in_order = subst (λ pieces. KeepsInOrder db pieces (g.H.Host.world c.args.host.now) (g.H.Host.world c.answer_all.new.host)) c.items.ensures first.in_order;
      idle = subst (λ pieces. ChangesNothing db pieces → IsIdle (g.H.Host.world c.args.host.now) (g.H.Host.world c.answer_all.new.host)) c.items.ensures first.idle;
      stands = (
        c.if-taken.true,
        subst (λ pieces. StandsAfter db pieces (g.H.Host.world c.args.host.now).now.said (g.H.Host.world c.answer_all.new.host) (length pieces)) c.items.ensures
            (all_answered db c.items.result.now _ _ _ _ first),
      );
    }

pub returns-in-Ok-2-clause-told : goal.returns-in-Ok-2-clause-told
returns-in-Ok-2-clause-told g c tells db is =
    let first = c.in-Ok-2.ensures.ok tells db is in
    record {
      in_order = subst (λ pieces. KeepsInOrder db pieces (g.H.Host.world c.args.host.now) (g.H.Host.world c.answer_all.new.host)) c.items.ensures first.in_order;
      idle = subst (λ pieces. ChangesNothing db pieces → IsIdle (g.H.Host.world c.args.host.now) (g.H.Host.world c.answer_all.new.host)) c.items.ensures first.idle;
      stands = (
        c.if-taken.false,
        subst (λ pieces. StandsAfter db pieces (g.H.Host.world c.args.host.now).now.said (g.H.Host.world c.answer_all.new.host) (length pieces)) c.items.ensures
            (all_answered db c.items.result.now _ _ _ _ first),
      );
    }
