use Rattle.std.proofs.Common.{◌≡◌}
use Rattle.pt_ast.specs.declared.database.Db.{Db}
use Rattle.pt_session.specs.Session.{IsOpen, IsSession}
use Rattle.pt_engine.specs.Saying.{AnswersFirst}
use Rattle.pt_engine.specs.Session.{EntersNothing, StandsOver}
use Rattle.pt_engine.proofs.answers.answer_all.Given as goal

abbrev pub invariant-loop-i : goal.invariant-loop-i
invariant-loop-i g l = record {
  answered : g.H.Host.tells → (db : Db) → IsSession l.initial.session db (g.H.Host.world l.initial.host) → AnswersFirst db l.statements l.i l.session (g.H.Host.world l.initial.host) (g.H.Host.world l.host);
  only : g.H.Host.tells → EntersNothing (g.H.Host.world l.initial.host) (g.H.Host.world l.host);
  over : g.H.Host.tells → StandsOver l.session (g.H.Host.world l.host);
  open_still : IsOpen l.session;
  counts : g.H.Host.counts l.host ≡ g.H.Host.counts l.initial.host;
}
