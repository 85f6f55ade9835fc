use Rattle.std.proofs.Common.{◌≡◌, ◌+◌, List}
use Rattle.pt_host.specs.Listed.{FileList, by_name}
use Rattle.pt_ast.specs.declared.database.Row.{Row}
use Rattle.pt_store.specs.Step.{IsLook}
use Rattle.pt_store.specs.Store.{IsStore}
use Rattle.pt_session.specs.HeldSpots.{HoldsSpots}
use Rattle.pt_dml.specs.Work.{IsWorkBehind, IsWorkOn}
use Rattle.pt_dml.proofs.Models.{IsFilledTo}
use Rattle.pt_dml.proofs.filling.fill.Given as goal

abbrev pub invariant-loop-at : goal.invariant-loop-at
invariant-loop-at g l = record {
  looks : g.H.Host.tells → (map : FileList) → IsStore l.session.store map (g.H.Host.world l.initial.host) → IsLook l.session.store map (g.H.Host.world l.initial.host) (g.H.Host.world l.host);
  fills : g.H.Host.tells → (map : FileList) → IsStore l.session.store map (g.H.Host.world l.initial.host) → (before : List Row) → HoldsSpots (by_name map) l.new.table l.def before → IsWorkOn l.def before l.initial.work → IsFilledTo l.mode l.def l.new before l.rows l.initial.work l.work l.at;
  work : IsWorkBehind l.def (l.at + 1) l.initial.work l.work;
  counts : g.H.Host.counts l.host ≡ g.H.Host.counts l.initial.host;
}
