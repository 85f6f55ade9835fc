use Rattle.std.proofs.Common.{◌≡◌, ℕ, List}
use Rattle.pt_host.specs.Listed.{FileList, by_name}
use Rattle.pt_ast.specs.declared.database.Row.{Row}
use Rattle.pt_store.specs.Step.{IsLook}
use Rattle.pt_store.specs.Store.{IsStore}
use Rattle.pt_flat.specs.Update.{unchanged}
use Rattle.pt_session.specs.HeldSpots.{HoldsSpots}
use Rattle.pt_update.specs.Work.{AreTaken, IsFresh, IsMoving, IsWork}
use Rattle.pt_update.proofs.ModelRows.{IsUpdatedTo}
use Rattle.pt_update.proofs.moving.move_rows.Given as goal

abbrev pub invariant-loop-at : goal.invariant-loop-at
invariant-loop-at g l = record {
  looks : g.H.Host.tells → (map : FileList) → IsStore l.session.store map (g.H.Host.world l.initial.host) → IsLook l.session.store map (g.H.Host.world l.initial.host) (g.H.Host.world l.host);
  moves : g.H.Host.tells → (map : FileList) → IsStore l.session.store map (g.H.Host.world l.initial.host) → (before : List Row) → HoldsSpots (by_name map) l.table l.def before → AreTaken l.def l.parts before l.rows
      → ((serial : ℕ) → IsFresh l.initial.work serial) → IsMoving l.session.next l.def before (unchanged before) l.initial.work → IsUpdatedTo l.session.next l.def l.parts l.assigns before l.rows l.work l.at;
  work : IsWork l.def l.initial.work → IsWork l.def l.work;
  counts : g.H.Host.counts l.host ≡ g.H.Host.counts l.initial.host;
}
