use Rattle.std.proofs.Common.{◌≡◌, List, take}
use Rattle.std.specs.List.{All, flat_map}
use Rattle.pt_host.specs.Listed.{FileList, by_name}
use Rattle.pt_ast.specs.declared.database.Row.{Row}
use Rattle.pt_store.specs.Step.{IsLook}
use Rattle.pt_store.specs.Store.{IsStore}
use Rattle.pt_db.specs.Sound.{IsSoundRow}
use Rattle.pt_session.specs.HeldSpots.{HoldsSpots}
use Rattle.pt_candidates.specs.Read.{wanted_in}
use Rattle.pt_candidates.proofs.reading.read_wanted.Given as goal

abbrev pub invariant-loop-spot : goal.invariant-loop-spot
invariant-loop-spot g l = record {
  looks : g.H.Host.tells → (map : FileList) → IsStore l.session.store map (g.H.Host.world l.initial.host) → IsLook l.session.store map (g.H.Host.world l.initial.host) (g.H.Host.world l.host);
  rows : g.H.Host.tells → (map : FileList) → IsStore l.session.store map (g.H.Host.world l.initial.host) → (rows : List Row) → HoldsSpots (by_name map) l.table l.def rows
      → l.found ≡ flat_map (wanted_in l.def l.parts l.cond rows) (take l.spot-index l.spots);
  sound : All (IsSoundRow l.session.next l.def) l.found;
  counts : g.H.Host.counts l.host ≡ g.H.Host.counts l.initial.host;
}
