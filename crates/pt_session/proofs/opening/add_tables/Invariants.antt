use Rattle.std.proofs.Common.{◌≡◌, take}
use Rattle.pt_host.specs.Listed.{FileList, by_name}
use Rattle.pt_host.specs.World.{OnlyLooks}
use Rattle.pt_store.specs.Store.{IsStore, sizes}
use Rattle.pt_session.specs.Opening.{AreDefined, AreRead, table_in}
use Rattle.pt_session.proofs.opening.add_tables.Given as goal

abbrev pub invariant-loop-i : goal.invariant-loop-i
invariant-loop-i g l = record {
  defined : AreDefined (take l.i (sizes l.store)) (table_in l.tables);
  read : g.H.Host.tells → (map : FileList) → IsStore l.store map (g.H.Host.world l.initial.host) → AreRead (by_name map) (table_in l.tables);
  looks : g.H.Host.tells → OnlyLooks (g.H.Host.world l.initial.host) (g.H.Host.world l.host);
  counts : g.H.Host.counts l.host ≡ g.H.Host.counts l.initial.host;
}
