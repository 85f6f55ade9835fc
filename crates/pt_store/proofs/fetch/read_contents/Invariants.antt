use Rattle.std.proofs.Common.{◌≡◌, List, ℕ, map, take}
use Rattle.pt_host.specs.Disk.{shown}
use Rattle.pt_host.specs.World.{OnlyLooks}
use Rattle.pt_store.specs.declared.entry.Entry.{Entry}
use Rattle.pt_left.specs.Left.{whole_name}
use Rattle.pt_store.specs.Entries.{bytes_of, files_at}
use Rattle.pt_store.proofs.fetch.read_contents.Given as goal

abbrev pub invariant-loop-entry : goal.invariant-loop-entry
invariant-loop-entry g l = record {
  named : map (λ (file : List ℕ × List ℕ). file.0) l.contents.entries ≡ map (λ (entry : Entry). entry.name) (take l.entry-index l.entries);
  read : g.H.Host.tells → l.contents.entries ≡ files_at (bytes_of (shown (g.H.Host.world l.initial.host).now.fs whole_name)) (take l.entry-index l.entries);
  looks : g.H.Host.tells → OnlyLooks (g.H.Host.world l.initial.host) (g.H.Host.world l.host);
  counts : g.H.Host.counts l.host ≡ g.H.Host.counts l.initial.host;
}
