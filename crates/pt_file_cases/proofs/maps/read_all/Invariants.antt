use Rattle.pt_memhost.specs.Memory.{world_in}
use Rattle.pt_store.specs.Store.{HasMap}
use Rattle.pt_file_cases.proofs.maps.read_all.Given as goal

abbrev pub invariant-loop-i : goal.invariant-loop-i
invariant-loop-i l = HasMap l.store (world_in l.host)
