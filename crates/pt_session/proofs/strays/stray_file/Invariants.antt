use Rattle.std.proofs.Common.{ℕ, List, take}
use Rattle.std.specs.Prelude.{IsSome, IsTrue}
use Rattle.pt_store.specs.Entries.{length_in}
use Rattle.pt_store.specs.Store.{sizes}
use Rattle.pt_session.specs.Opening.{IsRowFile, has}
use Rattle.pt_session.proofs.strays.stray_file.Given as goal

abbrev pub invariant-loop-i : goal.invariant-loop-i
invariant-loop-i l = (file : List ℕ) → IsSome (length_in (take l.i (sizes l.store)) file) → IsRowFile file → IsTrue (has l.needed file)
