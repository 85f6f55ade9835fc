use Rattle.pt_session.specs.Opening.{has, table_in}
use Rattle.pt_session.proofs.RowFiles.{AreFirst}
use Rattle.pt_session.proofs.strays.needed_files.Given as goal

abbrev pub invariant-loop-i : goal.invariant-loop-i
invariant-loop-i l = AreFirst l.store (table_in l.tables) l.tables.entries (has l.needed) l.i
