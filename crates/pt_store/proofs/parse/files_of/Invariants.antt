use Rattle.pt_store.proofs.parse.files_of.Given as goal
use Rattle.pt_store.proofs.Reading.{Reading}

abbrev pub invariant-loop : goal.invariant-loop
invariant-loop l = Reading l.bytes l.count l.counter l.entries l.rest
