use Rattle.std.proofs.Common.{◌≡◌, true, sym, subst}
use Rattle.pt_ast.specs.StorableStmt.{IsStorableStmt}
use Rattle.pt_parse_dml.specs.Spelling.{on_rows}
use Rattle.pt_parse_alter.specs.Spelling.{other}
use Rattle.pt_reading.specs.Reading.{AreRead, IfSpelled, is_known}
use Rattle.pt_reading.proofs.Known.{known_read, if_known}
use Rattle.pt_reading.proofs.reading.read_on_rows.Goals as goal

pub returns-in-Ok-clause-reads : goal.returns-in-Ok-clause-reads
returns-in-Ok-clause-reads c =
    let is = c.in-Ok.ensures.reading in
    let piece = c.args.piece.now in
    let tokens = c.args.tokens.now.items in
    subst (λ r. AreRead piece tokens r) (sym c.known.ensures) (known_read piece tokens c.in-Ok.statement is.limits (other (on_rows is.spelled)))

pub returns-in-Ok-clause-storable : goal.returns-in-Ok-clause-storable
returns-in-Ok-clause-storable c =
    subst (λ r. IfSpelled IsStorableStmt r) (sym c.known.ensures) (if_known IsStorableStmt c.in-Ok.statement (λ k. c.in-Ok.ensures.storable))

pub returns-in-Ok-clause-covered : goal.returns-in-Ok-clause-covered
returns-in-Ok-clause-covered c =
    subst (λ r. IfSpelled (λ statement. is_known statement ≡ true) r) (sym c.known.ensures)
    (if_known (λ statement. is_known statement ≡ true) c.in-Ok.statement (λ k. k))
