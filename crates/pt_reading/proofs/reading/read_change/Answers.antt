use Rattle.std.proofs.Common.{◌≡◌, true, sym, subst}
use Rattle.pt_ast.specs.StorableStmt.{IsStorableStmt}
use Rattle.pt_parse_alter.specs.Spelling.{IsRefused, altering}
use Rattle.pt_reading.specs.Reading.{AreRead, IfSpelled, is_known}
use Rattle.pt_reading.proofs.Known.{known_read, if_known, none_read}
use Rattle.pt_reading.proofs.reading.read_change.Goals as goal

pub returns-in-Ok-clause-reads : goal.returns-in-Ok-clause-reads
returns-in-Ok-clause-reads c =
    let is = c.in-Ok.ensures.reading in
    let piece = c.args.piece.now in
    let tokens = c.args.tokens.now.items in
    subst (λ r. AreRead piece tokens r) (sym c.known.ensures) (known_read piece tokens c.in-Ok.change is.limits (altering is.spelled))

pub returns-in-Ok-clause-storable : goal.returns-in-Ok-clause-storable
returns-in-Ok-clause-storable c =
    subst (λ r. IfSpelled IsStorableStmt r) (sym c.known.ensures) (if_known IsStorableStmt c.in-Ok.change (λ k. c.in-Ok.ensures.storable))

pub returns-in-Ok-clause-covered : goal.returns-in-Ok-clause-covered
returns-in-Ok-clause-covered c =
    subst (λ r. IfSpelled (λ statement. is_known statement ≡ true) r) (sym c.known.ensures)
    (if_known (λ statement. is_known statement ≡ true) c.in-Ok.change (λ k. k))

pub returns-in-Err-Syntax-clause-reads : goal.returns-in-Err-Syntax-clause-reads
returns-in-Err-Syntax-clause-reads c =
    let piece = c.args.piece.now in
    let tokens = c.args.tokens.now.items in
    none_read piece tokens c.requires.no_definition c.requires.not_on_rows
    (subst (λ fault. IsRefused piece tokens fault) c.in-Err-Syntax.field-0-is c.in-Err-Syntax.ensures.refused)
