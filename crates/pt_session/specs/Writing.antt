-- What a change of rows adds to the files of a session.
use Rattle.std.specs.Prelude.{◌≡◌, Some}
use Rattle.pt_host.specs.Listed.{FileList}
use Rattle.pt_ast.specs.declared.table.TableDef.{TableDef}
use Rattle.pt_holds.specs.declared.change.RowChange.{RowChange}
use Rattle.pt_holds.specs.Batch.{IsBatchOf}
use Rattle.pt_session.specs.declared.session.Session.{Session}
use Rattle.pt_session.specs.Session.{def_of}

-- The batch is that of the change, by the definition that the session has of its table.
pub record IsBatchFor (session : Session) (change : RowChange) (batch : FileList) : Type 0 where
  pub def : TableDef
  pub held : def_of session change.table ≡ Some def
  pub of : IsBatchOf batch def change
