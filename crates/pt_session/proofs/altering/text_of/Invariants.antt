use Rattle.std.proofs.Common.{◌≡◌, take}
use Rattle.std.specs.List.{All}
use Rattle.pt_ast.specs.declared.database.Row.{Row}
use Rattle.pt_rowfile.specs.declared.record.Record.TheVariants.{Put}
use Rattle.pt_rowfile.specs.Records.{IsRecord}
use Rattle.pt_holds.specs.Acts.{rows_text}
use Rattle.pt_session.proofs.altering.text_of.Given as goal

abbrev pub invariant-loop-row : goal.invariant-loop-row
invariant-loop-row l = (l.text.items ≡ rows_text (take l.row-index l.rows)) × All (λ (row : Row). IsRecord (Put row)) (take l.row-index l.rows)
