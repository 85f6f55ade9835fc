use Rattle.std.proofs.Common.{rules}
use Rattle.std.specs.List.{All}
use Rattle.pt_ast.specs.declared.database.Row.{Row}
use Rattle.pt_expr.specs.Columns.{AreFitting}
use Rattle.pt_place.specs.Valid.{IsValid}
use Rattle.pt_db.specs.Sound.{IsSoundRow}
use Rattle.pt_db.proofs.Sounds.{sound_table}
use Rattle.std.proofs.lemmas.List.Elements.{All-weaker}
use Rattle.pt_exchanged.proofs.Tables.{if_found}
use Rattle.pt_exchanged.proofs.lookup.table_of.Goals as goal

pub returns-clause-valid : goal.returns-clause-valid
returns-clause-valid c = if_found (λ table. IsValid table.def) c.args.db.now c.args.name.now _ (search rules) (λ table at. (sound_table c.args.db.now c.requires c.args.name.now table at).valid)

pub returns-clause-fitting : goal.returns-clause-fitting
returns-clause-fitting c =
    if_found (λ table. All (λ (row : Row). AreFitting table.def.columns row.cells) table.rows) c.args.db.now c.args.name.now _ (search rules)
    (λ table at.
    All-weaker (IsSoundRow c.args.db.now.next table.def) (λ (row : Row). AreFitting table.def.columns row.cells) (λ row s. s.fits) table.rows (sound_table c.args.db.now c.requires c.args.name.now table at).rows.each)
