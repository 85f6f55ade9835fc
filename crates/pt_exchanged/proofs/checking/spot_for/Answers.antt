use Rattle.std.proofs.Common.{◌≡◌, true, rules, sym, subst}
use Rattle.std.specs.Prelude.{List}
use Rattle.std.specs.List.{All}
use Rattle.std.proofs.lemmas.List.Elements.{All-weaker}
use Rattle.pt_ast.specs.declared.database.Row.{Row}
use Rattle.pt_expr.specs.Columns.{AreFitting}
use Rattle.pt_show.specs.Structure.{same_structure}
use Rattle.pt_exchanged.proofs.Same.{fits_first}
use Rattle.pt_exchanged.proofs.checking.spot_for.Goals as goal

pub misplaced-requires-clause-fitting : goal.misplaced-requires-clause-fitting
misplaced-requires-clause-fitting c =
    let table = c.args.table.now in
    let beside = c.args.beside.now in
    let same : same_structure table.def beside.def ≡ true = search rules in
    subst (λ (rows : List Row). All (λ (row : Row). AreFitting table.def.columns row.cells) rows) (sym c.items.ensures)
    (All-weaker (λ (row : Row). AreFitting beside.def.columns row.cells) (λ (row : Row). AreFitting table.def.columns row.cells) (λ row fits. fits_first table.def beside.def same row.cells fits) beside.rows c.requires.fitting)
