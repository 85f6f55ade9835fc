use Rattle.std.specs.List.{All}
use Rattle.pt_ast.specs.declared.database.Row.{Row}
use Rattle.pt_expr.specs.Columns.{AreFitting}
use Rattle.std.proofs.Common.{List, subst, sym, ap, ◌∙◌}
use Rattle.pt_spread.specs.Spread.{by_serial}
use Rattle.pt_spread.proofs.Given.{ordered_all}
use Rattle.pt_spread.proofs.spreading.spread.Goals as goal

pub first_unplaced-requires-clause-fitting : goal.first_unplaced-requires-clause-fitting
first_unplaced-requires-clause-fitting c =
    subst (λ (rows : List Row). All (λ (row : Row). AreFitting c.args.def.now.columns row.cells) rows) (sym c.as_slice.ensures.value)
    (subst (λ (rows : List Row). All (λ (row : Row). AreFitting c.args.def.now.columns row.cells) rows) (sym (c.in_ok-sort.ensures ∙ ap by_serial c.into_vec-rows.ensures))
    (ordered_all (λ (row : Row). AreFitting c.args.def.now.columns row.cells) c.args.rows c.requires.fitting))

pub in_spots-requires-clause-fitting : goal.in_spots-requires-clause-fitting
in_spots-requires-clause-fitting c =
    subst (λ (rows : List Row). All (λ (row : Row). AreFitting c.args.def.now.columns row.cells) rows) (sym (c.in_ok-sort.ensures ∙ ap by_serial c.into_vec-rows.ensures))
    (ordered_all (λ (row : Row). AreFitting c.args.def.now.columns row.cells) c.args.rows c.requires.fitting)
