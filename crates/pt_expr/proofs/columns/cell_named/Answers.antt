use Rattle.std.proofs.Common.{◌<◌, ◌∙◌, sym, ap, length, arith}
use Rattle.pt_expr.proofs.Nodes.{cell_further, cell_here, fitting_length}
use Rattle.pt_expr.proofs.columns.cell_named.Goals as goal

pub bounds-items-at : goal.bounds-items-at
bounds-items-at c = omega (arith, ap length c.items.ensures, ap length c.items-column-items.ensures, fitting_length c.args.columns.now c.args.cells.now c.requires)

pub returns-then-is_named : goal.returns-then-is_named
returns-then-is_named c =
    let first : c.loop-at.at < length c.args.columns.now = omega (arith, ap length c.items-column-items.ensures) in
    let second : c.loop-at.at < length c.args.cells.now = omega (arith, fitting_length c.args.columns.now c.args.cells.now c.requires) in
    let this = rw c.items-column-items.ensures at c.column-item.is in
    let that = rw c.items.ensures at c.index-items-at.is in
    c.cell.ensures ∙ sym (cell_here c.args.name.now c.args.columns.now c.args.cells.now c.loop-at.at c.column-item.result c.index-items-at.result first second this that (sym c.is_named.ensures ∙ c.if-is_named.true)) ∙ c.loop-at.invariant

pub loop-at-preserved : goal.loop-at-preserved
loop-at-preserved c =
    let first : c.loop-at.at < length c.args.columns.now = omega (arith, ap length c.items-column-items.ensures) in
    let second : c.loop-at.at < length c.args.cells.now = omega (arith, fitting_length c.args.columns.now c.args.cells.now c.requires) in
    let this = rw c.items-column-items.ensures at c.column-item.is in
    sym (cell_further c.args.name.now c.args.columns.now c.args.cells.now c.loop-at.at c.column-item.result first second this (sym c.is_named.ensures ∙ c.if-is_named.false)) ∙ c.loop-at.invariant
