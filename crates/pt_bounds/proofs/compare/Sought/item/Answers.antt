use Rattle.std.proofs.Common.{slice_get, sym, ap, ◌∙◌, Some}
use Rattle.pt_ast.specs.declared.table.Bound.TheVariants.{Val}
use Rattle.pt_bounds.specs.Sought.{items_of}
use Rattle.pt_bounds.proofs.Tuples.{column_item, get_here, no_column_item}
use Rattle.std.proofs.lemmas.Option.{slice_get_past}
use Rattle.pt_bounds.proofs.compare.Sought.item.Goals as goal

pub returns-in-Some : goal.returns-in-Some
returns-in-Some c =
    let found = c.in-Some.ensures.lookup in
    ap (λ v. Some (Val v)) c.cell_at.ensures ∙ sym (ap (λ s. slice_get (items_of s) c.args.at) c.in-Columns.is ∙ column_item c.in-Columns.cells.now c.in-Columns.columns.now c.args.at c.in-Some.column.now found.3.0 found.1)

pub returns-in-None : goal.returns-in-None
returns-in-None c =
    sym (ap (λ s. slice_get (items_of s) c.args.at) c.in-Columns.is ∙ no_column_item c.in-Columns.cells.now c.in-Columns.columns.now c.args.at c.in-None.ensures.lookup.3)

pub returns-in-Some-get : goal.returns-in-Some-get
returns-in-Some-get c =
    let found = c.in-Some-get.ensures.lookup in
    ap Some c.bound_item.ensures ∙ sym (ap (λ s. slice_get (items_of s) c.args.at) c.in-Tuple.is ∙ get_here c.in-Tuple.bounds.now c.args.at c.in-Some-get.bound.now found.3.0 found.1)

pub returns-in-None-get : goal.returns-in-None-get
returns-in-None-get c =
    sym (ap (λ s. slice_get (items_of s) c.args.at) c.in-Tuple.is ∙ slice_get_past c.in-Tuple.bounds.now c.args.at c.in-None-get.ensures.lookup.3)
