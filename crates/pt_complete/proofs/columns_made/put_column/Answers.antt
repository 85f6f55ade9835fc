use Rattle.std.proofs.Common.{◌∙◌, ◌++◌, ap, sym}
use Rattle.pt_ast.specs.declared.written.Item.TheVariants as text
use Rattle.pt_complete.proofs.Columns.{put_column, put_none, put_some}
use Rattle.pt_complete.proofs.columns_made.put_column.Goals as goal

pub returns-in_ok-push-in-Ok-clause-refusal : goal.returns-in_ok-push-in-Ok-clause-refusal
returns-in_ok-push-in-Ok-clause-refusal c =
    put_none c.args.primary.now c.args.names.now c.in-Column.name c.in-Column.kind c.items.result.now c.args.item.now (c.in-Column.is ∙ ap (λ o. text.Column c.in-Column.name c.in-Column.kind o) (sym c.items.ensures)) c.in-Ok.column (sym c.in-Ok.is ∙ c.in_ok-column-in-Column.ensures)

pub returns-in_ok-push-in-Ok-clause-columns : goal.returns-in_ok-push-in-Ok-clause-columns
returns-in_ok-push-in-Ok-clause-columns c =
    c.in_ok-push-in-Ok.ensures.ok
    ∙ ap (λ l. c.args.columns.now ++ l)
    (put_column c.args.primary.now c.args.names.now c.in-Column.name c.in-Column.kind c.items.result.now c.args.item.now (c.in-Column.is ∙ ap (λ o. text.Column c.in-Column.name c.in-Column.kind o) (sym c.items.ensures)) c.in-Ok.column (sym c.in-Ok.is ∙ c.in_ok-column-in-Column.ensures))

pub returns-in-Err-clause-refusal : goal.returns-in-Err-clause-refusal
returns-in-Err-clause-refusal c =
    put_some c.args.primary.now c.args.names.now c.in-Column.name c.in-Column.kind c.items.result.now c.args.item.now (c.in-Column.is ∙ ap (λ o. text.Column c.in-Column.name c.in-Column.kind o) (sym c.items.ensures)) c.in-Err.refusal (sym c.in-Err.is ∙ c.in_ok-column-in-Column.ensures)
