use Rattle.std.proofs.Common.{◌∙◌, ◌++◌, ◌∷◌, [], ap, sym}
use Rattle.pt_ast.specs.declared.table.Bound.TheVariants as bound
use Rattle.pt_ast.specs.declared.written.BoundSpec.TheVariants as written
use Rattle.pt_place.specs.Fitting.{kinds_of}
use Rattle.pt_complete.proofs.Sound.{no_tuple, one_tuple}
use Rattle.pt_complete.proofs.items_made.max_tuple.Goals as goal

pub returns-in_default : goal.returns-in_default
returns-in_default c = c.new-tuple.ensures ∙ no_tuple (kinds_of c.args.columns.now c.args.by.now) written.Max (sym c.in_default.ensures)

pub returns : goal.returns
returns c =
    c.in_ok-push.ensures.ok ∙ ap (λ l. l ++ bound.Max ∷ []) c.new-tuple.ensures
    ∙ one_tuple (kinds_of c.args.columns.now c.args.by.now) c.in-Some.field-0 written.Max (sym c.in-Some.ensures)
