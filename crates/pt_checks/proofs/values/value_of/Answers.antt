use Rattle.std.proofs.Common.{◌≡◌, ◌∙◌, [], refl}
use Rattle.std.proofs.lemmas.Result.{IfOk-weaker}
use Rattle.pt_value.specs.Cell.{lent}
use Rattle.pt_checks.specs.Cells.{value_for}
use Rattle.pt_checks.proofs.values.value_of.Goals as goal

pub kept-requires : goal.kept-requires
kept-requires c = rw (c.eval.ensures.value, c.new-columns.ensures, c.new-cells.ensures, c.is_date.ensures) c.requires.1

pub returns : goal.returns
returns c =
    let same : lent c.eval.result ≡ value_for [] [] c.args.kind c.args.expr.now = rw (c.eval.ensures.value, c.new-columns.ensures, c.new-cells.ensures, c.is_date.ensures) refl in
    IfOk-weaker c.kept.result _ _ (λ v is. is ∙ same) c.kept.ensures
