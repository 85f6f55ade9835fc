use Rattle.std.proofs.Common.{ap, not, rules, ◌==◌, ◌∙◌}
use Rattle.std.specs.List.{filter}
use Rattle.std.proofs.lemmas.Fn.{filter_same}
use Rattle.pt_ast.specs.declared.database.Row.{Row}
use Rattle.pt_ast.specs.declared.database.Spot.{Spot}
use Rattle.pt_dml.proofs.work.without_row.Goals as goal

pub returns : goal.returns
returns c =
    c.of.ensures
    ∙ filter_same _ _ _ (λ x b f' k. search rules) _ _ c.retain.ensures.filtered
    ∙ ap (filter (λ (put : Spot × Row). not (put.1.serial == c.args.serial))) c.into_vec-left.ensures
