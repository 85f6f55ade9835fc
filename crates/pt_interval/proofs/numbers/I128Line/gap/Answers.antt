use mir.Syntax.{w128}
use mir.Val.{of_z, to_z}
use Rattle.std.proofs.Common.{ap, ◌∙◌}
use Rattle.std.specs.Prelude.{unwrap_or}
use Rattle.std.specs.Option.{option_copied}
use Rattle.pt_interval.specs.Instances.{greatest_wide, least_wide, wide_fits}
use Rattle.pt_interval.proofs.Gap.{passed_gap_below, passed_gap_last, wide_passed}
use Rattle.pt_interval.proofs.numbers.I128Line.gap.Goals as goal

pub returns-in-Some : goal.returns-in-Some
returns-in-Some c =
    passed_gap_below least_wide greatest_wide wide_fits (λ z. to_z w128 (of_z w128 z)) wide_passed (option_copied c.args.from) (option_copied c.args.to) c.unwrap_or-from.result c.in-Some.to.now c.args.limit c.count_below.result
    c.requires.from c.requires.to (c.unwrap_or-from.ensures ∙ ap (λ o. unwrap_or o least_wide) c.copied.ensures) (ap option_copied c.in-Some.is) c.count_below.ensures.none c.count_below.ensures.some

pub returns-in-None : goal.returns-in-None
returns-in-None c =
    passed_gap_last least_wide greatest_wide wide_fits (λ z. to_z w128 (of_z w128 z)) wide_passed (option_copied c.args.from) (option_copied c.args.to) c.unwrap_or-from.result c.args.limit c.count_up_to.result
    c.requires.from (c.unwrap_or-from.ensures ∙ ap (λ o. unwrap_or o least_wide) c.copied.ensures) (ap option_copied c.in-None.is) c.count_up_to.ensures
