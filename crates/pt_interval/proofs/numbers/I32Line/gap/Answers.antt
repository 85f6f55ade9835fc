use mir.Syntax.{w32, w128}
use mir.Val.{of_z, to_z}
use Rattle.std.proofs.Common.{ap, ◌∙◌}
use Rattle.std.specs.Prelude.{unwrap_or}
use Rattle.std.specs.Option.{option_copied}
use Rattle.pt_interval.specs.Instances.{greatest_day, least_day, day_fits}
use Rattle.pt_interval.proofs.Gap.{passed_gap_below, passed_gap_last, day_passed}
use Rattle.pt_interval.proofs.numbers.I32Line.gap.Goals as goal

pub returns-in-Some : goal.returns-in-Some
returns-in-Some c =
    passed_gap_below least_day greatest_day day_fits (λ z. to_z w128 (of_z w128 (to_z w32 (of_z w32 z)))) day_passed (option_copied c.args.from) (option_copied c.args.to) c.unwrap_or-from.result c.in-Some.to.now c.args.limit c.count_below.result
    c.requires.from c.requires.to (c.unwrap_or-from.ensures ∙ ap (λ o. unwrap_or o least_day) c.copied.ensures) (ap option_copied c.in-Some.is) c.count_below.ensures.none c.count_below.ensures.some

pub returns-in-None : goal.returns-in-None
returns-in-None c =
    passed_gap_last least_day greatest_day day_fits (λ z. to_z w128 (of_z w128 (to_z w32 (of_z w32 z)))) day_passed (option_copied c.args.from) (option_copied c.args.to) c.unwrap_or-from.result c.args.limit c.count_up_to.result
    c.requires.from (c.unwrap_or-from.ensures ∙ ap (λ o. unwrap_or o least_day) c.copied.ensures) (ap option_copied c.in-None.is) c.count_up_to.ensures
