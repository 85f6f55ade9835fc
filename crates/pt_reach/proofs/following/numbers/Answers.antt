use Rattle.std.proofs.Common.{rules, SFits, ◌∙◌}
use Rattle.std.specs.Int.{w128}
use Rattle.std.specs.Option.{option_copied}
use Rattle.std.proofs.lemmas.Int.{to_z-of_z}
use Rattle.pt_reach.specs.May.{may_hold}
use Rattle.pt_reach.proofs.Filled.{numbers_in}
use Rattle.pt_reach.proofs.following.numbers.Goals as goal

pub returns : goal.returns
returns c =
    let low : SFits w128 c.args.low = search rules in
    let end : SFits w128 c.args.end = search rules in
    numbers_in (may_hold c.args.columns.now c.args.at (option_copied c.args.cond)) c.args.low c.args.high _ _ c.in_ok-reach.reach c.in_ok-spans.spans (to_z-of_z w128 c.args.low low) (to_z-of_z w128 c.args.end end ∙ c.requires.end)
    c.requires.low c.requires.high c.in_ok-reach.ensures c.in_ok-spans.ensures
