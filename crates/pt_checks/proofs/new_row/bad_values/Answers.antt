use Rattle.std.proofs.Common.{◌∙◌, sym}
use Rattle.pt_checks.proofs.Given.{bad_more, given_more}
use Rattle.pt_checks.proofs.new_row.bad_values.Goals as goal

pub loop-at-preserved : goal.loop-at-preserved
loop-at-preserved c =
    let more = bad_more c.args.columns.now c.args.number c.args.targets.now c.args.specs.now c.loop-at.at c.index-specs-at.result c.loop-at-test.true c.requires c.index-specs-at.is (sym c.in_default.ensures.refusal) in (
      sym more ∙ c.loop-at.invariant.0,
      given_more c.args.columns.now c.args.targets.now c.args.specs.now c.loop-at.at c.index-specs-at.result c.loop-at-test.true c.index-specs-at.is c.in_default.ensures.passed c.loop-at.invariant.1,
    )
