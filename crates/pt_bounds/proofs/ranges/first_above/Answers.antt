use Rattle.std.proofs.Common.{rules, of_calls, not, sym}
use Rattle.std.proofs.lemmas.Fn.{always_returns_same}
use Rattle.pt_ast.specs.Ranges.{is_above}
use Rattle.pt_bounds.specs.Sought.{items_of}
use Rattle.pt_bounds.proofs.Firsts.{point_none, point_some}
use Rattle.pt_bounds.proofs.Rising.{parted}
use Rattle.pt_bounds.proofs.ranges.first_above.Goals as goal

pub returns-then-at-parts : goal.returns-then-at-parts
returns-then-at-parts c =
    let tuple = items_of c.args.sought in
    let point = c.partition_point-at.ensures.partitioned (λ part. not (is_above tuple part)) (always_returns_same _ _ _ (λ a r f k. search (rules, of_calls))) (parted c.args.parts.now tuple c.requires) in
    sym (point_some (is_above tuple) c.args.parts.now c.partition_point-at.result c.if-at-parts.true point)

pub returns-else-at-parts : goal.returns-else-at-parts
returns-else-at-parts c =
    let tuple = items_of c.args.sought in
    let point = c.partition_point-at.ensures.partitioned (λ part. not (is_above tuple part)) (always_returns_same _ _ _ (λ a r f k. search (rules, of_calls))) (parted c.args.parts.now tuple c.requires) in
    sym (point_none (is_above tuple) c.args.parts.now c.partition_point-at.result c.if-at-parts.false c.partition_point-at.ensures.bound point)
