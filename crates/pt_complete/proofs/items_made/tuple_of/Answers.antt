use Rattle.std.proofs.Common.{◌∙◌, ◌++◌, ◌∷◌, [], ap, sym}
use Rattle.pt_place.specs.Fitting.{kinds_of}
use Rattle.pt_complete.proofs.Sound.{all_constants, next_constants, tuple_end, tuple_more, tuple_short}
use Rattle.pt_complete.proofs.items_made.tuple_of.Goals as goal

pub returns-in_default : goal.returns-in_default
returns-in_default c = tuple_short (kinds_of c.args.columns.now c.args.by.now) c.args.items.now c.loop-at.at c.loop-at.tuple c.loop-at.invariant.0 (sym c.in_default.ensures)

pub bound_of-requires : goal.bound_of-requires
bound_of-requires c =
    (all_constants (kinds_of c.args.columns.now c.args.by.now) c.args.items.now c.loop-at.at c.in-Some.kind c.index-items-at.result c.loop-at-test.true (sym c.in-Some.ensures) c.index-items-at.is c.loop-at.invariant.1).0

pub loop-at-preserved : goal.loop-at-preserved
loop-at-preserved c = (
  tuple_more (kinds_of c.args.columns.now c.args.by.now) c.args.items.now c.loop-at.at c.loop-at.tuple c.loop-at.invariant.0 c.in-Some.kind c.index-items-at.result _ c.loop-at-test.true (sym c.in-Some.ensures) c.index-items-at.is
      (c.in_ok-push.ensures.ok ∙ ap (λ b. c.loop-at.tuple ++ b ∷ []) c.in_ok-bound_of.ensures),
  next_constants (kinds_of c.args.columns.now c.args.by.now) c.args.items.now c.loop-at.at c.in-Some.kind c.index-items-at.result c.loop-at-test.true (sym c.in-Some.ensures) c.index-items-at.is c.loop-at.invariant.1,
)

pub returns : goal.returns
returns c = tuple_end (kinds_of c.args.columns.now c.args.by.now) c.args.items.now c.loop-at.at c.loop-at.tuple c.loop-at.invariant.0 c.loop-at-test.false
