use Rattle.std.proofs.Common.{◌≡◌, ◌∙◌, ◌++◌, ◌∷◌, [], sym, map}
use Rattle.pt_place.specs.Checks.{part_names}
use Rattle.pt_complete.proofs.Naming.{mapped_at, mapped_within, none_then}
use Rattle.pt_regrouped.specs.NewParts.{new_part}
use Rattle.pt_regrouped.proofs.Beside.{added_found, added_more}
use Rattle.pt_regrouped.proofs.naming.put_new.Goals as goal

pub returns-in-Some-clause-refusal : goal.returns-in-Some-clause-refusal
returns-in-Some-clause-refusal c =
    sym (added_found c.args.parts.now (map (new_part c.args.def.now) c.args.items.now) c.loop-item.item-index c.loop-item.names c.loop-item.parts c.loop-item.invariant (new_part c.args.def.now c.item-item.result)
    (mapped_within (new_part c.args.def.now) c.args.items.now c.loop-item.item-index c.loop-item-test.true)
    (mapped_at (new_part c.args.def.now) c.args.items.now c.loop-item.item-index c.item-item.result c.loop-item-test.true c.item-item.is)
    c.in-Some.refusal (sym c.in_ok-refusal.ensures.refusal ∙ c.in-Some.is))

pub loop-item-preserved : goal.loop-item-preserved
loop-item-preserved c =
    added_more c.args.parts.now (map (new_part c.args.def.now) c.args.items.now) c.loop-item.item-index c.loop-item.names c.loop-item.parts c.loop-item.invariant (new_part c.args.def.now c.item-item.result)
    (mapped_within (new_part c.args.def.now) c.args.items.now c.loop-item.item-index c.loop-item-test.true)
    (mapped_at (new_part c.args.def.now) c.args.items.now c.loop-item.item-index c.item-item.result c.loop-item-test.true c.item-item.is)
    c.put_new_part.new.names c.put_new_part.new.parts
    (sym c.in_ok-refusal.ensures.refusal ∙ c.in_default.is)
    (none_then c.in_ok-refusal.field-0 (c.put_new_part.new.names ≡ part_names c.put_new_part.new.parts) c.in_default.is c.in_ok-refusal.ensures.names)
    (none_then c.in_ok-refusal.field-0 (c.put_new_part.new.parts ≡ c.loop-item.parts ++ new_part c.args.def.now c.item-item.result ∷ []) c.in_default.is c.in_ok-refusal.ensures.parts)
