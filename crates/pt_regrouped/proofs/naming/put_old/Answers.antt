use Rattle.std.proofs.Common.{◌≡◌, ◌∙◌, ◌++◌, ◌∷◌, [], sym}
use Rattle.pt_place.specs.Checks.{part_names}
use Rattle.pt_complete.proofs.Naming.{none_then}
use Rattle.pt_regrouped.proofs.Beside.{added_found, added_more}
use Rattle.pt_regrouped.proofs.naming.put_old.Goals as goal

pub returns-in-Some-clause-refusal : goal.returns-in-Some-clause-refusal
returns-in-Some-clause-refusal c =
    sym (added_found c.args.parts.now c.args.old.now c.loop-part.part-index c.loop-part.names c.loop-part.parts c.loop-part.invariant c.part-item.result c.loop-part-test.true c.part-item.is
    c.in-Some.refusal (sym c.in_ok-refusal.ensures.refusal ∙ c.in-Some.is))

pub loop-part-preserved : goal.loop-part-preserved
loop-part-preserved c =
    added_more c.args.parts.now c.args.old.now c.loop-part.part-index c.loop-part.names c.loop-part.parts c.loop-part.invariant c.part-item.result c.loop-part-test.true c.part-item.is
    c.put_old_part.new.names c.put_old_part.new.parts
    (sym c.in_ok-refusal.ensures.refusal ∙ c.in_default.is)
    (none_then c.in_ok-refusal.field-0 (c.put_old_part.new.names ≡ part_names c.put_old_part.new.parts) c.in_default.is c.in_ok-refusal.ensures.names)
    (none_then c.in_ok-refusal.field-0 (c.put_old_part.new.parts ≡ c.loop-part.parts ++ c.part-item.result ∷ []) c.in_default.is c.in_ok-refusal.ensures.parts)
