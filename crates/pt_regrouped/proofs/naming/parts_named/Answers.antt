use Rattle.std.proofs.Common.{◌≡◌, ◌∙◌, ◌++◌, map, sym}
use Rattle.pt_complete.proofs.Naming.{err_made, none_then, ok_made}
use Rattle.pt_regrouped.specs.NewParts.{new_part}
use Rattle.pt_regrouped.proofs.Beside.{all_none, all_parts, behind_found, front_found, new_found}
use Rattle.pt_regrouped.proofs.naming.parts_named.Goals as goal

pub returns-in-Some : goal.returns-in-Some
returns-in-Some c =
    err_made _ _ c.in-Some.refusal
    (front_found c.args.front.now (map (new_part c.args.def.now) c.args.items.now) c.args.behind.now c.new-parts.result c.put_old.new.parts c.put_old.new.parts c.put_old.new.parts c.new-parts.ensures
    c.in-Some.refusal (sym c.in_ok-refusal.ensures.refusal ∙ c.in-Some.is))

pub returns-in-Some-2 : goal.returns-in-Some-2
returns-in-Some-2 c =
    err_made _ _ c.in-Some-2.refusal
    (new_found c.args.front.now (map (new_part c.args.def.now) c.args.items.now) c.args.behind.now c.new-parts.result c.put_old.new.parts c.put_old.new.parts c.put_old.new.parts c.new-parts.ensures
    (sym c.in_ok-refusal.ensures.refusal ∙ c.in_default.is)
    (none_then c.in_ok-refusal.field-0 (c.put_old.new.parts ≡ c.new-parts.result ++ c.args.front.now) c.in_default.is c.in_ok-refusal.ensures.parts)
    c.in-Some-2.refusal (sym c.in_ok-refusal-2.ensures.refusal ∙ c.in-Some-2.is))

pub returns-in-Some-3 : goal.returns-in-Some-3
returns-in-Some-3 c =
    err_made _ _ c.in-Some-3.refusal
    (behind_found c.args.front.now (map (new_part c.args.def.now) c.args.items.now) c.args.behind.now c.new-parts.result c.put_old.new.parts c.put_new.new.parts c.put_new.new.parts c.new-parts.ensures
    (sym c.in_ok-refusal.ensures.refusal ∙ c.in_default.is)
    (none_then c.in_ok-refusal.field-0 (c.put_old.new.parts ≡ c.new-parts.result ++ c.args.front.now) c.in_default.is c.in_ok-refusal.ensures.parts)
    (sym c.in_ok-refusal-2.ensures.refusal ∙ c.in_default-2.is)
    (none_then c.in_ok-refusal-2.field-0 (c.put_new.new.parts ≡ c.put_old.new.parts ++ map (new_part c.args.def.now) c.args.items.now) c.in_default-2.is c.in_ok-refusal-2.ensures.parts)
    c.in-Some-3.refusal (sym c.in_ok-refusal-3.ensures.refusal ∙ c.in-Some-3.is))

pub returns : goal.returns
returns c =
    let front_none = sym c.in_ok-refusal.ensures.refusal ∙ c.in_default.is in
    let front_put = none_then c.in_ok-refusal.field-0 (c.put_old.new.parts ≡ c.new-parts.result ++ c.args.front.now) c.in_default.is c.in_ok-refusal.ensures.parts in
    let new_none = sym c.in_ok-refusal-2.ensures.refusal ∙ c.in_default-2.is in
    let new_put = none_then c.in_ok-refusal-2.field-0 (c.put_new.new.parts ≡ c.put_old.new.parts ++ map (new_part c.args.def.now) c.args.items.now) c.in_default-2.is c.in_ok-refusal-2.ensures.parts in
    ok_made _ _ c.put_old-2.new.parts
    (all_none c.args.front.now (map (new_part c.args.def.now) c.args.items.now) c.args.behind.now c.new-parts.result c.put_old.new.parts c.put_new.new.parts c.put_old-2.new.parts c.new-parts.ensures front_none front_put new_none new_put
    (sym c.in_ok-refusal-3.ensures.refusal ∙ c.in_default-3.is))
    (all_parts c.args.front.now (map (new_part c.args.def.now) c.args.items.now) c.args.behind.now c.new-parts.result c.put_old.new.parts c.put_new.new.parts c.put_old-2.new.parts c.new-parts.ensures front_none front_put new_none new_put
    (none_then c.in_ok-refusal-3.field-0 (c.put_old-2.new.parts ≡ c.put_new.new.parts ++ c.args.behind.now) c.in_default-3.is c.in_ok-refusal-3.ensures.parts))
