use Rattle.std.proofs.Common.{◌∙◌, ap, drop, length, sym, take}
use Rattle.std.specs.List.{prefix_len}
use Rattle.pt_regrouped.specs.Regrouped.{front_of, is_named, rest_of}
use Rattle.pt_regrouped.proofs.Answered.{replaced_made, replaced_refused}
use Rattle.pt_regrouped.proofs.regrouping.parts_replaced.Goals as goal

pub returns-in-Some : goal.returns-in-Some
returns-in-Some c =
    let rest = c.split_front.ensures.rest ∙ ap (rest_of c.args.named.now) c.items.ensures in
    replaced_refused c.args.table.now c.args.named.now c.args.items.now c.args.def.now c.split_front.result.0.now c.split_group.result.0.now c.split_group.result.1.now c.in-Ok.parts c.slice_of-new.result.now
    (c.split_front.ensures.front ∙ ap (front_of c.args.named.now) c.items.ensures)
    (c.split_group.ensures.group ∙ ap (λ l. take (prefix_len (is_named c.args.named.now) l) l) rest)
    (c.split_group.ensures.behind ∙ ap (λ l. drop (prefix_len (is_named c.args.named.now) l) l) rest)
    (sym c.has_named.ensures ∙ c.if-has_named.false)
    (sym c.in-Ok.is ∙ c.in_ok-parts.ensures)
    (c.slice_of-new.ensures ∙ ap (λ l. take (length c.args.items.now) (drop (length c.split_front.result.0.now) l)) c.items-2.ensures)
    c.in-Some.refusal c.in-Some.ensures

pub returns : goal.returns
returns c =
    let rest = c.split_front.ensures.rest ∙ ap (rest_of c.args.named.now) c.items.ensures in
    replaced_made c.args.table.now c.args.named.now c.args.items.now c.args.def.now c.split_front.result.0.now c.split_group.result.0.now c.split_group.result.1.now c.in-Ok.parts c.slice_of-new.result.now
    (c.split_front.ensures.front ∙ ap (front_of c.args.named.now) c.items.ensures)
    (c.split_group.ensures.group ∙ ap (λ l. take (prefix_len (is_named c.args.named.now) l) l) rest)
    (c.split_group.ensures.behind ∙ ap (λ l. drop (prefix_len (is_named c.args.named.now) l) l) rest)
    (sym c.has_named.ensures ∙ c.if-has_named.false)
    (sym c.in-Ok.is ∙ c.in_ok-parts.ensures)
    (c.slice_of-new.ensures ∙ ap (λ l. take (length c.args.items.now) (drop (length c.split_front.result.0.now) l)) c.items-2.ensures)
    c.in_default.ensures
