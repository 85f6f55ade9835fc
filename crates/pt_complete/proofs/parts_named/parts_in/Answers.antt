use Rattle.std.proofs.Common.{◌∙◌, ◌++◌, ◌∷◌, [], ap, sym, map}
use Rattle.pt_place.specs.Fitting.{kinds_of}
use Rattle.pt_written.specs.WrittenParts.{part_in}
use Rattle.pt_complete.proofs.Naming.{err_made, made_err, made_ok, mapped_at, mapped_within, named_found, named_more, ok_then, written_part}
use Rattle.pt_complete.proofs.parts_named.parts_in.Goals as goal

pub returns-in-Err : goal.returns-in-Err
returns-in-Err c =
    err_made _ _ c.in-Err.refusal (named_found (map (part_in (kinds_of c.args.columns.now c.args.by.now) c.args.by.now c.args.sub.now c.args.count) c.args.items.now) c.loop-item.item-index c.loop-item.names c.loop-item.parts c.loop-item.invariant ((part_in (kinds_of c.args.columns.now c.args.by.now) c.args.by.now c.args.sub.now c.args.count) c.item-item.result) (mapped_within (part_in (kinds_of c.args.columns.now c.args.by.now) c.args.by.now c.args.sub.now c.args.count) c.args.items.now c.loop-item.item-index c.loop-item-test.true) (mapped_at (part_in (kinds_of c.args.columns.now c.args.by.now) c.args.by.now c.args.sub.now c.args.count) c.args.items.now c.loop-item.item-index c.item-item.result c.loop-item-test.true c.item-item.is) c.in-Err.refusal (made_err _ _ c.in-Err.refusal (sym c.in-Err.is ∙ c.in_ok-subs.ensures.made)))

pub loop-item-preserved : goal.loop-item-preserved
loop-item-preserved c =
    let made = made_ok _ _ c.in-Ok.subs (sym c.in-Ok.is ∙ c.in_ok-subs.ensures.made) in
    named_more (map (part_in (kinds_of c.args.columns.now c.args.by.now) c.args.by.now c.args.sub.now c.args.count) c.args.items.now) c.loop-item.item-index c.loop-item.names c.loop-item.parts c.loop-item.invariant ((part_in (kinds_of c.args.columns.now c.args.by.now) c.args.by.now c.args.sub.now c.args.count) c.item-item.result) (mapped_within (part_in (kinds_of c.args.columns.now c.args.by.now) c.args.by.now c.args.sub.now c.args.count) c.args.items.now c.loop-item.item-index c.loop-item-test.true) (mapped_at (part_in (kinds_of c.args.columns.now c.args.by.now) c.args.by.now c.args.sub.now c.args.count) c.args.items.now c.loop-item.item-index c.item-item.result c.loop-item-test.true c.item-item.is) _ _ made.0
    (ok_then c.in_ok-subs.field-0 c.in-Ok.subs _ c.in-Ok.is c.in_ok-subs.ensures.names)
    (c.in_ok-push.ensures.ok ∙ ap (λ p. c.loop-item.parts ++ p ∷ []) (written_part c.item-item.result.name c.in_ok-bounds.bounds _ c.in-Ok.subs _ c.in_ok-bounds.ensures made.1))
