use Rattle.std.proofs.Common.{◌≡◌, ap, ◌∙◌, rules}
use Rattle.indexmap.specs.IndexMap.{get}
use Rattle.pt_unique.specs.Book.{mark_eq}
use Rattle.pt_unique.specs.Holders.{lesser}
use Rattle.pt_unique.proofs.Held.{least_step, least_all}
use Rattle.pt_unique.proofs.holders.least_holder.Goals as goal

pub loop-mark-preserved : goal.loop-mark-preserved
loop-mark-preserved c =
    let got : c.copied.result ≡ get mark_eq c.args.holders.now c.mark-item.result = search rules in
    least_step (λ mark. get mark_eq c.args.holders.now mark) c.args.marks.now c.loop-mark.mark-index c.mark-item.result c.loop-mark.least c.lesser-least.result (search rules) c.mark-item.is
    c.loop-mark.invariant (c.lesser-least.ensures ∙ ap (lesser c.loop-mark.least) got)

pub returns : goal.returns
returns c = least_all (λ mark. get mark_eq c.args.holders.now mark) c.args.marks.now c.loop-mark.mark-index c.loop-mark.least (search rules) c.loop-mark.invariant
