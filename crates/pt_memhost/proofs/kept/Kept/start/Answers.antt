use Rattle.pt_memhost.proofs.Story.{mirrors_start}
use Rattle.pt_memhost.proofs.kept.Kept.start.Goals as goal

pub invariant_of-result : goal.invariant_of-result
invariant_of-result c =
    mirrors_start c.args.files.now c.in_ok-copy_files.field-0 c.args.input.now c.in_ok-at_start.field-0.input c.new.result.items c.in_ok-at_start.field-0
    c.in_ok-copy_files.ensures c.in_ok-at_start.ensures.input c.new.ensures.items c.in_ok-at_start.ensures.mirrors
