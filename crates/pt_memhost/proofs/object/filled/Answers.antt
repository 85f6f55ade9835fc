use Rattle.std.proofs.Common.{◌∙◌, [], ◌∷◌, ◌++◌, ap, arith}
use Rattle.pt_memhost.proofs.Filled.{filled_more}
use Rattle.pt_memhost.proofs.object.filled.Goals as goal

pub loop-place-preserved : goal.loop-place-preserved
loop-place-preserved c =
    c.in_ok-push.ensures.ok
    ∙ ap (λ bytes. bytes ++ c.byte_left.result ∷ []) c.loop-place.invariant
    ∙ filled_more c.args.fill c.args.loose.now c.args.bytes.now c.loop-place.place c.byte_left.result (omega arith) c.byte_left.ensures
