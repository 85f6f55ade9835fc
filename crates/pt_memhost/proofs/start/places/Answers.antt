use Rattle.std.proofs.Common.{◌≡◌, ◌-◌, ◌∙◌, ap, arith}
use Rattle.std.specs.Prelude.{Some}
use Rattle.pt_host.specs.Disk.{Names, put}
use Rattle.pt_memhost.proofs.Places.{places_from, places_step}
use Rattle.pt_memhost.proofs.start.places.Goals as goal

pub loop-place-preserved : goal.loop-place-preserved
loop-place-preserved c =
    c.in_ok-set.ensures.kept
    ∙ ap (λ (names : Names). put names c.index-files-place.result.0 (Some (c.loop-place.place - 1))) c.loop-place.invariant
    ∙ places_step (c.loop-place.place - 1) c.loop-place.place c.args.files.now c.index-files-place.result (omega arith) (omega arith) c.index-files-place.is

pub returns : goal.returns
returns c =
    let e : c.loop-place.place ≡ 0 = omega arith in
    c.loop-place.invariant ∙ ap (λ n. places_from n c.args.files.now) e
