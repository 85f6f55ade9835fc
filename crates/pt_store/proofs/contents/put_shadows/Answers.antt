use Rattle.std.proofs.Common.{ℕ, ◌≤◌, List, length, take, Some, sym, subst, ◌∙◌}
use Rattle.pt_host.specs.Disk.{put}
use Rattle.pt_host.specs.Images.{AreSame}
use Rattle.pt_store.specs.Reshape.{with_shadows}
use Rattle.pt_store.specs.Contents.{files_in}
use Rattle.pt_store.proofs.Maps.{shadows_more, taken}
use Rattle.pt_store.proofs.contents.put_shadows.Goals as goal

pub shadow-requires : goal.shadow-requires
shadow-requires c =
    subst (λ (file : List ℕ × List ℕ). length file.0 ≤ 154) (sym c.loop-name-item.is) (c.requires c.loop-name.name-index c.loop-name-item.result c.loop-name-test.true)

pub loop-name-preserved : goal.loop-name-preserved
loop-name-preserved c =
    let f = files_in c.args.contents.now in
    let g = files_in c.loop-name.contents in
    let h = files_in c.put.new.contents in
    let file = c.loop-name-item.result in
    subst (λ files. AreSame (with_shadows files f) h) (sym (taken c.args.fresh.now c.loop-name.name-index file c.loop-name-test.true c.loop-name-item.is))
    (shadows_more (take c.loop-name.name-index c.args.fresh.now) file f g h c.loop-name.invariant
    (subst (λ name. AreSame (put g name (Some file.1)) h) c.shadow.ensures
    (subst (λ bytes. AreSame (put g c.shadow.result (Some bytes)) h) (c.in_ok-copy.ensures ∙ c.items.ensures) c.in_ok-put.ensures)))
