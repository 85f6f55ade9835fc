use Rattle.std.proofs.Common.{Some, None, sym, subst}
use Rattle.pt_host.specs.Disk.{put}
use Rattle.pt_host.specs.Images.{AreSame}
use Rattle.pt_store.specs.Contents.{files_in}
use Rattle.pt_store.proofs.Maps.{put_in}
use Rattle.pt_store.proofs.contents.put.Goals as goal

pub returns-in_default : goal.returns-in_default
returns-in_default c =
    subst (λ to. AreSame (put (files_in c.args.contents.now) c.args.name.now to) (files_in c.remove.new.self)) (sym c.in_default.is)
    (put_in c.args.contents.now c.remove.new.self c.args.name.now None c.remove.ensures.updates.0)

pub returns : goal.returns
returns c =
    subst (λ to. AreSame (put (files_in c.args.contents.now) c.args.name.now to) (files_in c.insert.new.self)) (sym c.in-Some.is)
    (put_in c.args.contents.now c.insert.new.self c.args.name.now (Some c.in-Some.bytes) c.in_ok-insert.ensures.updates.0)
