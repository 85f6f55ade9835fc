use Rattle.std.proofs.Common.{Some, None}
use Rattle.pt_host.specs.Disk.{put, moved}
use Rattle.pt_host.specs.Images.{AreSame}
use Rattle.pt_store.specs.Contents.{files_in}
use Rattle.pt_store.proofs.Maps.{renamed, on_ok, put_in}
use Rattle.pt_store.proofs.contents.rename.Goals as goal

pub returns : goal.returns
returns c =
    let f = files_in c.args.contents.now in
    let from = c.args.from.now in
    let to = c.args.to.now in
    on_ok c.put.result (AreSame (put (files_in c.remove.new.self) to (Some c.in-Some.bytes)) (files_in c.put.new.contents)) (AreSame (moved f from to (f from)) (files_in c.put.new.contents))
    (renamed f (files_in c.remove.new.self) (files_in c.put.new.contents) from to c.remove.result c.in-Some.bytes c.remove.ensures.value c.in-Some.is
    (put_in c.args.contents.now c.remove.new.self from None c.remove.ensures.updates.0))
    c.put.ensures
