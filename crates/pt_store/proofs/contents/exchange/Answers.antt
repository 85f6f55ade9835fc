use Rattle.std.proofs.Common.{None}
use Rattle.pt_host.specs.Disk.{put}
use Rattle.pt_host.specs.Images.{AreSame}
use Rattle.pt_store.specs.Contents.{files_in}
use Rattle.pt_store.proofs.Maps.{exchanged, on_ok, put_in}
use Rattle.pt_store.proofs.contents.exchange.Goals as goal

pub returns : goal.returns
returns c =
    let f = files_in c.args.contents.now in
    let a = c.args.a.now in
    let b = c.args.b.now in
    on_ok c.put-2.result (AreSame (put (files_in c.put.new.contents) b c.remove-first.result) (files_in c.put-2.new.contents)) (AreSame (put (put f a (f b)) b (f a)) (files_in c.put-2.new.contents))
    (exchanged f (files_in c.remove-first.new.self) (files_in c.remove-second.new.self) (files_in c.put.new.contents) (files_in c.put-2.new.contents) a b c.remove-first.result c.remove-second.result
    c.remove-first.ensures.value (put_in c.args.contents.now c.remove-first.new.self a None c.remove-first.ensures.updates.0)
    c.remove-second.ensures.value (put_in c.remove-first.new.self c.remove-second.new.self b None c.remove-second.ensures.updates.0)
    c.in_ok-put.ensures)
    c.put-2.ensures
