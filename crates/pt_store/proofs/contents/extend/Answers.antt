use Rattle.std.proofs.Common.{◌++◌, Some, None, sym, ap, ◌∙◌}
use Rattle.pt_store.specs.Contents.{files_in}
use Rattle.pt_store.proofs.Maps.{extended, put_in}
use Rattle.pt_store.proofs.contents.extend.Goals as goal

pub returns : goal.returns
returns c =
    extended (files_in c.args.contents.now) (files_in c.remove.new.self) (files_in c.insert.new.self) c.args.name.now c.args.bytes.now c.in-Some.old c.of.result
    (sym c.in-Some.ensures.value) (c.of.ensures ∙ c.in_ok-extend_from_slice.ensures.items ∙ ap (λ old. old ++ c.args.bytes.now) c.into_vec-all.ensures)
    (put_in c.args.contents.now c.remove.new.self c.args.name.now None c.remove.ensures.updates.0)
    (put_in c.remove.new.self c.insert.new.self c.args.name.now (Some c.of.result) c.in_ok-insert.ensures.updates.0)
