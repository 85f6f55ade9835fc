use Rattle.std.proofs.Common.{◌++◌, Some, ap, ◌∙◌}
use Rattle.pt_rowfile.specs.declared.record.Record.TheVariants.{Put}
use Rattle.pt_rowfile.specs.Records.{record_bytes}
use Rattle.pt_store.specs.Contents.{files_in}
use Rattle.pt_store.proofs.Maps.{put_in}
use Rattle.pt_holds.proofs.Texts.{adds_one}
use Rattle.pt_holds.proofs.batch.add_put.Goals as goal

pub returns-clause-adds : goal.returns-clause-adds
returns-clause-adds c =
    let more = record_bytes (Put c.args.row.now) in
    adds_one (files_in c.args.texts.now) (files_in c.taken-text.new.texts) (files_in c.insert.new.self) c.args.name.now c.of.result more c.taken-text.ensures.rest
    (put_in c.taken-text.new.texts c.insert.new.self c.args.name.now (Some c.of.result) c.in_ok-insert.ensures.updates.0)
    (c.of.ensures ∙ c.in_ok-put_bytes.ensures.written ∙ ap (λ old. old ++ more) c.taken-text.ensures.text)
