use Rattle.std.proofs.Common.{◌≡◌, ◌∙◌, ap, subst, take_all}
use Rattle.std.specs.List.{All}
use Rattle.pt_ast.specs.declared.database.Row.{Row}
use Rattle.pt_ast.specs.declared.database.Spot.{Spot}
use Rattle.pt_rowfile.specs.declared.record.Record.TheVariants.{Put}
use Rattle.pt_rowfile.specs.Records.{IsRecord, record_bytes}
use Rattle.pt_store.specs.Contents.{files_in}
use Rattle.pt_holds.specs.Holds.{spot_file}
use Rattle.pt_holds.specs.Texts.{Adds, only_at}
use Rattle.pt_holds.proofs.Texts.{adds_more}
use Rattle.pt_holds.proofs.batch.add_puts.Goals as goal

pub loop-spot-preserved : goal.loop-spot-preserved
loop-spot-preserved c =
    let item = c.loop-spot-item.result in
    let name = c.args.table.now in
    let g = files_in c.loop-spot.texts in
    let h = files_in c.add_put.new.texts in
    adds_more (λ (d : Spot × Row). d.0) (λ (d : Spot × Row). record_bytes (Put d.1)) (λ (d : Spot × Row). IsRecord (Put d.1)) name c.args.def.now c.args.puts.now c.loop-spot.spot-index item
    c.file_of.result (files_in c.args.texts.now) g h c.loop-spot-test.true c.requires.spots (c.file_of.ensures ∙ ap (λ (d : Spot × Row). spot_file name c.args.def.now d.0) c.loop-spot-item.is) c.loop-spot.invariant
    (subst (λ (d : Spot × Row). Adds g h (only_at c.file_of.result (record_bytes (Put d.1))) (λ query. c.file_of.result ≡ query)) c.loop-spot-item.is c.in_ok-add_put.ensures.adds)
    (subst (λ (d : Spot × Row). IsRecord (Put d.1)) c.loop-spot-item.is c.in_ok-add_put.ensures.record)

pub returns-clause-records : goal.returns-clause-records
returns-clause-records c =
    subst (All (λ (d : Spot × Row). IsRecord (Put d.1))) (take_all c.loop-spot.spot-index c.args.puts.now c.loop-spot-test.false) c.loop-spot.invariant.1
