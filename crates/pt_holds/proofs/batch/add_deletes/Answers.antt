use Rattle.std.proofs.Common.{ℕ, subst, take_all}
use Rattle.std.specs.List.{All}
use Rattle.pt_ast.specs.declared.database.Spot.{Spot}
use Rattle.pt_rowfile.specs.declared.record.Record.TheVariants.{Delete}
use Rattle.pt_rowfile.specs.Records.{IsRecord, record_bytes}
use Rattle.pt_store.specs.Contents.{files_in}
use Rattle.pt_holds.proofs.Texts.{adds_more}
use Rattle.pt_holds.proofs.batch.add_deletes.Goals as goal

pub loop-spot-preserved : goal.loop-spot-preserved
loop-spot-preserved c =
    adds_more (λ (d : Spot × ℕ). d.0) (λ (d : Spot × ℕ). record_bytes (Delete d.1)) (λ (d : Spot × ℕ). IsRecord (Delete d.1)) c.args.table.now c.args.def.now c.args.deletes.now c.loop-spot.spot-index _
    c.file_of.result (files_in c.args.texts.now) (files_in c.loop-spot.texts) (files_in c.add_delete.new.texts) c.loop-spot-test.true c.requires c.file_of.ensures c.loop-spot.invariant
    c.in_ok-add_delete.ensures.adds c.in_ok-add_delete.ensures.record

pub returns-clause-records : goal.returns-clause-records
returns-clause-records c =
    subst (All (λ (d : Spot × ℕ). IsRecord (Delete d.1))) (take_all c.loop-spot.spot-index c.args.deletes.now c.loop-spot-test.false) c.loop-spot.invariant.1
