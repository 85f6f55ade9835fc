use Rattle.std.proofs.Common.{ℕ, take}
use Rattle.std.specs.List.{All}
use Rattle.pt_ast.specs.declared.database.Spot.{Spot}
use Rattle.pt_rowfile.specs.declared.record.Record.TheVariants.{Delete}
use Rattle.pt_rowfile.specs.Records.{IsRecord}
use Rattle.pt_store.specs.Contents.{files_in}
use Rattle.pt_holds.specs.Batch.{IsRowFileOf}
use Rattle.pt_holds.specs.Texts.{Adds, deletes_text}
use Rattle.pt_holds.proofs.batch.add_deletes.Given as goal

abbrev pub invariant-loop-spot : goal.invariant-loop-spot
invariant-loop-spot l =
    Adds (files_in l.initial.texts) (files_in l.texts) (deletes_text l.table l.def (take l.spot-index l.deletes)) (IsRowFileOf l.table l.def)
    × All (λ (delete : Spot × ℕ). IsRecord (Delete delete.1)) (take l.spot-index l.deletes)
