use Rattle.std.proofs.Common.{take}
use Rattle.std.specs.List.{All}
use Rattle.pt_ast.specs.declared.database.Row.{Row}
use Rattle.pt_ast.specs.declared.database.Spot.{Spot}
use Rattle.pt_rowfile.specs.declared.record.Record.TheVariants.{Put}
use Rattle.pt_rowfile.specs.Records.{IsRecord}
use Rattle.pt_store.specs.Contents.{files_in}
use Rattle.pt_holds.specs.Batch.{IsRowFileOf}
use Rattle.pt_holds.specs.Texts.{Adds, puts_text}
use Rattle.pt_holds.proofs.batch.add_puts.Given as goal

abbrev pub invariant-loop-spot : goal.invariant-loop-spot
invariant-loop-spot l =
    Adds (files_in l.initial.texts) (files_in l.texts) (puts_text l.table l.def (take l.spot-index l.puts)) (IsRowFileOf l.table l.def)
    × All (λ (put : Spot × Row). IsRecord (Put put.1)) (take l.spot-index l.puts)
