use Rattle.std.proofs.Common.{◌≡◌, Ok, Result, arith, rules}
use Rattle.pt_ast.specs.declared.table.TableDef.{TableDef}
use Rattle.pt_ast.specs.declared.refusal.Refusal.{Refusal}
use Rattle.pt_written.specs.Complete.{complete_of}
use Rattle.pt_complete.proofs.Storable.{answer_storable}
use Rattle.pt_complete.proofs.Valid.{complete_valid}
use Rattle.pt_complete.proofs.whole.complete.Goals as goal

pub returns-in-Ok-Ok-clause-storable : goal.returns-in-Ok-Ok-clause-storable
returns-in-Ok-Ok-clause-storable c =
    let same : ◌≡◌ {A = Result TableDef Refusal} c.in-Ok-Ok.field-0 (Ok c.in-Ok-Ok.def) = grind (arith, c.in-Ok-Ok.is, c.in-Ok-Ok.field-0-is, c.in-Ok-Ok.def-is) in
    answer_storable c.args.table.now c.args.spec.now c.in-Ok-Ok.field-0 c.in-Ok-Ok.def c.requires same c.in-Ok-Ok.ensures.made c.in-Ok-Ok.ensures.few

pub returns-in-Ok-Ok-clause-valid : goal.returns-in-Ok-Ok-clause-valid
returns-in-Ok-Ok-clause-valid c =
    let is : complete_of c.args.table.now c.args.spec.now ≡ Ok c.in-Ok-Ok.def = first_of (search rules, cc) in
    complete_valid c.args.table.now c.args.spec.now c.in-Ok-Ok.def c.requires is
