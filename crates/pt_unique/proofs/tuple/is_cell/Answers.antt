use Rattle.std.proofs.Common.{◌≡◌, sym, ◌∙◌, rules}
use Rattle.std.specs.Prelude.{slice_index_or}
use Rattle.pt_value.specs.declared.value.Value.TheVariants.{Null}
use Rattle.pt_unique.proofs.Marks.{value_decides}
use Rattle.pt_unique.proofs.tuple.is_cell.Goals as goal

pub returns-in-Some : goal.returns-in-Some
returns-in-Some c =
    let same : c.in-Some.cell.now ≡ slice_index_or c.args.cells.now c.args.column Null = search rules in
    let d = value_decides c.args.value.now c.in-Some.cell.now in
    ((λ h. d.0 (sym c.eq.ensures ∙ h) ∙ same), λ h. c.eq.ensures ∙ d.1 (h ∙ sym same))
