use Rattle.std.proofs.Common.{Ok, Option, List, ap, subst, ◌∙◌}
use Rattle.std.specs.Option.{IfSome}
use Rattle.std.proofs.lemmas.Result.{err_from_is_err_and}
use Rattle.pt_value.specs.declared.value.Value.{Value}
use Rattle.pt_ast.specs.declared.database.Spot.{Spot}
use Rattle.pt_flat.specs.Update.{update_row}
use Rattle.pt_books.specs.Halts.{of_fault}
use Rattle.pt_books.proofs.Exits.{at_err}
use Rattle.pt_update.specs.Parts.{IsPlacedIn}
use Rattle.pt_update.specs.Work.{Moves}
use Rattle.pt_update.proofs.ModelRows.{moved_moves, same_moves, unmoved_moves}
use Rattle.pt_update.proofs.moving.move_row.Goals as goal

pub returns-in_err-moved-clause-moves : goal.returns-in_err-moved-clause-moves
returns-in_err-moved-clause-moves g c tells map is before updating holds is_next =
    let p = err_from_is_err_and c.from_residual.result c.from_residual.ensures.1 in
    let next = c.args.session.now.next in
    let def = c.args.def.now in
    at_err (λ r. Moves next def before (update_row def c.args.parts.now c.args.assigns.now c.args.number updating c.args.row.now) c.args.work.now r)
    c.from_residual.result p.0 (of_fault c.in_err-moved.field-0.0) p.1 p.2
    (unmoved_moves next def c.args.parts.now before updating c.args.work.now c.args.row.now is_next c.args.number c.args.assigns.now c.in_err-moved.field-0.0 c.in_err-moved.ensures.gives)

pub move_to-requires-clause-placed : goal.move_to-requires-clause-placed
move_to-requires-clause-placed g c = subst (λ (o : Option (Spot × List Value)). IfSome o (λ new. IsPlacedIn c.args.def.now new.0 new.1)) c.in-Some.is c.in_ok-moved.ensures.placed

pub returns-in-Some-clause-moves : goal.returns-in-Some-clause-moves
returns-in-Some-clause-moves g c tells map is before updating holds is_next =
    moved_moves c.args.session.now.next c.args.def.now c.args.parts.now before updating c.args.work.now c.args.row.now is_next c.args.number c.args.assigns.now c.in-Some.spot c.in-Some.cells
    (c.in_ok-moved.ensures.gives ∙ ap (λ o. Ok o) c.in-Some.is) c.move_to.new.work c.move_to.result
    (λ differ. c.move_to.ensures.moves tells map is c.args.parts.now before updating holds is_next differ)

pub returns-in-None-clause-moves : goal.returns-in-None-clause-moves
returns-in-None-clause-moves g c tells map is before updating holds is_next =
    same_moves c.args.session.now.next c.args.def.now c.args.parts.now before updating c.args.work.now c.args.row.now is_next c.args.number c.args.assigns.now (c.in_ok-moved.ensures.gives ∙ ap (λ o. Ok o) c.in-None.is)
