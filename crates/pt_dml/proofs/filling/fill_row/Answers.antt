use Rattle.std.proofs.Common.{Err, Ok, ap, subst, ◌∙◌}
use Rattle.std.proofs.lemmas.Result.{err_from_is_err_and}
use Rattle.pt_db.proofs.Spots.{placed_spot}
use Rattle.pt_flat.specs.Insert.{fill_row}
use Rattle.pt_books.specs.Halts.{of_fault}
use Rattle.pt_books.proofs.Exits.{at_err}
use Rattle.pt_dml.specs.Parts.{IsPlacedRow, with_row}
use Rattle.pt_dml.specs.Work.{Fills, filling_of}
use Rattle.pt_dml.proofs.Models.{adds_fills, loaded, placed_fills, skipped_fills, unplaced_fills}
use Rattle.pt_dml.proofs.filling.fill_row.Goals as goal

pub returns-in_err-placed-clause-fills : goal.returns-in_err-placed-clause-fills
returns-in_err-placed-clause-fills g c tells map is before holds on =
    let p = err_from_is_err_and c.from_residual.result c.from_residual.ensures.1 in
    at_err (λ r. Fills c.args.def.now before (fill_row c.args.mode c.args.def.now c.args.new.now c.args.number (filling_of before c.args.work.now) c.args.values.now) c.args.work.now r)
    c.from_residual.result p.0 (of_fault c.in_err-placed.field-0.0) p.1 p.2
    (unplaced_fills c.args.mode c.args.def.now c.args.new.now c.args.number c.args.values.now before c.args.work.now c.args.work.now c.in_err-placed.field-0.0 c.in_err-placed.ensures.gives)

pub returns-in_default-clause-fills : goal.returns-in_default-clause-fills
returns-in_default-clause-fills g c tells map is before holds on =
    skipped_fills c.args.mode c.args.def.now c.args.new.now c.args.number c.args.values.now before c.args.work.now (c.in_ok-placed.ensures.gives ∙ ap (λ o. Ok o) c.in_default.is) on

pub load-requires-clause-spot : goal.load-requires-clause-spot
load-requires-clause-spot g c =
    let at = subst (IsPlacedRow c.args.def.now) c.in-Some.is c.in_ok-placed.ensures.placed in
    placed_spot c.args.def.now c.requires.valid c.in-Some.placed.1 c.in-Some.placed.0 at.placed

pub returns-in_err-add_row-clause-fills : goal.returns-in_err-add_row-clause-fills
returns-in_err-add_row-clause-fills g c tells map is before holds on =
    let p = err_from_is_err_and c.from_residual-in_err-add_row.result c.from_residual-in_err-add_row.ensures.1 in
    at_err (λ r. Fills c.args.def.now before (fill_row c.args.mode c.args.def.now c.args.new.now c.args.number (filling_of before c.args.work.now) c.args.values.now) c.add_row.new.work r)
    c.from_residual-in_err-add_row.result p.0 (of_fault c.in_err-add_row.field-0.0) p.1 p.2
    (placed_fills c.args.mode c.args.def.now c.args.new.now c.args.number c.args.values.now before c.args.work.now c.add_row.new.work c.in-Some.placed.0 c.in-Some.placed.1 (Err (of_fault c.in_err-add_row.field-0.0))
    (c.in_ok-placed.ensures.gives ∙ ap (λ o. Ok o) c.in-Some.is)
    (adds_fills c.args.def.now before (with_row c.args.mode c.args.def.now c.args.number (filling_of before c.args.work.now) c.in-Some.placed.1) c.add_row.new.work c.in_err-add_row.field-0.0
    (c.in_err-add_row.ensures.adds before (loaded c.args.def.now before c.args.work.now c.load.new.books on (c.in_ok-load.ensures.books tells map is before _ holds)))))

pub returns-clause-fills : goal.returns-clause-fills
returns-clause-fills g c tells map is before holds on =
    placed_fills c.args.mode c.args.def.now c.args.new.now c.args.number c.args.values.now before c.args.work.now c.add_row.new.work c.in-Some.placed.0 c.in-Some.placed.1 (Ok c.in_ok-add_row.field-0)
    (c.in_ok-placed.ensures.gives ∙ ap (λ o. Ok o) c.in-Some.is)
    (c.in_ok-add_row.ensures.adds before (loaded c.args.def.now before c.args.work.now c.load.new.books on (c.in_ok-load.ensures.books tells map is before _ holds)))
