use Rattle.std.proofs.Common.{◌≡◌, None, rules, subst, sym}
use Rattle.pt_db.specs.Rows.{others}
use Rattle.pt_flat.specs.Insert.{bad_cells}
use Rattle.pt_flat.specs.Renewal.{IsSoundUpdating}
use Rattle.pt_flat.proofs.Renewing.{renewed}
use Rattle.pt_flat.proofs.updating.update_row.Goals as goal

pub returns-clause-sound : goal.returns-clause-sound
returns-clause-sound c next before had sound =
    let free : bad_cells c.args.def.now c.args.parts.now c.args.number (others c.args.row.now.serial c.args.updating.now.rows) c.in_ok-cells.cells ≡ None = search rules in
    subst (IsSoundUpdating next c.args.def.now before) (sym c.in_ok-with_updated.ensures)
    (renewed next c.args.def.now before c.args.parts.now c.args.number c.args.updating.now c.args.row.now c.in_ok-cells.cells had sound c.in_ok-cells.ensures.fitting c.in_ok-cells.ensures.filled free)
