use Rattle.std.proofs.Common.{◌≡◌, Some, rules}
use Rattle.pt_flat.specs.Insert.{bad_cells, cleared}
use Rattle.pt_flat.proofs.Growing.{skipped_fills}
use Rattle.pt_flat.proofs.filling.put_cells.Goals as goal

pub returns-in-Some : goal.returns-in-Some
returns-in-Some c =
    let was : c.clear.new.filling ≡ cleared c.args.mode c.args.def.now c.args.cells c.args.filling.now = search rules in
    let told : bad_cells c.args.def.now c.args.new.now.parts c.args.number c.clear.new.filling.rows c.args.cells ≡ Some c.in-Some.refusal = search rules in
    skipped_fills c.args.def.now c.args.new.now c.args.mode c.args.number c.args.filling.now c.args.cells c.clear.new.filling c.skip_or.new.filling c.in-Some.refusal c.skip_or.result was told c.skip_or.ensures
