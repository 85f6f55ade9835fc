use Rattle.std.proofs.Common.{◌≡◌, ◌∙◌, false, sym}
use Rattle.std.proofs.lemmas.Result.{on_ok_weaker}
use Rattle.pt_db.specs.Sound.{has_wrong_null}
use Rattle.pt_flat.proofs.Growing.{all_kept, same_nulls}
use Rattle.pt_flat.proofs.filling.fill_cells.Goals as goal

pub returns-clause-sound : goal.returns-clause-sound
returns-clause-sound c =
    let nulls : has_wrong_null c.args.def.now.columns c.args.cells ≡ false = sym (same_nulls c.args.def.now.columns c.args.cells) ∙ c.requires.whole in
    on_ok_weaker c.put_cells.result (λ so. so.sound)
    (all_kept c.args.def.now c.args.new.now c.args.mode c.args.number c.args.filling.now c.args.cells c.requires.sound c.requires.counted c.requires.fitting nulls c.put_cells.new.filling c.put_cells.result c.put_cells.ensures)

pub returns-clause-grown : goal.returns-clause-grown
returns-clause-grown c =
    let nulls : has_wrong_null c.args.def.now.columns c.args.cells ≡ false = sym (same_nulls c.args.def.now.columns c.args.cells) ∙ c.requires.whole in
    on_ok_weaker c.put_cells.result (λ so. so.grown)
    (all_kept c.args.def.now c.args.new.now c.args.mode c.args.number c.args.filling.now c.args.cells c.requires.sound c.requires.counted c.requires.fitting nulls c.put_cells.new.filling c.put_cells.result c.put_cells.ensures)

pub returns-clause-counted : goal.returns-clause-counted
returns-clause-counted c =
    let nulls : has_wrong_null c.args.def.now.columns c.args.cells ≡ false = sym (same_nulls c.args.def.now.columns c.args.cells) ∙ c.requires.whole in
    on_ok_weaker c.put_cells.result (λ so. so.counted)
    (all_kept c.args.def.now c.args.new.now c.args.mode c.args.number c.args.filling.now c.args.cells c.requires.sound c.requires.counted c.requires.fitting nulls c.put_cells.new.filling c.put_cells.result c.put_cells.ensures)
