use Rattle.std.proofs.Common.{refl, sym, ◌∙◌, length}
use Rattle.std.specs.Str.{bytes_eq}
use Rattle.pt_ast.specs.declared.table.Column.{Column}
use Rattle.pt_defs.proofs.Texts.{found_place, no_place}
use Rattle.pt_defs.proofs.named.place_in.Goals as goal

pub returns-in-Some : goal.returns-in-Some
returns-in-Some c =
    sym (found_place (λ (column : Column). bytes_eq column.name c.args.name.now) c.args.columns.now c.in-Some.place.now (sym (c.requires c.args.name.now) ∙ sym c.in-Some.ensures.value))

pub returns-in-None : goal.returns-in-None
returns-in-None c =
    no_place (λ (column : Column). bytes_eq column.name c.args.name.now) c.args.columns.now (length c.args.columns.now) (sym (c.requires c.args.name.now) ∙ sym c.in-None.ensures.value) refl
