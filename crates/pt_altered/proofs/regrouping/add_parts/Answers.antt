use Rattle.std.proofs.Common.{◌≡◌, ◌∙◌, rules, sym, subst}
use Rattle.std.specs.Prelude.{List, Some, Ok}
use Rattle.pt_ast.specs.declared.database.Row.{Row}
use Rattle.pt_db.specs.Lookup.{table_of}
use Rattle.pt_altered.specs.Kept.{IsKeptOf}
use Rattle.pt_regrouped.specs.Regrouped.{added_of}
use Rattle.pt_altered.proofs.Kept.{added_kept}
use Rattle.pt_altered.proofs.regrouping.add_parts.Goals as goal

pub returns-in_ok-rows-in-Ok-clause-sound : goal.returns-in_ok-rows-in-Ok-clause-sound
returns-in_ok-rows-in-Ok-clause-sound c =
    let db = c.args.db.now in
    let name = c.args.name.now in
    let table = c.in-Some.table.now in
    let at : table_of db name ≡ Some table = search rules in
    let is : Ok c.in-Ok.def ≡ added_of name c.args.items.now table.def = sym c.in-Ok.ensures.made in
    let rows : c.in_ok-rows-in-Ok.rows ≡ table.rows = c.in_ok-rows-in-Ok.ensures ∙ c.items.ensures in
    c.keep.ensures.sound c.requires.sound
    (subst (λ (own : List Row). IsKeptOf db name c.in-Ok.def own) (sym rows)
    (added_kept db name table c.requires.sound at c.in-Ok.def c.in-Ok.ensures.storable c.in-Ok.ensures.valid c.args.items.now is))
