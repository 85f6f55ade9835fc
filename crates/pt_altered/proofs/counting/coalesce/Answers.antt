use Rattle.std.proofs.Common.{◌≡◌, ◌∙◌, rules, sym, subst}
use Rattle.std.specs.Prelude.{List, Some, Ok}
use Rattle.pt_ast.specs.declared.database.Row.{Row}
use Rattle.pt_ast.specs.StorableDef.{IsStorableDef}
use Rattle.pt_place.specs.Valid.{IsValid}
use Rattle.pt_complete.proofs.Naming.{ok_then}
use Rattle.pt_db.specs.Lookup.{table_of}
use Rattle.pt_altered.specs.Kept.{IsKeptOf}
use Rattle.pt_actions.specs.Counted.{coalesced_of}
use Rattle.pt_altered.proofs.Kept.{coalesced_kept}
use Rattle.pt_altered.proofs.counting.coalesce.Goals as goal

pub returns-in_ok-rows-in-Ok-clause-sound : goal.returns-in_ok-rows-in-Ok-clause-sound
returns-in_ok-rows-in-Ok-clause-sound c =
    let db = c.args.db.now in
    let name = c.args.name.now in
    let table = c.in-Some.table.now in
    let at : table_of db name ≡ Some table = search rules in
    let is : Ok c.in-Ok.def ≡ coalesced_of name c.unsigned_abs.result table.def = sym c.in-Ok.is ∙ c.in_ok-def.ensures.made in
    let rows : c.in_ok-rows-in-Ok.rows ≡ table.rows = c.in_ok-rows-in-Ok.ensures ∙ c.items.ensures in
    c.keep.ensures.sound c.requires.sound
    (subst (λ (own : List Row). IsKeptOf db name c.in-Ok.def own) (sym rows)
    (coalesced_kept db name table c.requires.sound at c.in-Ok.def (ok_then c.in_ok-def.field-0 c.in-Ok.def IsStorableDef c.in-Ok.is c.in_ok-def.ensures.storable) (ok_then c.in_ok-def.field-0 c.in-Ok.def IsValid c.in-Ok.is c.in_ok-def.ensures.valid) c.unsigned_abs.result is))
