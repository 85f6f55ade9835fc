use Rattle.std.proofs.Common.{◌∙◌, ◌++◌, ◌∷◌, [], ap, sym}
use Rattle.pt_ast.specs.declared.table.PartDef.{PartDef}
use Rattle.pt_complete.proofs.Naming.{made_err, made_ok, ok_then, written_part}
use Rattle.pt_regrouped.specs.NewParts.{new_part, new_subs}
use Rattle.pt_regrouped.proofs.Beside.{part_named, part_passes, part_refused}
use Rattle.pt_regrouped.proofs.naming.put_new_part.Goals as goal

pub returns-in_ok-push-in-Ok-clause-refusal : goal.returns-in_ok-push-in-Ok-clause-refusal
returns-in_ok-push-in-Ok-clause-refusal c =
    part_passes c.args.names.now c.args.parts.now (new_part c.args.def.now c.args.item.now) c.requires.names (made_ok _ _ c.in-Ok.subs (sym c.in-Ok.is ∙ c.in_ok-subs.ensures.made)).0

pub returns-in_ok-push-in-Ok-clause-parts : goal.returns-in_ok-push-in-Ok-clause-parts
returns-in_ok-push-in-Ok-clause-parts c =
    c.in_ok-push-in-Ok.ensures.ok
    ∙ ap (λ (p : PartDef). c.args.parts.now ++ p ∷ [])
    (written_part c.args.item.now.name c.in_ok-bounds.bounds _ c.in-Ok.subs (new_subs c.args.def.now c.args.item.now) c.in_ok-bounds.ensures (made_ok _ _ c.in-Ok.subs (sym c.in-Ok.is ∙ c.in_ok-subs.ensures.made)).1)

pub returns-in_ok-push-in-Ok-clause-names : goal.returns-in_ok-push-in-Ok-clause-names
returns-in_ok-push-in-Ok-clause-names c =
    part_named c.args.names.now c.args.parts.now (new_part c.args.def.now c.args.item.now) c.requires.names c.new_subs_named.new.names c.push.new.self
    (ok_then c.in_ok-subs.field-0 c.in-Ok.subs _ c.in-Ok.is c.in_ok-subs.ensures.names)
    (returns-in_ok-push-in-Ok-clause-parts c)

pub returns-in-Err-clause-refusal : goal.returns-in-Err-clause-refusal
returns-in-Err-clause-refusal c =
    part_refused c.args.names.now c.args.parts.now (new_part c.args.def.now c.args.item.now) c.requires.names c.in-Err.refusal (made_err _ _ c.in-Err.refusal (sym c.in-Err.is ∙ c.in_ok-subs.ensures.made))
