use Rattle.std.proofs.Common.{◌∙◌, ◌++◌, ap, sym, subst}
use Rattle.std.specs.Prelude.{codes}
use Rattle.pt_value.specs.Ident.{IsIdent}
use Rattle.pt_complete.proofs.Spelled.{part_ident}
use Rattle.pt_complete.proofs.made_names.part_name.Goals as goal

pub ident_of-requires : goal.ident_of-requires
ident_of-requires c =
    subst IsIdent
    (sym (c.as_slice.ensures.value ∙ c.in_ok-extend_from_slice.ensures.items ∙ ap (λ l. l ++ c.as_bytes.result.now) c.in_ok-bytes.ensures.items ∙ ap (λ l. codes "p" ++ l) (c.as_bytes.ensures.value ∙ c.format.ensures.text)))
    (part_ident c.args.number c.requires)
