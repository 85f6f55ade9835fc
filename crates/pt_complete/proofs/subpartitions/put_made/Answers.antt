use Rattle.std.proofs.Common.{◌∙◌, ◌++◌, ap, sym, subst, arith}
use Rattle.std.specs.Prelude.{codes}
use Rattle.pt_complete.specs.Making.{IsSpelled}
use Rattle.pt_complete.proofs.Spelled.{sub_spelled}
use Rattle.pt_complete.proofs.subpartitions.put_made.Goals as goal

pub put_name-requires : goal.put_name-requires
put_name-requires c =
    subst IsSpelled
    (sym (c.as_slice.ensures.value ∙ c.in_ok-extend_from_slice-2.ensures.items ∙ ap (λ l. l ++ c.as_bytes.result.now) (c.in_ok-extend_from_slice.ensures.items ∙ ap (λ l. l ++ codes "sp") (c.in_ok-bytes.ensures.items ∙ c.bytes.ensures.value))
    ∙ ap (λ l. c.args.part.now ++ codes "sp" ++ l) (c.as_bytes.ensures.value ∙ c.format.ensures.text)))
    (sub_spelled c.args.part.now c.args.number c.bytes.ensures.ident (omega (arith, c.ranges.number.fits)))
