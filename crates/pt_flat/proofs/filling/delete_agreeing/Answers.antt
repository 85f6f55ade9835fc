use Rattle.std.proofs.Common.{◌∙◌, ap, length, sym, arith}
use Rattle.std.specs.List.{filter}
use Rattle.pt_flat.proofs.Growing.{deleted_is, gone_all}
use Rattle.pt_flat.proofs.filling.delete_agreeing.Goals as goal

pub overflow_sub-deleted : goal.overflow_sub-deleted
overflow_sub-deleted c =
    omega (arith, ap length (c.items-3.ensures ∙ c.in_ok-rows.ensures), ap length c.items-2.ensures, ap length c.items.ensures, gone_all c.args.def.now c.args.cells.now c.items.result.now)

pub returns : goal.returns
returns c =
    deleted_is c.args.def.now c.args.cells.now c.args.filling.now c.replace.new.dest (length c.items-2.result.now) (length c.items-3.result.now)
    (c.replace.ensures.after ∙ c.in_ok-rows.ensures ∙ ap (filter _) c.items.ensures)
    (ap length c.items-2.ensures)
    (ap length (c.items-3.ensures ∙ sym c.replace.ensures.after))
