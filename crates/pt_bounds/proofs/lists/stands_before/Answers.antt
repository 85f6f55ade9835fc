use Rattle.std.proofs.Common.{sym, ◌∙◌}
use Rattle.pt_bounds.specs.Sought.{items_of}
use Rattle.pt_bounds.proofs.Standing.{or_first, or_second, stands_split}
use Rattle.pt_bounds.proofs.lists.stands_before.Goals as goal

pub returns-then-stands_in : goal.returns-then-stands_in
returns-then-stands_in c =
    c.stands_in.ensures ∙ sym (stands_split c.args.earlier.now c.args.own.now (items_of c.args.sought) ∙ or_first _ _ (sym c.stands_in.ensures ∙ c.if-stands_in.true))

pub returns-else-stands_in : goal.returns-else-stands_in
returns-else-stands_in c =
    c.stands_among.ensures ∙ sym (stands_split c.args.earlier.now c.args.own.now (items_of c.args.sought) ∙ or_second _ _ (sym c.stands_in.ensures ∙ c.if-stands_in.false))
