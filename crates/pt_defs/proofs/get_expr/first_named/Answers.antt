use Rattle.pt_defs.proofs.Fields.{not_first, is_first}
use Rattle.pt_defs.proofs.get_expr.first_named.Goals as goal

pub returns-then-place_of-position : goal.returns-then-place_of-position
returns-then-place_of-position c =
    let look = rw c.items.ensures at c.in_ok-column.ensures.lookup in
    not_first c.args.columns.now c.args.position c.in_ok-column.column.now c.place_of.result look.3.0 look.1 c.place_of.ensures c.if-place_of-position.true

pub returns : goal.returns
returns c =
    let look = rw c.items.ensures at c.in_ok-column.ensures.lookup in
    is_first c.args.columns.now c.args.position c.in_ok-column.column.now c.place_of.result look.3.0 look.1 c.place_of.ensures c.if-place_of-position.false
