use Rattle.std.proofs.Common.{ℕ, ◌+◌, List, Option, take, sym, subst}
use Rattle.std.proofs.lemmas.List.{take_all}
use Rattle.pt_ast.specs.declared.database.Row.{Row}
use Rattle.pt_session.specs.Looking.{AreSeen}
use Rattle.pt_session.proofs.Unfit.{seen_more}
use Rattle.pt_session.proofs.looking.first_unfit.Goals as goal

pub loop-row-preserved : goal.loop-row-preserved
loop-row-preserved c =
    subst (λ (place : Option ℕ). AreSeen c.args.next c.args.def.now c.args.spot c.args.bytes.now (take (c.loop-row.row-index + 1) c.args.rows.now) place) (sym c.earlier-first.ensures)
    (seen_more c.args.next c.args.def.now c.args.spot c.args.bytes.now c.args.rows.now c.loop-row.row-index c.row-item.result c.loop-row.first c.unfit_place.result c.loop-row-test.true c.row-item.is c.loop-row.invariant c.unfit_place.ensures)

pub returns : goal.returns
returns c =
    subst (λ (rows : List Row). AreSeen c.args.next c.args.def.now c.args.spot c.args.bytes.now rows c.loop-row.first) (take_all c.loop-row.row-index c.args.rows.now c.loop-row-test.false) c.loop-row.invariant
