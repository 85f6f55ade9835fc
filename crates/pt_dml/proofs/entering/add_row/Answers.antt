use Rattle.std.proofs.Common.{Ok, Bool, subst, sym}
use Rattle.pt_ast.specs.declared.database.Row.{Row}
use Rattle.pt_dml.specs.Work.{Enters}
use Rattle.pt_dml.proofs.Adding.{passed_adds, passed_work, puts_adds, puts_work}
use Rattle.pt_dml.proofs.entering.add_row.Goals as goal

pub returns-then-not-branch-clause-adds : goal.returns-then-not-branch-clause-adds
returns-then-not-branch-clause-adds c before on =
    let row : Row = record { serial = c.args.work.now.next; cells = c.args.cells } in
    passed_adds c.args.mode c.args.def.now c.args.number before c.args.work.now c.enter_row.new.work c.pass_over.new.work row
    (subst (λ (b : Bool). Enters c.args.mode c.args.def.now before c.args.work.now c.enter_row.new.work row (Ok b)) c.if-not-branch.true (c.in_ok-enter_row.ensures.enters before c.args.number c.requires.work on))
    c.pass_over.result c.pass_over.ensures

pub returns-then-not-branch-clause-work : goal.returns-then-not-branch-clause-work
returns-then-not-branch-clause-work c =
    passed_work c.args.mode c.args.def.now c.args.number c.args.work.now c.enter_row.new.work c.pass_over.new.work (c.in_ok-enter_row.ensures.work c.args.number c.requires.work) c.in_ok-enter_row.ensures.same.first
    c.pass_over.result c.pass_over.ensures

pub returns-clause-adds : goal.returns-clause-adds
returns-clause-adds c before on =
    let row : Row = record { serial = c.args.work.now.next; cells = c.args.cells } in
    let w = c.in_ok-enter_row.ensures.work c.args.number c.requires.work in
    puts_adds c.args.mode c.args.def.now c.args.number c.args.spot before c.args.work.now c.enter_row.new.work c.put_row.new.work row c.requires.placed
    (subst (λ (b : Bool). Enters c.args.mode c.args.def.now before c.args.work.now c.enter_row.new.work row (Ok b)) c.if-not-branch.false (c.in_ok-enter_row.ensures.enters before c.args.number c.requires.work on))
    (sym c.in_ok-enter_row.ensures.same.next) w.counted w.some c.put_row.result c.put_row.ensures

pub returns-clause-work : goal.returns-clause-work
returns-clause-work c =
    let row : Row = record { serial = c.args.work.now.next; cells = c.args.cells } in
    puts_work c.args.def.now c.args.number c.args.spot row c.requires.placed c.args.work.now c.enter_row.new.work c.put_row.new.work (c.in_ok-enter_row.ensures.work c.args.number c.requires.work)
    (sym c.in_ok-enter_row.ensures.same.next) c.in_ok-enter_row.ensures.same.first c.put_row.result c.put_row.ensures
