use Rattle.std.proofs.Common.{subst, sym, ◌≡◌, ◌∙◌}
use Rattle.pt_flat.specs.declared.filling.InsertMode.TheVariants as mode
use Rattle.pt_dml.specs.Work.{Enters, IsReady}
use Rattle.pt_db.proofs.Spots.{placed_spot}
use Rattle.pt_dml.proofs.Rounds.{keyless_ready, tried_enters}
use Rattle.pt_dml.proofs.entering.enter_row.Goals as goal

pub returns-then-not-is_keyed-clause-enters : goal.returns-then-not-is_keyed-clause-enters
returns-then-not-is_keyed-clause-enters c before number w on =
    keyless_ready c.args.mode c.args.def.now before c.args.work.now c.args.row.now (sym c.is_keyed.ensures ∙ c.if-not-is_keyed.true) on

pub returns-in-Refuse-clause-enters : goal.returns-in-Refuse-clause-enters
returns-in-Refuse-clause-enters c before number w on =
    subst (λ how. Enters how c.args.def.now before c.args.work.now (record c.args.work.now { books = c.enter_free.new.books }) c.args.row.now c.enter_free.result) (sym c.in-Refuse.is)
    (tried_enters mode.Refuse (λ same. let bad : mode.Refuse ≡ mode.Replace = same in cc) c.args.def.now c.requires.valid before c.args.work.now c.args.spot c.args.row.now c.requires.placed.placed (sym c.is_keyed.ensures ∙ c.if-not-is_keyed.false) on
    c.enter_free.new.books c.requires.serial c.enter_free.result c.enter_free.ensures)

pub returns-in-Skip-clause-enters : goal.returns-in-Skip-clause-enters
returns-in-Skip-clause-enters c before number w on =
    subst (λ how. Enters how c.args.def.now before c.args.work.now (record c.args.work.now { books = c.enter_free-in-Skip.new.books }) c.args.row.now c.enter_free-in-Skip.result) (sym c.in-Skip.is)
    (tried_enters mode.Skip (λ same. let bad : mode.Skip ≡ mode.Replace = same in cc) c.args.def.now c.requires.valid before c.args.work.now c.args.spot c.args.row.now c.requires.placed.placed (sym c.is_keyed.ensures ∙ c.if-not-is_keyed.false) on
    c.enter_free-in-Skip.new.books c.requires.serial c.enter_free-in-Skip.result c.enter_free-in-Skip.ensures)

pub returns-in_ok-enter_alone-in-Replace-clause-enters : goal.returns-in_ok-enter_alone-in-Replace-clause-enters
returns-in_ok-enter_alone-in-Replace-clause-enters c before number w on =
    subst (λ how. IsReady how c.args.def.now before c.args.work.now c.enter_alone.new.work c.args.row.now) (sym c.in-Replace.is)
    (c.in_ok-enter_alone-in-Replace.ensures.ready c.args.def.now before c.requires.valid c.requires.placed (sym c.is_keyed.ensures ∙ c.if-not-is_keyed.false) c.requires.serial number w on)

pub returns-in_ok-enter_alone-in-Replace-clause-work : goal.returns-in_ok-enter_alone-in-Replace-clause-work
returns-in_ok-enter_alone-in-Replace-clause-work c number w =
    c.in_ok-enter_alone-in-Replace.ensures.work c.args.def.now number (placed_spot c.args.def.now c.requires.valid c.args.row.now.cells c.args.spot c.requires.placed.placed) w
