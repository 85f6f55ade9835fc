use Rattle.std.proofs.Common.{not, refl, sym, ap, ◌∙◌}
use Rattle.pt_session.specs.Opening.{has}
use Rattle.pt_session.proofs.Names.{is_absent}
use Rattle.pt_session.proofs.RowFiles.{all_listed, more_listed, none_listed, one_missing, some_there}
use Rattle.pt_session.proofs.strays.add_files.Goals as goal

pub loop-file-init : goal.loop-file-init
loop-file-init c = none_listed c.args.store.now (has c.args.needed.now)

pub loop-file-preserved : goal.loop-file-preserved
loop-file-preserved c =
    more_listed c.args.store.now (has c.args.needed.now) (has c.loop-file.needed) (has c.insert.new.self) c.file-item.result c.in_ok-insert.ensures.updates.0
    c.items-file-items.result.now c.loop-file.file-index c.loop-file-test.true c.file-item.is (some_there _ _ c.is_none.result c.length.ensures.value c.is_none.ensures c.if-is_none.false) c.loop-file.invariant

pub returns-then-is_none-clause-bad : goal.returns-then-is_none-clause-bad
returns-then-is_none-clause-bad c = (
  one_missing c.items-file-items.result.now c.loop-file.file-index c.file-item.result c.args.name.now c.args.def.now c.loop-file-test.true c.file-item.is (c.items-file-items.ensures ∙ c.in_ok-files.ensures),
  sym c.length.ensures.value ∙ is_absent c.length.result (c.is_none.ensures ∙ ap not c.if-is_none.true),
  refl,
)

pub returns-clause-adds : goal.returns-clause-adds
returns-clause-adds c =
    all_listed c.args.store.now (has c.args.needed.now) (has c.loop-file.needed) c.items-file-items.result.now c.loop-file.file-index c.args.name.now c.args.def.now c.loop-file-test.false
    (c.items-file-items.ensures ∙ c.in_ok-files.ensures) c.loop-file.invariant
