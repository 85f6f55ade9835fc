use Rattle.std.proofs.Common.{List, refl}
use Rattle.std.proofs.lemmas.Result.{err_from_is_err_and}
use Rattle.pt_host.proofs.Runs.{looks_quiet}
use Rattle.pt_host.specs.Disk.{shown}
use Rattle.pt_left.specs.Left.{whole_name, IsWhole, NoneLeft}
use Rattle.pt_store.specs.declared.entry.Entry.{Entry}
use Rattle.pt_store.specs.declared.store.Store.{Store}
use Rattle.pt_store.specs.Entries.{IsMeaningless}
use Rattle.pt_store.proofs.Moments.{attached, meaningless, bad_weaker}
use Rattle.pt_store.proofs.Steps.{cleared, clears_looks}
use Rattle.pt_store.proofs.store.Store.attach.Goals as goal

pub returns-in_err-clear_shadow-clause-clears : goal.returns-in_err-clear_shadow-clause-clears
returns-in_err-clear_shadow-clause-clears g c = λ tells. cleared _ _ (c.in_err-clear_shadow.ensures.quiet tells) (c.in_err-clear_shadow.ensures.idle tells)

pub returns-in_err-entries-clause-clears : goal.returns-in_err-entries-clause-clears
returns-in_err-entries-clause-clears g c = λ tells.
    clears_looks _ _ _ (cleared _ _ (c.in_ok-clear_shadow.ensures.quiet tells) (c.in_ok-clear_shadow.ensures.idle tells)) (c.in_err-entries.ensures.looks tells)

pub returns-in_err-entries-clause-bad : goal.returns-in_err-entries-clause-bad
returns-in_err-entries-clause-bad g c =
    let p = err_from_is_err_and c.from_residual-in_err-entries.result c.from_residual-in_err-entries.ensures.1 in
    let fs = (g.H.Host.world c.clear_shadow.new.host).now.fs in
    rw (p.1, p.2)
    (bad_weaker (List Entry) Store _ (λ name place. IsWhole name place × (g.H.Host.tells → IsMeaningless (shown fs whole_name)))
    (λ name place. IsWhole name place × (g.H.Host.tells → NoneLeft (shown (g.H.Host.world c.args.host.now).now.fs)))
    (λ name place bad. (bad.0, λ tells. meaningless _ _ (g.H.Host.world c.read_entries.new.host) (g.met.H.Host.sound c.clear_shadow.new.host tells) (c.requires.rest tells) (c.in_ok-clear_shadow.ensures.quiet tells) (bad.1 tells)))
    c.in_err-entries.ensures.bad)

pub returns-in_err-add_serials-clause-clears : goal.returns-in_err-add_serials-clause-clears
returns-in_err-add_serials-clause-clears g c = λ tells.
    clears_looks _ _ _ (cleared _ _ (c.in_ok-clear_shadow.ensures.quiet tells) (c.in_ok-clear_shadow.ensures.idle tells)) (c.in_ok-entries.ensures.looks tells)

pub returns-clause-clears : goal.returns-clause-clears
returns-clause-clears g c = λ tells.
    clears_looks _ _ _ (cleared _ _ (c.in_ok-clear_shadow.ensures.quiet tells) (c.in_ok-clear_shadow.ensures.idle tells)) (c.in_ok-entries.ensures.looks tells)

pub returns-clause-stands : goal.returns-clause-stands
returns-clause-stands g c = λ tells.
    attached _ _ _ (g.met.H.Host.sound c.clear_shadow.new.host tells) (c.requires.rest tells) (c.in_ok-clear_shadow.ensures.quiet tells)
    _ _ refl (c.in_ok-clear_shadow.ensures.clear tells) ((c.in_ok-entries.ensures.looks tells).now.fs) (looks_quiet _ _ _ (λ files image. image) (c.in_ok-entries.ensures.looks tells)) (c.requires.entered tells)
    (c.in_ok-entries.ensures.found tells) c.in_ok-add_serials.ensures.files
