use Rattle.std.proofs.Common.{◌≡◌}
use Rattle.std.proofs.lemmas.Result.{err_from_is_err_and}
use Rattle.pt_host.specs.Disk.{shown}
use Rattle.pt_host.specs.Listed.{FileList, by_name}
use Rattle.pt_host.proofs.Runs.{looks_none, looks_then}
use Rattle.pt_store.specs.Store.{IsStore}
use Rattle.pt_store.proofs.Moments.{bad_weaker, whole_kept}
use Rattle.pt_store.proofs.Steps.{clears_looks}
use Rattle.pt_holds.specs.Bad.{Bad}
use Rattle.pt_session.specs.Opening.{IsWrongFile, table_in}
use Rattle.pt_session.proofs.Opens.{file_damaged, left_there, opened_is, opened_open, whole_damaged, wrong_bad}
use Rattle.pt_session.proofs.session.Session.begin.Goals as goal

pub returns-in_err-store-clause-bad : goal.returns-in_err-store-clause-bad
returns-in_err-store-clause-bad g c =
    let p = err_from_is_err_and c.from_residual.result c.from_residual.ensures.1 in
    rw (p.1, p.2)
    (whole_damaged (Unit {0}) _ g.H.Host.tells (shown (g.H.Host.world c.args.host.now).now.fs) (shown (g.H.Host.world c.attach.new.host).now.fs) c.in_err-store.ensures.bad
    (λ tells. whole_kept _ _ (g.met.H.Host.sound c.attach.new.host tells) (c.requires.rest tells) (c.in_err-store.ensures.clears tells).others))

pub returns-in_err-next-clause-clears : goal.returns-in_err-next-clause-clears
returns-in_err-next-clause-clears g c tells = clears_looks _ _ _ (c.in_ok-store.ensures.clears tells) (c.in_err-next.ensures.looks tells)

pub returns-in_err-next-clause-bad : goal.returns-in_err-next-clause-bad
returns-in_err-next-clause-bad g c =
    let p = err_from_is_err_and c.from_residual-in_err-next.result c.from_residual-in_err-next.ensures.1 in
    rw (p.1, p.2)
    (file_damaged (Unit {0}) _ g.H.Host.tells c.in_ok-store.store (g.H.Host.world c.attach.new.host) (shown (g.H.Host.world c.args.host.now).now.fs) (shown (g.H.Host.world c.read_next.new.host).now.fs) c.in_err-next.ensures.bad
    (λ tells.
    left_there c.in_ok-store.store (g.H.Host.world c.args.host.now) (g.H.Host.world c.attach.new.host) (g.H.Host.world c.attach.new.host) (g.H.Host.world c.read_next.new.host) (g.met.H.Host.sound c.args.host.now tells) (g.met.H.Host.sound c.read_next.new.host tells) (c.in_ok-store.ensures.stands tells) (looks_none (g.H.Host.world c.attach.new.host))
    (c.in_err-next.ensures.looks tells)))

pub returns-in_err-tables-clause-clears : goal.returns-in_err-tables-clause-clears
returns-in_err-tables-clause-clears g c tells =
    clears_looks _ _ _ (c.in_ok-store.ensures.clears tells) (looks_then _ _ _ (c.in_ok-next.ensures.looks tells) (c.in_err-tables.ensures.looks tells))

pub returns-in_err-tables-clause-bad : goal.returns-in_err-tables-clause-bad
returns-in_err-tables-clause-bad g c =
    let p = err_from_is_err_and c.from_residual-in_err-tables.result c.from_residual-in_err-tables.ensures.1 in
    rw (p.1, p.2)
    (file_damaged (Unit {0}) _ g.H.Host.tells c.in_ok-store.store (g.H.Host.world c.read_next.new.host) (shown (g.H.Host.world c.args.host.now).now.fs) (shown (g.H.Host.world c.read_tables.new.host).now.fs) c.in_err-tables.ensures.bad
    (λ tells.
    left_there c.in_ok-store.store (g.H.Host.world c.args.host.now) (g.H.Host.world c.attach.new.host) (g.H.Host.world c.read_next.new.host) (g.H.Host.world c.read_tables.new.host) (g.met.H.Host.sound c.args.host.now tells) (g.met.H.Host.sound c.read_tables.new.host tells) (c.in_ok-store.ensures.stands tells) (c.in_ok-next.ensures.looks tells)
    (c.in_err-tables.ensures.looks tells)))

pub returns-in_err-check_files-clause-clears : goal.returns-in_err-check_files-clause-clears
returns-in_err-check_files-clause-clears g c tells =
    clears_looks _ _ _ (c.in_ok-store.ensures.clears tells) (looks_then _ _ _ (c.in_ok-next.ensures.looks tells) (c.in_ok-tables.ensures.looks tells))

pub returns-in_err-check_files-clause-bad : goal.returns-in_err-check_files-clause-bad
returns-in_err-check_files-clause-bad g c =
    let p = err_from_is_err_and c.from_residual-in_err-check_files.result c.from_residual-in_err-check_files.ensures.1 in
    let kept = c.in_ok-store.store in
    let tables = table_in c.in_ok-tables.tables in
    let w = g.H.Host.world c.read_next.new.host in
    rw (p.1, p.2)
    (file_damaged (Unit {0}) _ g.H.Host.tells kept w (shown (g.H.Host.world c.args.host.now).now.fs) (shown (g.H.Host.world c.read_tables.new.host).now.fs)
    (bad_weaker (Unit {0}) (Unit {0}) _ (λ name place. IsWrongFile kept tables name × (place ≡ 0)) (λ name place. g.H.Host.tells → (map : FileList) → IsStore kept map w → Bad (by_name map) name place)
    (λ name place bad tells map is. wrong_bad kept tables c.in_ok-tables.ensures.defined map w is (c.in_ok-tables.ensures.read tells map is) name place bad.0 bad.1) c.in_err-check_files.ensures.bad)
    (λ tells.
    left_there kept (g.H.Host.world c.args.host.now) (g.H.Host.world c.attach.new.host) w (g.H.Host.world c.read_tables.new.host) (g.met.H.Host.sound c.args.host.now tells) (g.met.H.Host.sound c.read_tables.new.host tells) (c.in_ok-store.ensures.stands tells) (c.in_ok-next.ensures.looks tells)
    (c.in_ok-tables.ensures.looks tells)))

pub returns-clause-clears : goal.returns-clause-clears
returns-clause-clears g c tells =
    clears_looks _ _ _ (c.in_ok-store.ensures.clears tells) (looks_then _ _ _ (c.in_ok-next.ensures.looks tells) (c.in_ok-tables.ensures.looks tells))

pub returns-clause-open : goal.returns-clause-open
returns-clause-open g c =
    opened_open _ c.in_ok-store.ensures.live c.in_ok-store.ensures.serials c.in_ok-tables.ensures.defined c.in_ok-check_files.ensures.files c.in_ok-next.ensures.some c.in_ok-next.ensures.most

pub returns-clause-opened : goal.returns-clause-opened
returns-clause-opened g c tells =
    opened_is _ (g.H.Host.world c.args.host.now) (g.H.Host.world c.attach.new.host) (g.H.Host.world c.read_next.new.host) (g.H.Host.world c.read_tables.new.host) (c.in_ok-store.ensures.stands tells) (c.in_ok-next.ensures.looks tells)
    (c.in_ok-tables.ensures.looks tells) (λ map is. c.in_ok-next.ensures.next tells map is) c.in_ok-tables.ensures.defined (λ map is. c.in_ok-tables.ensures.read tells map is)
