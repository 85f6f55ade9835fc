use Rattle.std.proofs.Common.{◌≡◌, ap, sym, ◌∙◌}
use Rattle.std.specs.Option.{option_copied}
use Rattle.pt_host.specs.Listed.{FileList, by_name}
use Rattle.pt_store.specs.Store.{IsStore}
use Rattle.pt_holds.specs.Bad.{AreBadRows, Bad}
use Rattle.pt_session.specs.Session.{IsOver}
use Rattle.pt_session.proofs.BadRows.{bad_then, rows_bad}
use Rattle.pt_session.proofs.session.Session.rows.Goals as goal

pub returns-clause-bad : goal.returns-clause-bad
returns-clause-bad g c =
    let session = c.args.self.now in
    let file = c.file_of-file.result in
    let bytes = c.as_slice.result.now in
    bad_then c.fitting_rows.result (λ name place. (name ≡ file) × AreBadRows session.next c.in-Some.def.now c.args.spot bytes place)
    (λ name place. g.H.Host.tells → (map : FileList) → IsStore session.store map (g.H.Host.world c.args.host.now) → IsOver session (by_name map) → Bad (by_name map) name place)
    (λ name place h tells map is over.
    rows_bad session c.requires.open c.args.table.now c.in-Some.def.now (sym c.table.ensures ∙ ap (λ o. option_copied o) c.in-Some.is) c.args.spot map file c.in_ok-bytes.bytes.items bytes name place
    c.requires.spot over c.file_of-file.ensures (c.in_ok-bytes.ensures.bytes tells map is) c.as_slice.ensures.value h.0 h.1)
    c.fitting_rows.ensures.bad
