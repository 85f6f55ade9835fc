use Rattle.std.proofs.Common.{Some, sym, ap, subst, ◌∙◌}
use Rattle.std.proofs.lemmas.Result.{err_from_is_err_and}
use Rattle.pt_host.specs.Listed.{FileList, by_name}
use Rattle.pt_left.specs.Left.{IsWhole}
use Rattle.pt_store.specs.Store.{IsStore}
use Rattle.pt_store.proofs.Moments.{bad_weaker}
use Rattle.pt_holds.specs.Bad.{Bad}
use Rattle.pt_session.proofs.Defined.{def_bad, def_read}
use Rattle.pt_session.proofs.opening.read_def.Goals as goal

pub returns-in_err-bytes-clause-bad : goal.returns-in_err-bytes-clause-bad
returns-in_err-bytes-clause-bad g c =
    let p = err_from_is_err_and c.from_residual.result c.from_residual.ensures.1 in
    rw (p.1, p.2)
    (bad_weaker (Unit {0}) (Unit {0}) _ (λ name place. IsWhole name place × (g.H.Host.tells → ⊥))
    (λ name place. g.H.Host.tells → (map : FileList) → IsStore c.args.store.now map (g.H.Host.world c.args.host.now) → Bad (by_name map) name place)
    (λ name place bad tells map is. absurd (bad.1 tells)) c.in_err-bytes.ensures.bad)

pub returns-in_err-bytes-clause-looks : goal.returns-in_err-bytes-clause-looks
returns-in_err-bytes-clause-looks g c tells = let s = c.requires.stands tells in (c.in_err-bytes.ensures.told tells s.0 s.1).looks

pub returns-in-Ok-clause-looks : goal.returns-in-Ok-clause-looks
returns-in-Ok-clause-looks g c tells = let s = c.requires.stands tells in (c.in_ok-bytes.ensures.told tells s.0 s.1).looks

pub returns-in-Ok-clause-kept : goal.returns-in-Ok-clause-kept
returns-in-Ok-clause-kept g c = record { name_is = c.requires.named; storable = c.in-Ok.ensures.1; valid = c.in-Ok.ensures.2 }

pub returns-in-Ok-clause-read : goal.returns-in-Ok-clause-read
returns-in-Ok-clause-read g c tells map is =
    def_read (by_name map) c.args.table.now c.as_slice.result.now c.in-Ok.def c.requires.named
    (ap (by_name map) (sym c.def_name-name.ensures) ∙ c.in_ok-bytes.ensures.bytes tells map is ∙ ap (λ bytes. Some bytes) (sym c.as_slice.ensures.value)) c.in-Ok.ensures.0

pub returns-in-Err-Bad-clause-bad : goal.returns-in-Err-Bad-clause-bad
returns-in-Err-Bad-clause-bad g c tells map is =
    subst (λ name. Bad (by_name map) name c.in-Err-Bad.place) (sym c.def_name-name.ensures)
    (def_bad (by_name map) c.args.table.now c.as_slice.result.now c.in-Err-Bad.place c.requires.named
    (ap (by_name map) (sym c.def_name-name.ensures) ∙ c.in_ok-bytes.ensures.bytes tells map is ∙ ap (λ bytes. Some bytes) (sym c.as_slice.ensures.value)) (rw c.in-Err-Bad.field-0-is at c.in-Err-Bad.ensures))

pub returns-in-Err-Bad-clause-looks : goal.returns-in-Err-Bad-clause-looks
returns-in-Err-Bad-clause-looks g c tells = let s = c.requires.stands tells in (c.in_ok-bytes.ensures.told tells s.0 s.1).looks

pub returns-clause-looks : goal.returns-clause-looks
returns-clause-looks g c tells = let s = c.requires.stands tells in (c.in_ok-bytes.ensures.told tells s.0 s.1).looks
