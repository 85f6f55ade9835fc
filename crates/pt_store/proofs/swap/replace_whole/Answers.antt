use Rattle.std.proofs.Common.{inr}
use Rattle.pt_host.proofs.Replacement.{then_but, but_either, either_then, rename_either, swapped_after}
use Rattle.pt_host.proofs.Runs.{idle_then}
use Rattle.pt_host.proofs.Operations.{sync_names_then}
use Rattle.pt_left.specs.Left.{whole_name, shadow_name}
use Rattle.pt_left.proofs.Directories.{apart, apart_back}
use Rattle.pt_store.proofs.swap.replace_whole.Goals as goal

pub returns-in_err-clear_shadow-clause-quiet : goal.returns-in_err-clear_shadow-clause-quiet
returns-in_err-clear_shadow-clause-quiet g c = λ tells. but_either _ _ whole_name shadow_name c.args.bytes.now apart (c.in_err-clear_shadow.ensures.quiet tells)

pub returns-in_err-fill_shadow-clause-quiet : goal.returns-in_err-fill_shadow-clause-quiet
returns-in_err-fill_shadow-clause-quiet g c = λ tells.
    but_either _ _ whole_name shadow_name c.args.bytes.now apart
    (then_but _ _ _ shadow_name (c.in_ok-clear_shadow.ensures.quiet tells) (c.in_err-fill_shadow.ensures.quiet tells))

pub returns-in_err-rename-clause-quiet : goal.returns-in_err-rename-clause-quiet
returns-in_err-rename-clause-quiet g c = λ tells.
    let which = rw (c.shadow.ensures, c.whole.ensures) at (c.in_err-rename.ensures.failed tells) in
    either_then _ _ _ whole_name shadow_name c.args.bytes.now apart
    (then_but _ _ _ shadow_name (c.in_ok-clear_shadow.ensures.quiet tells) (c.in_ok-fill_shadow.ensures.quiet tells))
    (rename_either _ _ shadow_name whole_name c.args.bytes.now (g.met.H.Host.sound c.fill_shadow.new.host tells) apart_back (c.in_ok-fill_shadow.ensures.ready tells) which)

pub returns-in_err-sync_names-clause-quiet : goal.returns-in_err-sync_names-clause-quiet
returns-in_err-sync_names-clause-quiet g c = λ tells.
    let done = rw (c.shadow.ensures, c.whole.ensures) at (c.in_ok-rename.ensures.ok tells) in
    idle_then _ _ _ _
    (either_then _ _ _ whole_name shadow_name c.args.bytes.now apart
    (then_but _ _ _ shadow_name (c.in_ok-clear_shadow.ensures.quiet tells) (c.in_ok-fill_shadow.ensures.quiet tells))
    (rename_either _ _ shadow_name whole_name c.args.bytes.now (g.met.H.Host.sound c.fill_shadow.new.host tells) apart_back (c.in_ok-fill_shadow.ensures.ready tells) (inr done)))
    (c.in_err-sync_names.ensures.failed tells)

pub returns-clause-held : goal.returns-clause-held
returns-clause-held g c = λ tells.
    let done = rw (c.shadow.ensures, c.whole.ensures) at (c.in_ok-rename.ensures.ok tells) in
    swapped_after _ _ _ shadow_name whole_name c.args.bytes.now (c.in_ok-fill_shadow.ensures.ready tells) done (c.in_ok-sync_names.ensures.ok tells)

pub returns-clause-quiet : goal.returns-clause-quiet
returns-clause-quiet g c = λ tells.
    let done = rw (c.shadow.ensures, c.whole.ensures) at (c.in_ok-rename.ensures.ok tells) in
    sync_names_then _ _ _ _
    (either_then _ _ _ whole_name shadow_name c.args.bytes.now apart
    (then_but _ _ _ shadow_name (c.in_ok-clear_shadow.ensures.quiet tells) (c.in_ok-fill_shadow.ensures.quiet tells))
    (rename_either _ _ shadow_name whole_name c.args.bytes.now (g.met.H.Host.sound c.fill_shadow.new.host tells) apart_back (c.in_ok-fill_shadow.ensures.ready tells) (inr done)))
    (c.in_ok-sync_names.ensures.ok tells)
