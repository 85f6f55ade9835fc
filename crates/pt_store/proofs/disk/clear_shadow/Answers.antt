use Rattle.std.proofs.Common.{inr}
use Rattle.pt_host.proofs.Replacement.{then_but, idle_but, unlink_but, sync_names_but}
use Rattle.pt_left.specs.Left.{shadow_name}
use Rattle.pt_store.proofs.disk.clear_shadow.Goals as goal

pub returns-in_err-unlink-clause-quiet : goal.returns-in_err-unlink-clause-quiet
returns-in_err-unlink-clause-quiet g c = λ tells.
    let which = rw c.shadow-shadow.ensures at (c.in_err-unlink.ensures.failed tells) in
    then_but _ _ _ shadow_name (idle_but _ _ shadow_name (c.length.ensures.same tells)) (unlink_but _ _ shadow_name (g.met.H.Host.sound c.length.new.self tells) which)

pub returns-in_err-sync_names-clause-quiet : goal.returns-in_err-sync_names-clause-quiet
returns-in_err-sync_names-clause-quiet g c = λ tells.
    let done = rw c.shadow-shadow.ensures at (c.in_ok-unlink.ensures.ok tells) in
    then_but _ _ _ shadow_name
    (then_but _ _ _ shadow_name (idle_but _ _ shadow_name (c.length.ensures.same tells)) (unlink_but _ _ shadow_name (g.met.H.Host.sound c.length.new.self tells) (inr done)))
    (idle_but _ _ shadow_name (c.in_err-sync_names.ensures.failed tells))

pub returns-in_ok-sync_names-clause-quiet : goal.returns-in_ok-sync_names-clause-quiet
returns-in_ok-sync_names-clause-quiet g c = λ tells.
    let done = rw c.shadow-shadow.ensures at (c.in_ok-unlink.ensures.ok tells) in
    then_but _ _ _ shadow_name
    (then_but _ _ _ shadow_name (idle_but _ _ shadow_name (c.length.ensures.same tells)) (unlink_but _ _ shadow_name (g.met.H.Host.sound c.length.new.self tells) (inr done)))
    (sync_names_but _ _ shadow_name (c.in_ok-sync_names.ensures.ok tells))
