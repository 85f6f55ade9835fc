use Rattle.std.proofs.Common.{inr, arith}
use Rattle.pt_host.proofs.Replacement.{then_but, idle_but, create_but, failed_write_but, write_but, sync_but, filled, draft_after_create}
use Rattle.pt_left.specs.Left.{shadow_name}
use Rattle.pt_store.proofs.swap.fill_shadow.Goals as goal

pub returns-in_err-create-clause-quiet : goal.returns-in_err-create-clause-quiet
returns-in_err-create-clause-quiet g c = λ tells.
    create_but _ _ shadow_name (g.met.H.Host.sound c.args.host.now tells) (rw c.shadow-shadow.ensures at (c.in_err-create.ensures.failed tells))

pub returns-in_err-write_at-clause-quiet : goal.returns-in_err-write_at-clause-quiet
returns-in_err-write_at-clause-quiet g c = λ tells.
    let made = rw c.shadow-shadow.ensures at (c.in_ok-create.ensures.ok tells) in
    let failed = rw c.shadow-shadow.ensures at (c.in_err-write_at.ensures.failed tells) in
    let draft = draft_after_create _ _ shadow_name (g.met.H.Host.sound c.args.host.now tells) (c.requires tells) made in
    then_but _ _ _ shadow_name
    (create_but _ _ shadow_name (g.met.H.Host.sound c.args.host.now tells) (inr made))
    (failed_write_but _ _ shadow_name _ 0 (g.met.H.Host.sound c.create.new.self tells) draft (omega arith) _ failed)

pub returns-in_err-sync-clause-quiet : goal.returns-in_err-sync-clause-quiet
returns-in_err-sync-clause-quiet g c = λ tells.
    let made = rw c.shadow-shadow.ensures at (c.in_ok-create.ensures.ok tells) in
    let put_in = rw c.shadow-shadow.ensures at (c.in_ok-write_at.ensures.ok tells) in
    let draft = draft_after_create _ _ shadow_name (g.met.H.Host.sound c.args.host.now tells) (c.requires tells) made in
    then_but _ _ _ shadow_name
    (then_but _ _ _ shadow_name
    (create_but _ _ shadow_name (g.met.H.Host.sound c.args.host.now tells) (inr made))
    (write_but _ _ shadow_name _ 0 (g.met.H.Host.sound c.create.new.self tells) draft (omega arith) _ put_in))
    (idle_but _ _ shadow_name (c.in_err-sync.ensures.failed tells))

pub returns-clause-quiet : goal.returns-clause-quiet
returns-clause-quiet g c = λ tells.
    let made = rw c.shadow-shadow.ensures at (c.in_ok-create.ensures.ok tells) in
    let put_in = rw c.shadow-shadow.ensures at (c.in_ok-write_at.ensures.ok tells) in
    let draft = draft_after_create _ _ shadow_name (g.met.H.Host.sound c.args.host.now tells) (c.requires tells) made in
    then_but _ _ _ shadow_name
    (then_but _ _ _ shadow_name
    (create_but _ _ shadow_name (g.met.H.Host.sound c.args.host.now tells) (inr made))
    (write_but _ _ shadow_name _ 0 (g.met.H.Host.sound c.create.new.self tells) draft (omega arith) _ put_in))
    (sync_but _ _ shadow_name (g.met.H.Host.sound c.write_at.new.self tells) (rw c.shadow-shadow.ensures at (c.in_ok-sync.ensures.ok tells)))

pub returns-clause-ready : goal.returns-clause-ready
returns-clause-ready g c = λ tells.
    let made = rw c.shadow-shadow.ensures at (c.in_ok-create.ensures.ok tells) in
    let put_in = rw c.shadow-shadow.ensures at (c.in_ok-write_at.ensures.ok tells) in
    let kept = rw c.shadow-shadow.ensures at (c.in_ok-sync.ensures.ok tells) in
    filled _ _ _ _ shadow_name c.args.bytes.now (g.met.H.Host.sound c.args.host.now tells) (c.requires tells) made put_in kept
