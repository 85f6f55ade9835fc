use Rattle.std.proofs.Common.{refl}
use Rattle.std.proofs.lemmas.Result.{err_from_is_err_and}
use Rattle.pt_host.proofs.Runs.{follows_none}
use Rattle.pt_left.specs.Left.{OnlyOwn}
use Rattle.pt_left.proofs.Directories.{spelled_stands}
use Rattle.pt_store.proofs.Kept.{entry_sizes}
use Rattle.pt_store.proofs.Moments.{either_left, own_alone, replaced}
use Rattle.pt_store.proofs.Ordered.{in_order}
use Rattle.pt_store.proofs.Steps.{stopped_step}
use Rattle.pt_store.proofs.store.Store.replace.Goals as goal

pub returns-in_err-bytes-clause-told : goal.returns-in_err-bytes-clause-told
returns-in_err-bytes-clause-told g c = λ tells old store.
    let p = err_from_is_err_and c.from_residual.result c.from_residual.ensures.1 in
    stopped_step _ old c.args.files.now p.0 _ _ p.1 store

pub returns-in_err-replace_whole-clause-told : goal.returns-in_err-replace_whole-clause-told
returns-in_err-replace_whole-clause-told g c = λ tells old store.
    let p = err_from_is_err_and c.from_residual-in_err-replace_whole.result c.from_residual-in_err-replace_whole.ensures.1 in
    record {
      moments = either_left _ _ c.as_slice.result.now c.args.files.now
          (spelled_stands _ _ (rw (← c.as_slice.ensures.value, c.items.ensures) at c.in_ok-bytes.ensures.spelled) c.requires.rising (c.requires.serials tells))
          (c.in_err-replace_whole.ensures.quiet tells) old store.left;
      stands = rw (p.1, p.2) tt;
    }

pub returns-clause-told : goal.returns-clause-told
returns-clause-told g c = λ tells old store.
    let stands = spelled_stands _ _ (rw (← c.as_slice.ensures.value, c.items.ensures) at c.in_ok-bytes.ensures.spelled) c.requires.rising (c.requires.serials tells) in
    let quiet = c.in_ok-replace_whole.ensures.quiet tells in
    record {
      moments = either_left _ _ c.as_slice.result.now c.args.files.now stands quiet old store.left;
      stands = replaced _ _ c.as_slice.result.now c.args.files.now stands quiet _ refl (g.met.H.Host.sound c.replace_whole.new.host tells) store.entered
          (c.in_ok-replace_whole.ensures.held tells) (c.in_ok-replace_whole.ensures.settled tells)
          (rw (← c.as_slice.ensures.value, c.items.ensures) at c.in_ok-bytes.ensures.entries);
    }

pub returns-in_err-bytes-clause-others : goal.returns-in_err-bytes-clause-others
returns-in_err-bytes-clause-others g c = λ tells. follows_none _ OnlyOwn (λ files query own shadow. refl)

pub returns-in_err-replace_whole-clause-others : goal.returns-in_err-replace_whole-clause-others
returns-in_err-replace_whole-clause-others g c = λ tells. own_alone _ _ c.as_slice.result.now (c.in_err-replace_whole.ensures.quiet tells)

pub returns-clause-others : goal.returns-clause-others
returns-clause-others g c = λ tells. own_alone _ _ c.as_slice.result.now (c.in_ok-replace_whole.ensures.quiet tells)

pub returns-clause-after : goal.returns-clause-after
returns-clause-after g c = record { live = refl; sizes_are = entry_sizes _ _ _ (rw c.items.ensures at c.in_ok-bytes.ensures.entries) }

pub invariant_of-self-2 : goal.invariant_of-self-2
invariant_of-self-2 g c = record { order = in_order _ _ _ (rw c.items.ensures at c.in_ok-bytes.ensures.entries) c.requires.rising }
