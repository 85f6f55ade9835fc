use Rattle.std.proofs.Common.{subst}
use Rattle.pt_store.specs.Store.{sizes}
use Rattle.pt_file_cases.specs.Tests.{MayBeDone}
use Rattle.pt_file_cases.proofs.Fitting.{reshape_is}
use Rattle.pt_file_cases.proofs.allowed.may_reshape.Goals as goal

pub returns : goal.returns
returns c = λ yes. reshape_is (sizes c.args.store.now) c.args.fresh.now c.args.chain.now c.requires
    (c.is_clean.ensures.0 c.if-not-is_clean.false)
    (subst (MayBeDone (sizes c.args.store.now) c.args.fresh.now) c.items-acts.ensures (c.may_be_done.ensures yes))
