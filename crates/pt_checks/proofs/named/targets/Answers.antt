use Rattle.std.proofs.Common.{ℕ, ◌<◌, List, length, All, sym, subst}
use Rattle.std.proofs.lemmas.Result.{IfOk-weaker}
use Rattle.pt_checks.proofs.Positions.{all_below, listed_below}
use Rattle.pt_checks.proofs.named.targets.Goals as goal

pub returns-in-Some-clause-below : goal.returns-in-Some-clause-below
returns-in-Some-clause-below c =
    IfOk-weaker c.listed.result _ _ (λ (found : List ℕ) is. subst (All (λ at. at < length c.args.def.now.columns)) (sym is) (listed_below c.args.def.now.columns _)) c.listed.ensures

pub returns-in-None-clause-below : goal.returns-in-None-clause-below
returns-in-None-clause-below c = IfOk-weaker c.all.result _ _ (λ (found : List ℕ) is. all_below _ _ found c.items-in-None.ensures is) c.all.ensures
