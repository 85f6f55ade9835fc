use Rattle.std.proofs.Common.{◌≡◌, ℕ, List, ◌++◌, Bor}
use Rattle.std.proofs.lemmas.Slice.Eq.{strip_suffix_is}
use Rattle.std.proofs.lemmas.Bool.Decides.{Decides-eqb}
use Rattle.pt_names.proofs.OptionCases.{if_some, if_none}
use Rattle.pt_names.proofs.owner.before.Goals as goal

pub returns-clause-some : goal.returns-clause-some
returns-clause-some c =
    let bytes = c.args.bytes.now in
    let end = c.args.end.now in
    if_some {X = Bor (List ℕ)} c.strip_suffix.result ((front : List ℕ) → bytes ≡ front ++ end → ⊥) (λ x. bytes ≡ x.now ++ end)
    (strip_suffix_is Decides-eqb bytes end c.strip_suffix.result c.strip_suffix.ensures.cases)

pub returns-clause-none : goal.returns-clause-none
returns-clause-none c =
    let bytes = c.args.bytes.now in
    let end = c.args.end.now in
    if_none {X = Bor (List ℕ)} c.strip_suffix.result ((front : List ℕ) → bytes ≡ front ++ end → ⊥) (λ x. bytes ≡ x.now ++ end)
    (strip_suffix_is Decides-eqb bytes end c.strip_suffix.result c.strip_suffix.ensures.cases)
