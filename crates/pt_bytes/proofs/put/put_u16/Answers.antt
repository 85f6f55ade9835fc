use Rattle.std.proofs.Common.{◌≡◌, ◌++◌, ◌∙◌, List, ℕ, OnOk, subst}
use Rattle.pt_bytes.proofs.Numbers.{lowest_is}
use Rattle.pt_bytes.proofs.put.put_u16.Goals as goal

pub returns-clause-ok : goal.returns-clause-ok
returns-clause-ok c =
    subst (λ (bytes : List ℕ). OnOk c.put_bytes.result (c.put_bytes.new.out.items ≡ c.args.out.now.items ++ bytes)) (c.write_u16.ensures ∙ lowest_is 2 c.args.v) c.put_bytes.ensures.ok
