use Rattle.std.proofs.Common.{◌≡◌, ◌++◌, ◌∙◌, List, ℕ, OnOk, subst, ap}
use Rattle.std.specs.Int.{w128, cast_unsigned}
use Rattle.std.proofs.lemmas.Int.{to_z-of_z}
use Rattle.std.proofs.Common.{FitsSigned}
use Rattle.pt_bytes.specs.Numbers.{le_bytes}
use Rattle.pt_bytes.proofs.Numbers.{lowest_is}
use Rattle.pt_defs.proofs.put_expr.put_number.Goals as goal

pub returns : goal.returns
returns c =
    let fits : FitsSigned w128 c.args.n = c.ranges.n in
    subst (λ (bytes : List ℕ). OnOk c.put_bytes.result (c.put_bytes.new.out.items ≡ c.args.out.now.items ++ bytes)) (c.to_le_bytes.ensures ∙ lowest_is 16 _ ∙ ap (le_bytes 16) c.cast_unsigned.ensures ∙ ap (λ z. le_bytes 16 (cast_unsigned w128 z)) (to_z-of_z w128 c.args.n fits))
    c.put_bytes.ensures.ok
