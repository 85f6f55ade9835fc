use Rattle.std.proofs.Common.{sym, ◌∙◌}
use Rattle.pt_place.specs.First.{first_in}
use Rattle.pt_place.specs.Lacking.{lacks_primary, lacks_unique}
use Rattle.pt_place.proofs.Firsts.{or-some, or-none}
use Rattle.pt_place.proofs.Ranks.{by_ranks}
use Rattle.pt_place.proofs.keys.lacking_key.Goals as goal

pub returns-in-Some : goal.returns-in-Some
returns-in-Some c =
    let def = c.args.def.now in
    sym (or-some _ (first_in (lacks_unique def) def.keys) c.in-Some.refusal (rw c.items-keys.ensures at (sym c.in-Some.ensures))) ∙ by_ranks def

pub returns : goal.returns
returns c =
    let def = c.args.def.now in
    rw c.items-keys.ensures at c.lacking_unique.ensures ∙ sym (or-none (first_in (lacks_primary def) def.keys) _ (rw c.items-keys.ensures at (sym c.in_default.ensures))) ∙ by_ranks def
