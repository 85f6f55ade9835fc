use Rattle.std.proofs.Common.{ℕ, Bool, List, [], filter, ap, ◌∙◌}
use Rattle.std.specs.Prelude.{unwrap_or}
use Rattle.pt_db.specs.Spots.{spots_of}
use Rattle.pt_prune.specs.Marks.{keeps}
use Rattle.pt_prune.proofs.Resting.{kept_all}
use Rattle.pt_prune.proofs.spots.kept.Goals as goal

pub returns : goal.returns
returns c =
    let def = c.args.def.now in
    let names = unwrap_or c.args.names.now [] in
    let parts = c.in_ok-parts.parts.items in
    let subs = c.in_ok-subs.subs.items in
    kept_all def names c.args.cond.now parts subs c.in_ok-spots.spots.items c.in_ok-parts.ensures c.in_ok-subs.ensures
    (c.in_ok-spots.ensures
    ∙ ap (λ (own : List (List ℕ)). filter (keeps def own c.as_slice.result.now c.as_slice-2.result.now) (spots_of def)) c.listed-own.ensures
    ∙ ap (λ (marks : List Bool). filter (keeps def names marks c.as_slice-2.result.now) (spots_of def)) c.as_slice.ensures.value
    ∙ ap (λ (marks : List Bool). filter (keeps def names parts marks) (spots_of def)) c.as_slice-2.ensures.value)
