use Rattle.std.proofs.Common.{List, ℕ, not, sym, subst, ap, ◌∙◌}
use Rattle.std.specs.List.{filter}
use Rattle.std.proofs.lemmas.Map.Iter.{iter_end}
use Rattle.pt_host.specs.Listed.{AreRising}
use Rattle.pt_host.specs.Name.{is_extra}
use Rattle.pt_store.proofs.Listing.{lasting_rising, same_mapped}
use Rattle.pt_store.proofs.contents.lasting.Goals as goal

pub returns-clause-rising : goal.returns-clause-rising
returns-clause-rising c =
    let all = iter_end (λ (file : List ℕ × List ℕ). file) c.args.contents.entries c.loop-name.yielded c.into_iter-name-iterator.result c.loop-name.name-iterator c.next.new.self c.next.result c.into_iter-name-iterator.ensures.into_iter_gives.0 c.loop-name.yielded_by c.in-None.is c.next.ensures.steps in
    subst AreRising (sym (c.loop-name.invariant ∙ ap (filter (λ file. not (is_extra file.0))) (sym (same_mapped c.loop-name.yielded) ∙ all.0)))
    (lasting_rising c.args.contents.entries c.into_iter-name-iterator.ensures.into_iter_gives.5)
