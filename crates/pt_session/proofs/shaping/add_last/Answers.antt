use Rattle.std.proofs.Common.{refl, ◌∙◌}
use Rattle.std.proofs.lemmas.Map.Made.{update_all_distinct}
use Rattle.indexmap.specs.IndexMap.{get}
use Rattle.pt_session.proofs.LastEntry.{goes_last}
use Rattle.pt_session.proofs.shaping.add_last.Goals as goal

pub returns-clause-each : goal.returns-clause-each
returns-clause-each g c key =
    c.first_last.ensures.each key ∙ c.in-Ok.ensures.inserts.0 key
    ∙ update_all_distinct g.met.K.Eq.laws g.K.PartialEq.eq (λ x y. refl) (get g.K.PartialEq.eq c.args.coming) c.args.tables.now.entries key c.len-count.ensures.unique

pub returns-clause-last : goal.returns-clause-last
returns-clause-last g c =
    goes_last g.met.K.Eq.laws c.requires.entry.0 c.args.coming.entries c.args.tables.now.entries _ _ c.requires.entry.1 c.len-count.ensures.unique c.requires.entry.2 c.in-Ok.ensures.entries c.first_last.ensures.last
