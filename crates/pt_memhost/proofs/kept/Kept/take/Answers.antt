use Rattle.std.proofs.Common.{◌∙◌, [], ◌∷◌, ◌++◌, rules, ap}
use Rattle.pt_memhost.specs.declared.event.Event.TheVariants.{Took}
use Rattle.pt_memhost.proofs.Story.{mirrors_more, world_more}
use Rattle.pt_memhost.proofs.kept.Kept.take.Goals as goal

pub invariant_of-self-2 : goal.invariant_of-self-2
invariant_of-self-2 c =
    mirrors_more c.self.inside.files c.self.inside.state.input c.take.new.self.input c.self.inside.events.items c.add_last.new.list.items (Took c.read_from-count.result) c.take.new.self
    c.take.ensures.input
    (c.add_last.ensures ∙ ap (λ events. events ++ Took c.read_from-count.result ∷ []) c.in_ok-reserve.ensures.items)
    (c.take.ensures.mirrors _ c.self.invariant)

pub returns-clause-world : goal.returns-clause-world
returns-clause-world c =
    world_more c.args.self.now (record { files = c.self.inside.files; input = c.take.new.self.input; events = c.add_last.new.list.items }) (Took c.read_from-count.result) (search rules)
