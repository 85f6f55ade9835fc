use Rattle.std.proofs.Common.{◌∙◌, [], ◌∷◌, ◌++◌, rules, ap, subst}
use Rattle.pt_host.specs.Disk.{IsSound}
use Rattle.pt_memhost.proofs.Story.{mirrors_more, world_more}
use Rattle.pt_memhost.specs.Law.{law}
use Rattle.pt_memhost.proofs.kept.Kept.run.Goals as goal

pub change-requires : goal.change-requires
change-requires c = subst IsSound c.self.invariant.fs_is (law _)

pub invariant_of-self-2 : goal.invariant_of-self-2
invariant_of-self-2 c =
    mirrors_more c.self.inside.files c.self.inside.state.input c.change.new.self.input c.self.inside.events.items c.add_last.new.list.items c.args.event c.change.new.self
    c.in_ok-change.ensures.input
    (c.add_last.ensures ∙ ap (λ events. events ++ c.args.event ∷ []) c.in_ok-reserve.ensures.items)
    (c.in_ok-change.ensures.kept _ c.self.invariant)

pub returns-clause-world : goal.returns-clause-world
returns-clause-world c =
    world_more c.args.self.now (record { files = c.self.inside.files; input = c.change.new.self.input; events = c.add_last.new.list.items }) c.args.event (search rules)
