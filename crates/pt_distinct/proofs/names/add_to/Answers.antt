use Rattle.std.proofs.Common.{rules, ◌≡◌, ◌++◌, ◌∷◌, []}
use Rattle.pt_distinct.proofs.Added.{name_added}
use Rattle.pt_distinct.proofs.names.add_to.Goals as goal

pub returns-clause-keys : goal.returns-clause-keys
returns-clause-keys c key =
    let pushed : c.push.new.self.items ≡ c.args.added.now.items ++ c.args.name.now ∷ [] = search rules in
    name_added key c.lowered.result c.args.name.now c.args.added.now.items c.push.new.self.items _ _ c.lowered.ensures pushed (c.requires key) (c.in_ok-insert.ensures.updates.0 key)
