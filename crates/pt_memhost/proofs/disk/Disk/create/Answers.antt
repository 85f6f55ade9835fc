use Rattle.std.proofs.Common.{rules}
use Rattle.pt_memhost.specs.Names.{named}
use Rattle.pt_memhost.proofs.Held.{created_is}
use Rattle.pt_memhost.proofs.disk.Disk.create.Goals as goal

pub returns : goal.returns
returns c = record {
  kept = created_is c.args.self.now.objects.items c.add_last.new.list.items (named c.args.self.now.settled) c.args.self.now.pending.items c.change_pending.new.pending.items c.args.name
      (search rules) (search rules);
}
