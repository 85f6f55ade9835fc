use Rattle.std.proofs.Common.{◌≡◌, map, take}
use Rattle.pt_host.specs.Disk.{names_after}
use Rattle.pt_memhost.specs.Names.{named, op_of}
use Rattle.pt_memhost.proofs.pick.names_kept.Given as goal

abbrev pub invariant-loop-to : goal.invariant-loop-to
invariant-loop-to l = named l.names ≡ names_after (map op_of (take l.to-index l.kept)) (named l.settled)
