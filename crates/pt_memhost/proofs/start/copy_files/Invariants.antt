use Rattle.std.proofs.Common.{◌≡◌, take}
use Rattle.pt_memhost.proofs.start.copy_files.Given as goal

abbrev pub invariant-loop-name : goal.invariant-loop-name
invariant-loop-name l = l.copy ≡ take l.name-index l.files
