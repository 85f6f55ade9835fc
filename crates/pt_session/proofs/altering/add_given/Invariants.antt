use Rattle.std.proofs.Common.{◌≡◌, ◌++◌, map, take}
use Rattle.std.specs.List.{All}
use Rattle.pt_holds.specs.Acts.{AreRecords}
use Rattle.pt_session.specs.Shaping.{given_file}
use Rattle.pt_session.proofs.altering.add_given.Given as goal

abbrev pub invariant-loop-spot : goal.invariant-loop-spot
invariant-loop-spot l = (l.files ≡ l.initial.files ++ map (given_file l.name l.def) (take l.spot-index l.fresh)) × All AreRecords (take l.spot-index l.fresh)
