use Rattle.std.proofs.Common.{map}
use Rattle.pt_place.specs.Fitting.{kinds_of}
use Rattle.pt_written.specs.WrittenParts.{part_in}
use Rattle.pt_complete.proofs.Naming.{AreNamed}
use Rattle.pt_complete.proofs.parts_named.parts_in.Given as goal

abbrev pub invariant-loop-item : goal.invariant-loop-item
invariant-loop-item l = AreNamed (map (part_in (kinds_of l.columns l.by) l.by l.sub l.count) l.items) l.item-index l.names l.parts
