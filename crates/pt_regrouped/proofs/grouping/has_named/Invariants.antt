use Rattle.std.proofs.Common.{◌≡◌, drop}
use Rattle.std.specs.List.{list_any}
use Rattle.pt_regrouped.specs.Regrouped.{is_named}
use Rattle.pt_regrouped.proofs.grouping.has_named.Given as goal

abbrev pub invariant-loop-part : goal.invariant-loop-part
invariant-loop-part l = list_any (is_named l.names) (drop l.part-index l.parts) ≡ list_any (is_named l.names) l.parts
