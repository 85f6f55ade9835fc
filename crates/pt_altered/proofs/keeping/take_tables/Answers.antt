use Rattle.std.specs.Cmp.Lexicographic.{slice_cmp}
use Rattle.std.specs.Ordering.{nat_cmp}
use Rattle.pt_plain.proofs.Rising.{sorted_nil}
use Rattle.pt_altered.proofs.keeping.take_tables.Goals as goal

pub of-requires : goal.of-requires
of-requires c = rw c.new.ensures.items (sorted_nil (slice_cmp nat_cmp))
