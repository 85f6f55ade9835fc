use Rattle.std.proofs.Common.{◌≡◌, ◌-◌}
use Rattle.pt_defs.specs.Reading.{many, part_def_at}
use Rattle.pt_defs.specs.Given.{with_front}
use Rattle.pt_defs.proofs.get_def.so_many_parts.Given as goal

abbrev pub invariant-loop : goal.invariant-loop
invariant-loop l = with_front l.items (many (part_def_at l.main l.sub) (l.count - l.counter) l.rest) ≡ many (part_def_at l.main l.sub) l.count l.bytes
