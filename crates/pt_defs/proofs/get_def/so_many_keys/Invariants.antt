use Rattle.std.proofs.Common.{◌≡◌, ◌-◌}
use Rattle.pt_defs.specs.Reading.{many, key_at}
use Rattle.pt_defs.specs.Given.{with_front}
use Rattle.pt_defs.proofs.get_def.so_many_keys.Given as goal

abbrev pub invariant-loop : goal.invariant-loop
invariant-loop l = with_front l.items (many (key_at l.width) (l.count - l.counter) l.rest) ≡ many (key_at l.width) l.count l.bytes
