-- The steps of a call, in the shape of the code.
use Rattle.std.specs.Prelude.{◌+◌}
use Rattle.pt_memhost.specs.declared.event.Event.{Event}
use Rattle.pt_memhost.specs.declared.host.turns.Side.{Side}
use Rattle.pt_memhost.specs.declared.host.turns.Side.TheVariants.{Disk, Input, Output}
use Rattle.pt_memhost.specs.Story.{with_event}
use Rattle.pt_memhost.specs.Memory.{Memory, capped}
use Rattle.pt_memhost.specs.Turns.{burnt}
use Rattle.pt_host.specs.Counts.{Counts, DiskFailed, InputFailed, OutputFailed}

-- one more call
abbrev pub after_turn : Memory → Memory
after_turn memory = record memory { calls = capped (memory.calls + 1); fuse = burnt memory.fuse }

-- one more event
abbrev pub running : Memory → Event → Memory
running memory event = record memory { story = with_event memory.story event }

-- one of the three has failed once more
abbrev pub raised : Side → Counts → Counts
raised Disk counts = record counts { disk = capped (counts.disk + 1) }
raised Input counts = record counts { input = capped (counts.input + 1) }
raised Output counts = record counts { output = capped (counts.output + 1) }

abbrev pub refusing : Side → Memory → Memory
refusing side memory = record memory { counts = raised side memory.counts }

-- That one failed, and nothing else.
abbrev pub HasFailed : Side → Counts → Counts → Type 0
HasFailed Disk old new = DiskFailed old new
HasFailed Input old new = InputFailed old new
HasFailed Output old new = OutputFailed old new

-- and memory was wanting once more
abbrev pub starving : Side → Memory → Memory
starving side memory = refusing side (record memory { starved = capped (memory.starved + 1) })
