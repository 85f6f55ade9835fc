use Rattle.pt_memhost.specs.Memory.{world_in}
use Rattle.pt_host_cases.specs.Entered.{IsAt}
use Rattle.pt_host_cases.proofs.memory.answer_lines.Given as goal

abbrev pub invariant-loop-line : goal.invariant-loop-line
invariant-loop-line l = IsAt l.is_entered (world_in l.host)
