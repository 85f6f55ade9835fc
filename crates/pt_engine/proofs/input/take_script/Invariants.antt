use Rattle.std.proofs.Common.{◌≡◌, ◌-◌, ◌^◌, List, ℕ}
use Rattle.pt_reading.specs.Taking.{IsTaken}
use Rattle.pt_engine.specs.Input.{TakesFront}
use Rattle.pt_engine.proofs.input.take_script.Given as goal

abbrev pub invariant-loop-count : goal.invariant-loop-count
invariant-loop-count g l = record {
  some : (front : List ℕ) × IsTaken front l.script;
  taken : g.H.Host.tells → TakesFront (g.H.Host.world l.initial.host) (g.H.Host.world l.host) l.script;
  counts : g.H.Host.counts l.host ≡ g.H.Host.counts l.initial.host;
}

abbrev pub decreases-loop-count : goal.decreases-loop-count
decreases-loop-count g l = 2 ^ 32 - l.script.taken
