use Rattle.std.proofs.Common.{◌≡◌, take, drop}
use Rattle.pt_token.specs.Machine.{run}
use Rattle.pt_token.specs.Pieces.{cut_in}
use Rattle.pt_token.proofs.Loops.{moved}
use Rattle.pt_token.proofs.splitter.next_cut.Given as goal

abbrev pub invariant-loop-place : goal.invariant-loop-place
invariant-loop-place l = record {
  place : cut_in l.fn.state l.bytes ≡ moved l.place (cut_in l.state (drop l.place l.bytes));
  state : l.state ≡ run l.fn.state (take l.place l.bytes);
}
