use Rattle.std.proofs.Common.{◌≡◌, ◌<◌, true, drop}
use Rattle.pt_token.specs.declared.quoting.Quoting.TheVariants.{Within}
use Rattle.pt_token.specs.Quoting.{is_marked, text_end}
use Rattle.pt_token.proofs.Loops.{moved}
use Rattle.pt_token.proofs.quoting.text_end.Given as goal

abbrev pub invariant-loop-i : goal.invariant-loop-i
invariant-loop-i l = record {
  value : text_end l.mark Within l.bytes ≡ moved l.i (text_end l.mark l.at (drop l.i l.bytes));
  some : is_marked l.at ≡ true → 0 < l.i;
}
