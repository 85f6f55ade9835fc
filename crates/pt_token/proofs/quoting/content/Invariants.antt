use Rattle.std.proofs.Common.{◌≡◌, ◌++◌, drop}
use Rattle.pt_token.specs.declared.quoting.Quoting.TheVariants.{Within}
use Rattle.pt_token.specs.Quoting.{content}
use Rattle.pt_token.proofs.quoting.content.Given as goal

abbrev pub invariant-loop-b : goal.invariant-loop-b
invariant-loop-b l = content l.mark Within l.bytes ≡ l.text ++ content l.mark l.at (drop l.b-index l.bytes)
