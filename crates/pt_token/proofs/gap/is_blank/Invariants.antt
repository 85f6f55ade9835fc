use Rattle.std.proofs.Common.{length}
use Rattle.pt_token.specs.Gap.{AreGaps, IsBlank}
use Rattle.pt_token.proofs.gap.is_blank.Given as goal

abbrev pub invariant-loop-rest : goal.invariant-loop-rest
invariant-loop-rest l = record {
  on : AreGaps l.inside l.rest → IsBlank l.piece;
  back : IsBlank l.piece → AreGaps l.inside l.rest;
}

abbrev pub decreases-loop-rest : goal.decreases-loop-rest
decreases-loop-rest l = length l.rest
