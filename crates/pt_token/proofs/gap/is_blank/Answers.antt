use Rattle.std.proofs.Common.{refl, sym}
use Rattle.pt_token.proofs.Blanks.{gaps_on, gaps_back, all_gaps}
use Rattle.pt_token.proofs.gap.is_blank.Goals as goal

pub loop-rest-preserved : goal.loop-rest-preserved
loop-rest-preserved c = record {
  on = λ gaps. c.loop-rest.invariant.on (gaps_on c.loop-rest.inside c.loop-rest.rest.now _ c.in-Some.gap (sym c.in-Some.ensures.value) c.behind-rest.ensures gaps);
  back = λ blank. gaps_back c.loop-rest.inside c.loop-rest.rest.now _ c.in-Some.gap (cc) (sym c.in-Some.ensures.value) c.behind-rest.ensures (c.loop-rest.invariant.back blank);
}

pub returns : goal.returns
returns c = (λ _. c.loop-rest.invariant.on (all_gaps c.loop-rest.inside _ (cc)), λ _. refl)
