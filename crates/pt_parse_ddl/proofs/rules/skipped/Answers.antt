use Rattle.std.proofs.Common.{arith}
use Rattle.pt_parse_ddl.proofs.Turns.{pass, pass_end, pass_place}
use Rattle.pt_parse_ddl.proofs.rules.skipped.Goals as goal

pub loop-behind-preserved : goal.loop-behind-preserved
loop-behind-preserved g c =
    let s = c.loop-behind in
    let place = pass_place c.args.symbols.now s.next c.skip.result c.in-Some.behind c.in-Some.is c.skip.ensures.place in
    record {
      ahead = pass g.S.Skip.skipping c.args.symbols.now _ s.next c.skip.result c.in-Some.behind s.invariant.ahead c.in-Some.is c.skip.ensures.passes c.skip.ensures.place;
      low = omega (arith, s.invariant.low, place.0);
      high = place.1;
    }

pub returns-clause-skips : goal.returns-clause-skips
returns-clause-skips g c =
    let s = c.loop-behind in
    pass_end g.S.Skip.skipping c.args.symbols.now _ s.next c.skip.result s.invariant.ahead c.in_default.is c.skip.ensures.passes
