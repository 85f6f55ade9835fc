use Rattle.std.proofs.Common.{Some, ap, arith}
use Rattle.pt_parse_ddl.specs.Steps.{next_item}
use Rattle.pt_parse_ddl.proofs.Turns.{turn, turn_end, turn_place}
use Rattle.pt_parse_ddl.proofs.rules.more_items.Goals as goal

pub loop-items-preserved : goal.loop-items-preserved
loop-items-preserved g c =
    let s = c.loop-items in
    let place = turn_place c.args.symbols.now s.next c.in_ok-item.field-0 c.in-Some.item c.in-Some.behind c.in-Some.is c.in_ok-item.ensures.place in
    record {
      so_far = turn (next_item g.R.Rule.reading) c.args.symbols.now _ s.items s.next c.in_ok-item.field-0 c.in-Some.item c.in-Some.behind c.push-in-Some.new.self
          s.invariant.so_far c.in-Some.is c.in_ok-item.ensures.reads c.in_ok-item.ensures.place c.in_ok-push-2.ensures.ok;
      low = omega (arith, s.invariant.low, place.0);
      high = place.1;
    }

pub returns-clause-reads : goal.returns-clause-reads
returns-clause-reads g c =
    let s = c.loop-items in
    ap Some (turn_end (next_item g.R.Rule.reading) c.args.symbols.now _ s.items s.next c.in_ok-item.field-0 s.invariant.so_far c.in_default.is c.in_ok-item.ensures.reads)
