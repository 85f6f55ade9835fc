use Rattle.std.proofs.Common.{arith}
use Rattle.pt_parse_ddl.specs.ColumnReader.{col_option}
use Rattle.pt_parse_ddl.proofs.Turns.{turn_place, kept_turn, kept_end}
use Rattle.pt_parse_ddl.proofs.columns.col_options.Goals as goal

pub loop-options-preserved : goal.loop-options-preserved
loop-options-preserved c =
    let s = c.loop-options in
    let place = turn_place c.args.symbols.now s.next c.in_ok-option.field-0 c.in-Some.option c.in-Some.behind c.in-Some.is c.in_ok-option.ensures.place in
    record {
      so_far = kept_turn col_option c.args.symbols.now _ s.options s.next c.in_ok-option.field-0 c.in-Some.option c.in-Some.behind c.keep.new.items
          s.invariant.so_far c.in-Some.is c.in_ok-option.ensures.reads c.in_ok-option.ensures.place c.in_ok-keep.ensures;
      low = omega (arith, s.invariant.low, place.0);
      high = place.1;
    }

pub returns-clause-reads : goal.returns-clause-reads
returns-clause-reads c =
    let s = c.loop-options in
    kept_end col_option c.args.symbols.now _ s.options s.next c.in_ok-option.field-0 s.invariant.so_far c.in_default.is c.in_ok-option.ensures.reads
