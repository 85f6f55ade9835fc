use Rattle.pt_parse_expr.specs.Reader.{found, next_negation}
use Rattle.pt_parse_expr.proofs.Turns.{turn, turn_end}
use Rattle.pt_parse_expr.proofs.grammar.Grammar.negations.Goals as goal

pub loop-negations-preserved : goal.loop-negations-preserved
loop-negations-preserved g c =
    let s = c.loop-negations in
    let t = turn (next_negation (found c.args.self.now.depth)) c.args.symbols.now c.args.at s.negations s.next c.in_ok-negation.field-0 c.in-Some.negation c.in-Some.behind c.push.new.self
    s.invariant.so_far s.invariant.low c.in-Some.is c.in_ok-negation.ensures.reads c.in_ok-negation.ensures.place c.in_ok-push.ensures.ok in
    record { so_far = t.so_far; low = t.low; high = t.high }

pub returns-clause-many : goal.returns-clause-many
returns-clause-many g c =
    let s = c.loop-negations in
    turn_end (next_negation (found c.args.self.now.depth)) c.args.symbols.now c.args.at s.negations s.next c.in_ok-negation.field-0 s.invariant.so_far c.in_default.is c.in_ok-negation.ensures.reads
