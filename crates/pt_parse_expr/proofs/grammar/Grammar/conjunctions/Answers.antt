use Rattle.pt_parse_expr.specs.Reader.{found, next_conjunction}
use Rattle.pt_parse_expr.proofs.Turns.{turn, turn_end}
use Rattle.pt_parse_expr.proofs.grammar.Grammar.conjunctions.Goals as goal

pub loop-conjunctions-preserved : goal.loop-conjunctions-preserved
loop-conjunctions-preserved g c =
    let s = c.loop-conjunctions in
    let t = turn (next_conjunction (found c.args.self.now.depth)) c.args.symbols.now c.args.at s.conjunctions s.next c.in_ok-conjunction.field-0 c.in-Some.conjunction c.in-Some.behind c.push.new.self
    s.invariant.so_far s.invariant.low c.in-Some.is c.in_ok-conjunction.ensures.reads c.in_ok-conjunction.ensures.place c.in_ok-push.ensures.ok in
    record { so_far = t.so_far; low = t.low; high = t.high }

pub returns-clause-many : goal.returns-clause-many
returns-clause-many g c =
    let s = c.loop-conjunctions in
    turn_end (next_conjunction (found c.args.self.now.depth)) c.args.symbols.now c.args.at s.conjunctions s.next c.in_ok-conjunction.field-0 s.invariant.so_far c.in_default.is c.in_ok-conjunction.ensures.reads
