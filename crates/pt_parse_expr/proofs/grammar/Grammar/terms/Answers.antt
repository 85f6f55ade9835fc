use Rattle.pt_parse_expr.specs.Reader.{found, next_term}
use Rattle.pt_parse_expr.proofs.Turns.{turn, turn_end}
use Rattle.pt_parse_expr.proofs.grammar.Grammar.terms.Goals as goal

pub loop-terms-preserved : goal.loop-terms-preserved
loop-terms-preserved g c =
    let s = c.loop-terms in
    let t = turn (next_term (found c.args.self.now.depth)) c.args.symbols.now c.args.at s.terms s.next c.in_ok-term.field-0 c.in-Some.term c.in-Some.behind c.push.new.self
    s.invariant.so_far s.invariant.low c.in-Some.is c.in_ok-term.ensures.reads c.in_ok-term.ensures.place c.in_ok-push.ensures.ok in
    record { so_far = t.so_far; low = t.low; high = t.high }

pub returns-clause-many : goal.returns-clause-many
returns-clause-many g c =
    let s = c.loop-terms in
    turn_end (next_term (found c.args.self.now.depth)) c.args.symbols.now c.args.at s.terms s.next c.in_ok-term.field-0 s.invariant.so_far c.in_default.is c.in_ok-term.ensures.reads
