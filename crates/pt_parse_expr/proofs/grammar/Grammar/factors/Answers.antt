use Rattle.pt_parse_expr.specs.Reader.{found, next_factor}
use Rattle.pt_parse_expr.proofs.Turns.{turn, turn_end}
use Rattle.pt_parse_expr.proofs.grammar.Grammar.factors.Goals as goal

pub loop-factors-preserved : goal.loop-factors-preserved
loop-factors-preserved g c =
    let s = c.loop-factors in
    let t = turn (next_factor (found c.args.self.now.depth)) c.args.symbols.now c.args.at s.factors s.next c.in_ok-factor.field-0 c.in-Some.factor c.in-Some.behind c.push.new.self
    s.invariant.so_far s.invariant.low c.in-Some.is c.in_ok-factor.ensures.reads c.in_ok-factor.ensures.place c.in_ok-push.ensures.ok in
    record { so_far = t.so_far; low = t.low; high = t.high }

pub returns-clause-many : goal.returns-clause-many
returns-clause-many g c =
    let s = c.loop-factors in
    turn_end (next_factor (found c.args.self.now.depth)) c.args.symbols.now c.args.at s.factors s.next c.in_ok-factor.field-0 s.invariant.so_far c.in_default.is c.in_ok-factor.ensures.reads
