use Rattle.pt_parse_expr.specs.Reader.{found, next_more}
use Rattle.pt_parse_expr.proofs.Turns.{turn, turn_end}
use Rattle.pt_parse_expr.proofs.grammar.Grammar.mores.Goals as goal

pub loop-mores-preserved : goal.loop-mores-preserved
loop-mores-preserved g c =
    let s = c.loop-mores in
    let t = turn (next_more (found c.args.self.now.depth)) c.args.symbols.now c.args.at s.mores s.next c.in_ok-more.field-0 c.in-Some.more c.in-Some.behind c.push.new.self
    s.invariant.so_far s.invariant.low c.in-Some.is c.in_ok-more.ensures.reads c.in_ok-more.ensures.place c.in_ok-push.ensures.ok in
    record { so_far = t.so_far; low = t.low; high = t.high }

pub returns-clause-many : goal.returns-clause-many
returns-clause-many g c =
    let s = c.loop-mores in
    turn_end (next_more (found c.args.self.now.depth)) c.args.symbols.now c.args.at s.mores s.next c.in_ok-more.field-0 s.invariant.so_far c.in_default.is c.in_ok-more.ensures.reads
