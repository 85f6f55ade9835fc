use Rattle.std.proofs.Common.{◌≡◌, ◌++◌, length, arith, ap, length-append}
use Rattle.pt_token.proofs.Loops.{run_on}
use Rattle.pt_token.proofs.splitter.Splitter.feed.Goals as goal

pub invariant_of-self-2 : goal.invariant_of-self-2
invariant_of-self-2 c =
    let front = c.before_cut-front.result.now in
    let items : c.extend_from_slice.new.self.items ≡ c.self.inside.piece.items ++ front = grind (arith) in
    (run_on c.self.inside.state _ c.self.inside.piece.items front _ c.self.invariant.0 (cc) items, omega (arith, simp length-append at (ap length items), c.self.invariant.1))
