use Rattle.std.proofs.Common.{◌≡◌, true, false, sym, ◌∙◌}
use Rattle.pt_store.proofs.Parsed.{parse_rising, parse_falling}
use Rattle.pt_store.proofs.parse.parse.Goals as goal

pub returns-then-not-are_rising : goal.returns-then-not-are_rising
returns-then-not-are_rising c =
    let tests = rw c.items.ensures at c.are_rising.ensures in
    parse_falling c.args.bytes.now c.in-Some.entries (rw c.in-Some.is at c.in_ok-entries.ensures)
    (λ rising. let bad : false ≡ true = (sym c.if-not-are_rising.true ∙ tests.1 rising) in cc)

pub returns : goal.returns
returns c =
    let tests = rw c.items.ensures at c.are_rising.ensures in
    parse_rising c.args.bytes.now c.in-Some.entries (rw c.in-Some.is at c.in_ok-entries.ensures) (tests.0 c.if-not-are_rising.false)
