use Rattle.std.proofs.Common.{ℕ, ◌≤◌, List, length, refl, ap, ◌∙◌, sym, subst}
use Rattle.pt_token.specs.Pieces.{most_piece}
use Rattle.pt_reading.specs.Script.{with_piece}
use Rattle.pt_reading.proofs.TakingLemmas.{part_closed, part_long, part_open}
use Rattle.pt_reading.proofs.script.Script.take_part.Goals as goal

pub returns-then-fed : goal.returns-then-fed
returns-then-fed c =
    let closed = c.in_ok-close-in-Ok.ensures in
    let before = c.args.self.now.statements in
    part_closed c.args.self.now _ c.args.bytes.now c.in-Ok.fed.used (sym c.in-Ok.ensures.whole ∙ c.if-fed.true) c.in-Ok.ensures.used c.in-Ok.ensures.within
    (subst (λ (q : List ℕ). length q ≤ most_piece) c.in-Ok.ensures.piece c.in-Ok.ensures.fits)
    (closed.statements ∙ ap (λ q. with_piece q before) c.in-Ok.ensures.piece) closed.piece refl

pub returns-in-TooLong : goal.returns-in-TooLong
returns-in-TooLong c =
    let self = c.args.self.now in
    part_long self self c.args.bytes.now (c.in-Err.ensures.too_long.0 c.in-TooLong.is) c.requires.room refl

pub returns-else-fed : goal.returns-else-fed
returns-else-fed c =
    part_open c.args.self.now _ c.args.bytes.now c.in-Ok.fed.used (sym c.in-Ok.ensures.whole ∙ c.if-fed.false) c.in-Ok.ensures.used refl c.in-Ok.ensures.piece refl
