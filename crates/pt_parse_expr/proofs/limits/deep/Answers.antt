use Rattle.std.proofs.Common.{◌≡◌, ◌+◌, ◌<◌, length, get_or, refl, ap, ◌∙◌, sym, subst, arith}
use Rattle.pt_token.specs.Placed.{IsPlaced}
use Rattle.pt_token.proofs.Placed.{all_placed}
use Rattle.pt_parse_expr.specs.Symbols.{symbols}
use Rattle.pt_parse_expr.proofs.Heights.{all_low, height_more, length_symbols, low_more}
use Rattle.pt_parse_expr.proofs.limits.deep.Goals as goal

pub height_behind-height-requires-clause-placed : goal.height_behind-height-requires-clause-placed
height_behind-height-requires-clause-placed c =
    let each = all_placed _ _ c.requires.lexed in
    let same = c.deref-token-items.ensures.value in
    let there : c.loop-token.token-index < length c.args.tokens.now.items = omega (arith, ap length same) in
    subst (IsPlaced c.args.piece.now) (sym (c.token-item.is ∙ ap (λ ts. get_or ts c.loop-token.token-index c.token-item.result) same))
    (each c.loop-token.token-index c.token-item.result there)

pub loop-token-preserved : goal.loop-token-preserved
loop-token-preserved c =
    let s = c.loop-token in
    let height = height_more c.args.piece.now _ c.args.tokens.now.items s.token-index c.token-item.result s.height c.height_behind-height.result
    c.deref-token-items.ensures.value c.loop-token-test.true c.token-item.is s.invariant.height c.height_behind-height.ensures in
    record {
      height = height;
      low = low_more (symbols c.args.piece.now c.args.tokens.now.items) s.token-index c.height_behind-height.result s.invariant.low height c.if-height-gt-MOST_OPEN.false;
    }

pub returns-then-height-gt-MOST_OPEN : goal.returns-then-height-gt-MOST_OPEN
returns-then-height-gt-MOST_OPEN c =
    let s = c.loop-token in
    let height = height_more c.args.piece.now _ c.args.tokens.now.items s.token-index c.token-item.result s.height c.height_behind-height.result
    c.deref-token-items.ensures.value c.loop-token-test.true c.token-item.is s.invariant.height c.height_behind-height.ensures in
    (λ _. (s.token-index + 1, omega (arith, height, c.if-height-gt-MOST_OPEN.true)), λ _. refl)

pub returns : goal.returns
returns c =
    let ss = symbols c.args.piece.now c.args.tokens.now.items in
    let same : length c.deref-token-items.result.now ≡ length c.args.tokens.now.items = ap length c.deref-token-items.ensures.value in
    let low = all_low ss c.loop-token.token-index (omega (arith, length_symbols c.args.piece.now c.args.tokens.now.items)) c.loop-token.invariant.low in
    (λ e. absurd (cc), λ deep. absurd (low deep))
