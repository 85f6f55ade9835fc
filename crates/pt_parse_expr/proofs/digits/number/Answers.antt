use Rattle.std.proofs.Common.{◌≡◌, ℕ, ◌+◌, ◌-◌, ◌*◌, ◌<◌, ◌^◌, min, pos, List, length, take, get_or, refl, ap, ◌∙◌, sym, arith}
use Rattle.std.proofs.lemmas.List.{take_all}
use Rattle.std.proofs.lemmas.List.Sums.{fold_more}
use Rattle.std.proofs.lemmas.Int.{to_z_pos}
use mir.Syntax.{w128}
use Rattle.pt_token.specs.Bytes.{digits_number}
use Rattle.pt_parse_expr.specs.Symbols.{number}
use Rattle.pt_parse_expr.proofs.digits.number.Goals as goal

-- one digit more, over a bound that stays
within : (most n d : ℕ) → min (10 * min n most + d) most ≡ min (10 * n + d) most
within most n d = omega arith

more : (digits : List ℕ) (i : ℕ) → i < length digits → digits_number (take (i + 1) digits) ≡ 10 * digits_number (take i digits) + (get_or digits i 0 - 48)
more digits i h = fold_more (λ n d. 10 * n + (d - 48)) 0 digits i 0 h

next : (most number at : ℕ) (digits : List ℕ) (i : ℕ) → i < length digits → number ≡ min (digits_number (take i digits)) most
    → at ≡ min (10 * number + (get_or digits i 0 - 48)) most → at ≡ min (digits_number (take (i + 1) digits)) most
next most number at digits i h so_far step =
    step ∙ ap (λ n. min (10 * n + (get_or digits i 0 - 48)) most) so_far ∙ within most (digits_number (take i digits)) (get_or digits i 0 - 48)
    ∙ ap (λ n. min n most) (sym (more digits i h))

pub loop-b-init : goal.loop-b-init
loop-b-init c = refl

pub loop-b-preserved : goal.loop-b-preserved
loop-b-preserved c = next _ c.loop-b.number c.with_digit-number.result c.args.digits.now c.loop-b.b-index (omega arith) c.loop-b.invariant c.with_digit-number.ensures

pub returns : goal.returns
unfolding number
returns c =
    let whole = take_all c.loop-b.b-index c.args.digits.now (omega arith) in
    let n = digits_number c.args.digits.now in
    let so_far : c.loop-b.number ≡ min n (2 ^ 128 - 1) = c.loop-b.invariant ∙ ap (λ ds. min (digits_number ds) (2 ^ 128 - 1)) whole in
    let least : c.min.result ≡ min n (2 ^ 127 - 1) = omega (arith, c.min.ensures, so_far) in
    to_z_pos w128 c.min.result (omega (arith, c.min.ensures)) ∙ ap pos least
