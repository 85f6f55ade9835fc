-- How many parentheses are open behind the first tokens.
use Rattle.std.proofs.Common.{◌≡◌, ℕ, ◌+◌, ◌<◌, ◌≤◌, Bool, true, false, List, length, take, get_or, refl, ap, ◌∙◌, sym, subst, arith}
use Rattle.std.specs.Prelude.{◌==◌, nat_le}
use Rattle.std.proofs.lemmas.Bool.Decides.{nat_tests}
use Rattle.std.proofs.lemmas.List.{get_or-map, length-map, take_all}
use Rattle.std.proofs.lemmas.List.Sums.{fold_more}
use Rattle.pt_token.specs.declared.token.Token.{Token}
use Rattle.pt_parse_expr.specs.Grammar.{Symbols}
use Rattle.pt_parse_expr.specs.Limits.{IsDeep, open_after, open_behind}
use Rattle.pt_parse_expr.specs.Symbols.{symbol, symbols}

pub length_symbols : (piece : List ℕ) (tokens : List Token) → length (symbols piece tokens) ≡ length tokens
unfolding symbols
length_symbols piece tokens = simp length-map

symbol_at : (piece : List ℕ) (tokens : List Token) (i : ℕ) (token : Token) → i < length tokens → token ≡ get_or tokens i token
    → get_or (symbols piece tokens) i (symbol piece token) ≡ symbol piece token
unfolding symbols
symbol_at piece tokens i token within is = get_or-map (symbol piece) tokens i token (symbol piece token) within ∙ ap (symbol piece) (sym is)

-- one token more, where the loop reads the same tokens
pub height_more : (piece : List ℕ) (items tokens : List Token) (i : ℕ) (token : Token) (height now : ℕ) → items ≡ tokens → i < length items → token ≡ get_or items i token
    → height ≡ open_behind (take i (symbols piece tokens)) → now ≡ open_after (symbol piece token) height → now ≡ open_behind (take (i + 1) (symbols piece tokens))
height_more piece items tokens i token height now same within is before step =
    let ss = symbols piece tokens in
    let s = symbol piece token in
    let there : i < length tokens = omega (arith, ap length same) in
    step ∙ ap (open_after s) before ∙ ap (λ t. open_after t (open_behind (take i ss))) (sym (symbol_at piece tokens i token there (is ∙ ap (λ ts. get_or ts i token) same)))
    ∙ sym (fold_more (λ height t. open_after t height) 0 ss i s (omega (arith, length_symbols piece tokens)))

pub low_more : (ss : Symbols) (i now : ℕ) → ((n : ℕ) → n ≤ i → open_behind (take n ss) ≤ 64) → now ≡ open_behind (take (i + 1) ss) → now ≤ 64
    → (n : ℕ) → n ≤ i + 1 → open_behind (take n ss) ≤ 64
low_more ss i now low is here n within = go (n == i + 1) refl
  where
    go : (t : Bool) → (n == i + 1) ≡ t → open_behind (take n ss) ≤ 64
    go true e = let same : n ≡ i + 1 = grind (arith, nat_tests) in subst (λ m. open_behind (take m ss) ≤ 64) (sym same) (omega arith)
    go false e = low n (grind (arith, nat_tests))

pub all_low : (ss : Symbols) (i : ℕ) → length ss ≤ i → ((n : ℕ) → n ≤ i → open_behind (take n ss) ≤ 64) → IsDeep ss → ⊥
all_low ss i whole low (n, deep) = go (nat_le n i) refl
  where
    go : (t : Bool) → nat_le n i ≡ t → ⊥
    go true e = omega (arith, low n (grind (arith, nat_tests)))
    go false e =
        let past : i ≤ n = grind (arith, nat_tests) in
        let same = take_all n ss (omega arith) ∙ sym (take_all i ss whole) in
        omega (arith, ap open_behind same, low i (omega arith))
