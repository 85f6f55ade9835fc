use Rattle.std.proofs.Common.{ℕ, ◌-◌, ◌<◌, ◌≤◌, List, length, get_or, All, ap, ◌∙◌, sym, subst, arith, ◌≡◌}
use Rattle.std.proofs.lemmas.List.{take_all}
use Rattle.pt_token.specs.declared.token.Token.{Token}
use Rattle.pt_token.specs.Placed.{IsPlaced}
use Rattle.pt_token.proofs.Placed.{all_placed}
use Rattle.pt_parse_expr.specs.Limits.{AreStorable, IsLong, name_length}
use Rattle.pt_parse_expr.specs.Symbols.{symbols}
use Rattle.pt_parse_expr.proofs.StorableSymbols.{storable}
use Rattle.pt_parse_expr.proofs.classes.symbols.Goals as goal

at : (P : Token → Type 0) (tokens : List Token) (i : ℕ) (token : Token) → i < length tokens → token ≡ get_or tokens i token → All P tokens → P token
at P tokens i token within is each = subst P (sym is) (each i token within)

short_at : (tokens : List Token) (i : ℕ) (token : Token) → i < length tokens → token ≡ get_or tokens i token → (IsLong tokens → ⊥) → name_length token.kind (token.to - token.from) ≤ 64
short_at tokens i token within is short =
    let other : 64 < name_length token.kind (token.to - token.from) → ⊥ = λ long. short (i, token, within, sym is, long) in omega arith

pub symbol-requires-clause-placed : goal.symbol-requires-clause-placed
symbol-requires-clause-placed c =
    at (IsPlaced c.args.piece.now) c.args.tokens.now c.loop-token.token-index c.token-item.result (omega arith) c.token-item.is (all_placed _ _ c.requires.lexed)

pub symbol-requires-clause-short : goal.symbol-requires-clause-short
symbol-requires-clause-short c = short_at c.args.tokens.now c.loop-token.token-index c.token-item.result (omega arith) c.token-item.is c.requires.short

pub returns-clause-storable : goal.returns-clause-storable
returns-clause-storable c few =
    let whole = take_all c.loop-token.token-index c.args.tokens.now (omega arith) in
    subst AreStorable (sym (c.loop-token.invariant ∙ ap (symbols c.args.piece.now) whole)) (storable c.requires.lexed few)
