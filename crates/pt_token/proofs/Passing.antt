-- The cuts pass over a whole text.
use Rattle.std.proofs.Common.{◌≡◌, inl, inr, ℕ, suc, ◌+◌, cond, true, false, List, [], ◌∷◌, drop, Option, Some, None, refl, ap, ◌∙◌, sym, subst, arith}
use Rattle.std.specs.Prelude.{◌==◌, ◌&&◌, not}
use Rattle.std.specs.Option.{option_map, option_and_then}
use Rattle.std.proofs.lemmas.Bool.{cases_Bool, eqb-true, false≢true}
use Rattle.pt_token.specs.declared.quoting.Quoting.{Quoting}
use Rattle.pt_token.specs.declared.quoting.Quoting.TheVariants.{Within, Escaped, Marked}
use Rattle.pt_token.specs.declared.state.State.{State}
use Rattle.pt_token.specs.declared.state.State.TheVariants as state
use Rattle.pt_token.specs.Bytes.{is_quote}
use Rattle.pt_token.specs.Machine.{step, is_cut, is_outside}
use Rattle.pt_token.specs.Pieces.{cut_in}
use Rattle.pt_token.specs.Quoting.{text_end, behind_byte}
use Rattle.pt_token.specs.Laws.{PassesTexts}
use Rattle.pt_token.proofs.Texts.{suc-plus}

-- the first cut behind a text that ends n bytes on
abbrev behind-text : List ℕ → Option ℕ → Option ℕ
behind-text bytes end = option_and_then (λ n. option_map (λ place. n + place) (cut_in state.Plain (drop n bytes))) end

suc-behind : (b : ℕ) (bytes : List ℕ) (end : Option ℕ) → option_map suc (behind-text bytes end) ≡ behind-text (b ∷ bytes) (option_map suc end)
suc-behind b bytes None = refl
suc-behind b bytes (Some n) = suc-plus n (cut_in state.Plain (drop n bytes))

plus-zero : (o : Option ℕ) → o ≡ option_map (λ place. 0 + place) o
plus-zero None = refl
plus-zero (Some place) = ap Some (omega arith)

-- the machine's state, by where a byte stands in a text
abbrev state_of : ℕ → Quoting → State
state_of mark Within = state.Quote mark
state_of mark Escaped = state.Escaped mark
state_of mark Marked = state.Plain

quote-step : (mark b : ℕ) → step (state.Quote mark) b ≡ state_of mark (behind_byte mark Within b)
quote-step mark b =
    elim (b == 92) as (λ v. cond v (state.Escaped mark) (cond (b == mark) state.Plain (state.Quote mark)) ≡ state_of mark (cond v Escaped (cond (b == mark) Marked Within))) [
      | true ↦ refl
      | false ↦ elim (b == mark) as (λ v. cond v state.Plain (state.Quote mark) ≡ state_of mark (cond v Marked Within)) [ true ↦ refl | false ↦ refl ]
    ]

-- in a quote no byte is a cut
inside-byte : (s : State) (b : ℕ) (bytes : List ℕ) → is_outside s ≡ false → cut_in s (b ∷ bytes) ≡ option_map suc (cut_in (step s b) bytes)
unfolding cut_in
inside-byte s b bytes inside =
    let no : is_cut s b ≡ false = elim (b == 59) as (λ v. (v && is_outside s) ≡ false) [ true ↦ inside | false ↦ refl ] in
    ap (λ v. cond v (Some 0) (option_map suc (cut_in (step s b) bytes))) no

-- a quote begins a text
quote-byte : (mark : ℕ) (bytes : List ℕ) → is_quote mark ≡ true → cut_in state.Plain (mark ∷ bytes) ≡ option_map suc (cut_in (state.Quote mark) bytes)
unfolding cut_in
quote-byte mark bytes quote =
    let no : (mark == 59) ≡ false = elim (cases_Bool (mark == 59)) [
      | inl cut ↦ absurd (false≢true (subst (λ n. is_quote n ≡ true) (eqb-true mark 59 cut) quote))
      | inr other ↦ other
    ] in
    ap (λ v. cond (v && is_outside state.Plain) (Some 0) (option_map suc (cut_in (step state.Plain mark) bytes))) no
    ∙ ap (λ v. option_map suc (cut_in (cond v (state.Quote mark) (cond (mark == 35) state.Line (cond (mark == 45) state.Dash (cond (mark == 47) state.Slash state.Plain)))) bytes)) quote

passed : (mark : ℕ) → is_quote mark ≡ true → (bytes : List ℕ) (at : Quoting) → cut_in (state_of mark at) bytes ≡ behind-text bytes (text_end mark at bytes)
unfolding cut_in text_end
passed mark quote [] Within = refl
passed mark quote [] Escaped = refl
passed mark quote [] Marked = refl
passed mark quote (b ∷ bytes) Within =
    inside-byte (state.Quote mark) b bytes refl
    ∙ ap (λ s. option_map suc (cut_in s bytes)) (quote-step mark b)
    ∙ ap (option_map suc) (passed mark quote bytes (behind_byte mark Within b))
    ∙ suc-behind b bytes (text_end mark (behind_byte mark Within b) bytes)
passed mark quote (b ∷ bytes) Escaped =
    inside-byte (state.Escaped mark) b bytes refl ∙ ap (option_map suc) (passed mark quote bytes Within) ∙ suc-behind b bytes (text_end mark Within bytes)
passed mark quote (b ∷ bytes) Marked = elim (cases_Bool (b == mark)) [
  | inl again ↦ ap (λ n. cut_in state.Plain (n ∷ bytes)) (eqb-true b mark again) ∙ quote-byte mark bytes quote
      ∙ ap (option_map suc) (passed mark quote bytes Within) ∙ suc-behind b bytes (text_end mark Within bytes)
      ∙ ap (λ v. behind-text (b ∷ bytes) (cond (not v) (Some 0) (option_map suc (text_end mark Within bytes)))) (sym again)
  | inr other ↦ plus-zero (cut_in state.Plain (b ∷ bytes))
      ∙ ap (λ v. behind-text (b ∷ bytes) (cond (not v) (Some 0) (option_map suc (text_end mark Within bytes)))) (sym other)
]

pub texts-passed : PassesTexts
texts-passed mark bytes quote = quote-byte mark bytes quote ∙ ap (option_map suc) (passed mark quote bytes Within)
