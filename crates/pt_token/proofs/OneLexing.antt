-- A piece has one list of tokens at most, or one first fault, and never both.
use Rattle.std.proofs.Common.{◌≡◌, ℕ, ◌+◌, Bool, true, false, List, [], ◌∷◌, length, drop, Some, None, refl, ap, ◌∙◌, sym, subst, arith}
use Rattle.pt_token.specs.declared.token.Token.{Token}
use Rattle.pt_token.specs.declared.token.Lexeme.{Lexeme}
use Rattle.pt_token.specs.declared.gap.Gap.{Gap}
use Rattle.pt_token.specs.declared.fault.LexFault.{LexFault}
use Rattle.pt_token.specs.Gap.{next_gap}
use Rattle.pt_token.specs.Laws.{OneLexing}
use Rattle.pt_token.specs.Tokens.{next_token, fault_at, HasTokens, done, gap, token, HasFault, here, behind_gap, behind_token}

-- ---- where no byte is left no gap and no token begins

no_gap : (inside : Bool) → next_gap inside [] ≡ None
unfolding next_gap
no_gap true = refl
no_gap false = refl

no_token : next_token [] ≡ None
unfolding next_token
no_token = refl

-- ---- what is left behind a gap and behind a token

tokens_behind_gap : (inside : Bool) (place : ℕ) (bytes : List ℕ) (tokens : List Token) (g : Gap) → next_gap inside bytes ≡ Some g → HasTokens inside place bytes tokens
    → HasTokens g.inside (place + g.length) (drop g.length bytes) tokens
tokens_behind_gap inside place _ _ g is done = let none = no_gap inside in absurd (cc)
tokens_behind_gap inside place bytes tokens g is (gap {g = h} e rest) =
    let same : h ≡ g = cc in subst (λ k. HasTokens k.inside (place + k.length) (drop k.length bytes) tokens) same rest
tokens_behind_gap inside place bytes _ g is (token none e rest) = absurd (cc)

abbrev token_of : ℕ → Lexeme → Token
token_of place f = record { kind = f.kind; from = place; to = place + f.length }

-- the tokens are that one, and those behind it
record BeginsWith (inside : Bool) (place : ℕ) (bytes : List ℕ) (f : Lexeme) (tokens : List Token) : Type 0 where
  more : List Token
  is : tokens ≡ token_of place f ∷ more
  rest : HasTokens inside (place + f.length) (drop f.length bytes) more

tokens_behind_token : (inside : Bool) (place : ℕ) (bytes : List ℕ) (tokens : List Token) (f : Lexeme) → next_gap inside bytes ≡ None → next_token bytes ≡ Some f
    → HasTokens inside place bytes tokens → BeginsWith inside place bytes f tokens
tokens_behind_token inside place _ _ f none is done = let nothing = no_token in absurd (cc)
tokens_behind_token inside place bytes tokens f none is (gap e rest) = absurd (cc)
tokens_behind_token inside place bytes _ f none is (token {tokens = more} {f = h} nothing e rest) =
    let same : h ≡ f = cc in
    subst (λ k. BeginsWith inside place bytes k (token_of place h ∷ more)) same (record { more = more; is = refl; rest = rest })

no_tokens : (inside : Bool) (place : ℕ) (bytes : List ℕ) (tokens : List Token) → bytes ≡ [] → HasTokens inside place bytes tokens → tokens ≡ []
no_tokens inside place _ _ empty done = refl
no_tokens inside place bytes tokens empty (gap {g = g} is rest) = let none = no_gap inside in let now : next_gap inside [] ≡ Some g = subst (λ bs. next_gap inside bs ≡ Some g) empty is in absurd (cc)
no_tokens inside place bytes _ empty (token {f = f} none is rest) = let nothing = no_token in let now : next_token [] ≡ Some f = subst (λ bs. next_token bs ≡ Some f) empty is in absurd (cc)

fault_behind_gap : (inside : Bool) (place : ℕ) (bytes : List ℕ) (fault : LexFault) (g : Gap) → next_gap inside bytes ≡ Some g → HasFault inside place bytes fault
    → HasFault g.inside (place + g.length) (drop g.length bytes) fault
fault_behind_gap inside place bytes _ g is (here some none nothing) = absurd (cc)
fault_behind_gap inside place bytes fault g is (behind_gap {g = h} e rest) =
    let same : h ≡ g = cc in subst (λ k. HasFault k.inside (place + k.length) (drop k.length bytes) fault) same rest
fault_behind_gap inside place bytes fault g is (behind_token none e rest) = absurd (cc)

fault_behind_token : (inside : Bool) (place : ℕ) (bytes : List ℕ) (fault : LexFault) (f : Lexeme) → next_gap inside bytes ≡ None → next_token bytes ≡ Some f
    → HasFault inside place bytes fault → HasFault inside (place + f.length) (drop f.length bytes) fault
fault_behind_token inside place bytes _ f none is (here some nothing e) = absurd (cc)
fault_behind_token inside place bytes fault f none is (behind_gap e rest) = absurd (cc)
fault_behind_token inside place bytes fault f none is (behind_token {f = h} nothing e rest) =
    let same : h ≡ f = cc in subst (λ k. HasFault inside (place + k.length) (drop k.length bytes) fault) same rest

fault_of_none : (inside : Bool) (place : ℕ) (bytes : List ℕ) (fault : LexFault) → next_gap inside bytes ≡ None → next_token bytes ≡ None
    → HasFault inside place bytes fault → fault_at inside place bytes ≡ fault
fault_of_none inside place bytes _ none nothing (here some e f) = refl
fault_of_none inside place bytes fault none nothing (behind_gap e rest) = absurd (cc)
fault_of_none inside place bytes fault none nothing (behind_token e f rest) = absurd (cc)

-- ---- from any place on

same_tokens : (inside : Bool) (place : ℕ) (bytes : List ℕ) (all others : List Token) → HasTokens inside place bytes all → HasTokens inside place bytes others → all ≡ others
same_tokens inside place _ _ others done h = sym (no_tokens inside place [] others refl h)
same_tokens inside place bytes all others (gap {g = g} is rest) h =
    same_tokens g.inside (place + g.length) (drop g.length bytes) all others rest (tokens_behind_gap inside place bytes others g is h)
same_tokens inside place bytes _ others (token {tokens = more} {f = f} none is rest) h =
    let b = tokens_behind_token inside place bytes others f none is h in
    ap (λ ts. token_of place f ∷ ts) (same_tokens inside (place + f.length) (drop f.length bytes) more b.more rest b.rest) ∙ sym b.is

same_fault : (inside : Bool) (place : ℕ) (bytes : List ℕ) (first other : LexFault) → HasFault inside place bytes first → HasFault inside place bytes other → first ≡ other
same_fault inside place bytes _ other (here some none nothing) h = fault_of_none inside place bytes other none nothing h
same_fault inside place bytes first other (behind_gap {g = g} is rest) h =
    same_fault g.inside (place + g.length) (drop g.length bytes) first other rest (fault_behind_gap inside place bytes other g is h)
same_fault inside place bytes first other (behind_token {f = f} none is rest) h =
    same_fault inside (place + f.length) (drop f.length bytes) first other rest (fault_behind_token inside place bytes other f none is h)

no_fault : (inside : Bool) (place : ℕ) (bytes : List ℕ) (fault : LexFault) → bytes ≡ [] → HasFault inside place bytes fault → ⊥
no_fault inside place bytes _ empty (here some none nothing) = let e = ap length empty in omega (arith, some, e)
no_fault inside place bytes fault empty (behind_gap {g = g} is rest) = let none = no_gap inside in let now : next_gap inside [] ≡ Some g = subst (λ bs. next_gap inside bs ≡ Some g) empty is in cc
no_fault inside place bytes fault empty (behind_token {f = f} none is rest) = let nothing = no_token in let now : next_token [] ≡ Some f = subst (λ bs. next_token bs ≡ Some f) empty is in cc

never_both : (inside : Bool) (place : ℕ) (bytes : List ℕ) (all : List Token) (first : LexFault) → HasTokens inside place bytes all → HasFault inside place bytes first → ⊥
never_both inside place _ _ first done h = no_fault inside place [] first refl h
never_both inside place bytes all first (gap {g = g} is rest) h =
    never_both g.inside (place + g.length) (drop g.length bytes) all first rest (fault_behind_gap inside place bytes first g is h)
never_both inside place bytes _ first (token {tokens = more} {f = f} none is rest) h =
    never_both inside (place + f.length) (drop f.length bytes) more first rest (fault_behind_token inside place bytes first f none is h)

pub one_lexing : OneLexing
one_lexing = record {
  tokens = λ piece all others. same_tokens false 0 piece all others;
  fault = λ piece first other. same_fault false 0 piece first other;
  apart = λ piece all first. never_both false 0 piece all first;
}
