-- Steps over a piece, and the loop that takes them.
use Rattle.std.proofs.Common.{◌≡◌, ℕ, ◌+◌, ◌<◌, ◌≤◌, Bool, true, List, [], ◌∷◌, ◌++◌, length, drop, Some, None, sym, subst, append-nil, arith}
use Rattle.std.specs.Prelude.{◌==◌}
use Rattle.std.proofs.lemmas.Bool.Decides.{nat_tests}
use Rattle.pt_token.specs.declared.token.Token.{Token}
use Rattle.pt_token.specs.declared.token.Lexeme.{Lexeme}
use Rattle.pt_token.specs.declared.gap.Gap.{Gap}
use Rattle.pt_token.specs.declared.fault.LexFault.{LexFault}
use Rattle.pt_token.specs.declared.fault.LexFault.TheVariants.{BadByte, OpenQuote, OpenComment, NoMemory}
use Rattle.pt_token.specs.Gap.{next_gap}
use Rattle.pt_token.specs.Tokens.{next_token, fault_at, HasTokens, done, gap, token, HasFault, here, behind_gap, behind_token, IsFaultFrom, IsLexed}
use Rattle.pt_token.specs.Stepping.{IsStep, IsPart}

fault_behind_gap : (inside : Bool) (place : ℕ) (bytes : List ℕ) (g : Gap) → next_gap inside bytes ≡ Some g → (fault : LexFault)
    → IsFaultFrom g.inside (place + g.length) (drop g.length bytes) fault → IsFaultFrom inside place bytes fault
fault_behind_gap inside place bytes g is (BadByte p) h = behind_gap is h
fault_behind_gap inside place bytes g is (OpenQuote p) h = behind_gap is h
fault_behind_gap inside place bytes g is (OpenComment p) h = behind_gap is h
fault_behind_gap inside place bytes g is NoMemory h = tt

fault_behind_token : (inside : Bool) (place : ℕ) (bytes : List ℕ) (f : Lexeme) → next_gap inside bytes ≡ None → next_token bytes ≡ Some f → (fault : LexFault)
    → IsFaultFrom inside (place + f.length) (drop f.length bytes) fault → IsFaultFrom inside place bytes fault
fault_behind_token inside place bytes f none is (BadByte p) h = behind_token none is h
fault_behind_token inside place bytes f none is (OpenQuote p) h = behind_token none is h
fault_behind_token inside place bytes f none is (OpenComment p) h = behind_token none is h
fault_behind_token inside place bytes f none is NoMemory h = tt

pub gap_step : (inside : Bool) (place : ℕ) (bytes : List ℕ) (g : Gap) → Some g ≡ next_gap inside bytes → 0 < g.length → g.length ≤ length bytes
    → IsStep inside place bytes (record { token = None; length = g.length; inside = g.inside })
gap_step inside place bytes g is some within = record {
  tokens = λ tokens h. gap (sym is) h;
  fault = fault_behind_gap inside place bytes g (sym is);
  some = some;
  within = within;
}

pub token_step : (inside : Bool) (place : ℕ) (bytes : List ℕ) (f : Lexeme) → None ≡ next_gap inside bytes → Some f ≡ next_token bytes → IsPart f bytes
    → IsStep inside place bytes (record { token = Some (record { kind = f.kind; from = place; to = place + f.length }); length = f.length; inside = inside })
token_step inside place bytes f none is part = record {
  tokens = λ tokens h. token (sym none) (sym is) h;
  fault = fault_behind_token inside place bytes f (sym none) (sym is);
  some = part.0;
  within = part.1;
}

fault_of : (inside : Bool) (place : ℕ) (bytes : List ℕ) (fault : LexFault) → HasFault inside place bytes fault → IsFaultFrom inside place bytes fault
fault_of inside place bytes (BadByte p) h = h
fault_of inside place bytes (OpenQuote p) h = h
fault_of inside place bytes (OpenComment p) h = h
fault_of inside place bytes NoMemory h = tt

pub fault_here : (inside : Bool) (place : ℕ) (bytes : List ℕ) (fault : LexFault) → 0 < length bytes → None ≡ next_gap inside bytes → None ≡ next_token bytes
    → fault ≡ fault_at inside place bytes → IsFaultFrom inside place bytes fault
fault_here inside place bytes fault some none_gap none_token is =
    fault_of inside place bytes fault (subst (λ f. HasFault inside place bytes f) (sym is) (here some (sym none_gap) (sym none_token)))

-- the bytes are at their end
pub tokens_end : (piece : List ℕ) (inside : Bool) (place : ℕ) (rest : List ℕ) (tokens : List Token)
    → ((more : List Token) → HasTokens inside place rest more → IsLexed piece (tokens ++ more)) → (length rest == 0) ≡ true → IsLexed piece tokens
tokens_end piece inside place [] tokens so_far empty = subst (IsLexed piece) (append-nil tokens) (so_far [] done)
tokens_end piece inside place (b ∷ rest) tokens so_far empty = absurd (grind (arith, nat_tests))
