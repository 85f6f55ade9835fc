-- Which marks words and signs have: no reserved word is a parenthesis, and each sign has one.
use Rattle.std.proofs.Common.{◌≡◌, ℕ, Bool, true, false, cond, List, [], ◌∷◌, Option, Some, None, All, refl, ap, ◌∙◌, sym}
use Rattle.std.specs.List.{list_all}
use Rattle.std.specs.Str.{str_eq_ignore_ascii_case}
use Rattle.std.specs.Prelude.{is_some, Contains}
use Rattle.std.proofs.lemmas.Bool.{and_parts}
use Rattle.std.proofs.lemmas.List.Elements.{All-contains}
use Rattle.std.proofs.lemmas.List.Sums.{AllPass-from_list_all}
use Rattle.pt_token.specs.Placed.{signs}
use Rattle.pt_token.specs.declared.token.TokenKind.{TokenKind}
use Rattle.pt_token.specs.declared.token.TokenKind.TheVariants as kind
use Rattle.pt_parse_expr.specs.declared.alphabet.Mark.{Mark}
use Rattle.pt_parse_expr.specs.declared.alphabet.Mark.TheVariants.{Open, Close}
use Rattle.pt_parse_expr.specs.declared.alphabet.Symbol.TheVariants.{Fixed}
use Rattle.pt_parse_expr.specs.Words.{reserved_words}
use Rattle.pt_parse_expr.specs.Limits.{open_after}
use Rattle.pt_parse_expr.specs.Symbols.{lookup, marked, mark_of_sign, reserved, symbol_of}

abbrev is_no_paren : Mark → Bool
is_no_paren Open = false
is_no_paren Close = false
is_no_paren _ = true

stays_open : (mark : Mark) (height : ℕ) → is_no_paren mark ≡ true → open_after (Fixed mark) height ≡ height
stays_open Open height e = absurd (cc)
stays_open Close height e = absurd (cc)
stays_open _ height e = refl

looked_up : {A : Type 0} (p : A → Bool) (table : List (List ℕ × A)) (word : List ℕ) (a : A) → list_all (λ entry. p entry.1) table ≡ true → lookup table word ≡ Some a → p a ≡ true
unfolding lookup
looked_up p [] word a each e = absurd (cc)
looked_up p (entry ∷ table) word a each e = go (str_eq_ignore_ascii_case entry.0 word) (looked_up p table word a (and_parts (p entry.1) (list_all (λ entry. p entry.1) table) each).1) e
  where
    go : (t : Bool) → (lookup table word ≡ Some a → p a ≡ true) → cond t (Some entry.1) (lookup table word) ≡ Some a → p a ≡ true
    go true more found = let same : entry.1 ≡ a = cc in ap p (sym same) ∙ (and_parts (p entry.1) (list_all (λ entry. p entry.1) table) each).0
    go false more found = more found

word_stays_open : (bytes : List ℕ) (height : ℕ) → open_after (marked (reserved bytes) bytes) height ≡ height
unfolding reserved
word_stays_open bytes height = go (reserved bytes) (λ mark found. looked_up is_no_paren reserved_words bytes mark refl found)
  where
    go : (o : Option Mark) → ((mark : Mark) → o ≡ Some mark → is_no_paren mark ≡ true) → open_after (marked o bytes) height ≡ height
    go None h = refl
    go (Some mark) h = stays_open mark height (h mark refl)

-- no other token opens or closes a parenthesis
pub not_a_sign : (k : TokenKind) (bytes : List ℕ) (height : ℕ) → (k ≡ kind.Sign → ⊥) → height ≡ open_after (symbol_of k bytes) height
not_a_sign kind.Word bytes height other = sym (word_stays_open bytes height)
not_a_sign kind.Quoted bytes height other = refl
not_a_sign kind.Number bytes height other = refl
not_a_sign (kind.Text text) bytes height other = refl
not_a_sign (kind.Hex text) bytes height other = refl
not_a_sign kind.Sign bytes height other = absurd (other refl)

are_signs : All (λ s. is_some (mark_of_sign s) ≡ true) signs
unfolding mark_of_sign lookup
are_signs = AllPass-from_list_all (λ s. is_some (mark_of_sign s)) signs refl

-- a sign has a mark
pub has_mark : (bytes : List ℕ) → Contains signs bytes → mark_of_sign bytes ≡ None → ⊥
has_mark bytes h none =
    let bad : false ≡ true = ap is_some (sym none) ∙ All-contains (λ s. is_some (mark_of_sign s) ≡ true) signs bytes are_signs h in cc
