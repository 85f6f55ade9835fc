-- The machine leaves lines, quotes and comments at their ends.
use Rattle.std.proofs.Common.{◌≡◌, inl, inr, ℕ, zero, suc, cond, Bool, true, false, List, [], ◌∷◌, drop, Option, Some, None, refl, ap, ◌∙◌, sym, subst}
use Rattle.std.specs.Prelude.{◌==◌, ◌&&◌, slice_index}
use Rattle.std.specs.Option.{option_map, option_and_then}
use Rattle.std.proofs.lemmas.Bool.{cases_Bool, eqb-true, false≢true}
use Rattle.pt_token.specs.declared.state.State.{State}
use Rattle.pt_token.specs.declared.state.State.TheVariants.{Plain, Quote, Escaped, Line, Block, Star, Read, ReadStar, ReadQuote, ReadEscaped}
use Rattle.pt_token.specs.Bytes.{is_quote}
use Rattle.pt_token.specs.Machine.{is_plain, closing, from_read}
use Rattle.pt_token.specs.Ends.{line_end, quote_end, comment_end, read_end, closes_comment}
use Rattle.pt_token.proofs.Loops.{moved, moved-one, moved-zero, suc-moved}

pub line-ends : (bytes : List ℕ) → closing Line bytes ≡ line_end bytes
unfolding closing
line-ends [] = refl
line-ends (b ∷ bytes) = elim (b == 10) as (λ v. cond (is_plain (cond v Plain Line)) (Some 1) (option_map suc (closing (cond v Plain Line) bytes)) ≡ cond v (Some 1) (option_map suc (line_end bytes))) [
  | true ↦ refl
  | false ↦ ap (option_map suc) (line-ends bytes)
]

abbrev quoting : ℕ → Bool → State
quoting mark true = Escaped mark
quoting mark false = Quote mark

pub quote-ends : (mark : ℕ) (escaped : Bool) (bytes : List ℕ) → closing (quoting mark escaped) bytes ≡ quote_end mark escaped bytes
unfolding closing
quote-ends mark true [] = refl
quote-ends mark false [] = refl
quote-ends mark true (b ∷ bytes) = ap (option_map suc) (quote-ends mark false bytes)
quote-ends mark false (b ∷ bytes) =
    elim (b == 92) as (λ v. cond (is_plain (cond v (Escaped mark) (cond (b == mark) Plain (Quote mark)))) (Some 1) (option_map suc (closing (cond v (Escaped mark) (cond (b == mark) Plain (Quote mark))) bytes))
    ≡ cond v (option_map suc (quote_end mark true bytes)) (cond (b == mark) (Some 1) (option_map suc (quote_end mark false bytes)))) [
      | true ↦ ap (option_map suc) (quote-ends mark true bytes)
      | false ↦ elim (b == mark) as (λ v. cond (is_plain (cond v Plain (Quote mark))) (Some 1) (option_map suc (closing (cond v Plain (Quote mark)) bytes)) ≡ cond v (Some 1) (option_map suc (quote_end mark false bytes))) [
        | true ↦ refl
        | false ↦ ap (option_map suc) (quote-ends mark false bytes)
      ]
    ]

-- behind a star: the end, or as if no star stood there
closing-star : (bytes : List ℕ) → closing Star bytes ≡ cond (slice_index bytes 0 == 47) (Some 1) (closing Block bytes)
unfolding closing
closing-star [] = refl
closing-star (b ∷ bytes) = elim (b == 47) as (λ v. cond (is_plain (cond v Plain (cond (b == 42) Star Block))) (Some 1) (option_map suc (closing (cond v Plain (cond (b == 42) Star Block)) bytes))
    ≡ cond v (Some 1) (cond (is_plain (cond (b == 42) Star Block)) (Some 1) (option_map suc (closing (cond (b == 42) Star Block) bytes)))) [ true ↦ refl | false ↦ refl ]

suc-cond : (v : Bool) (end : Option ℕ) → option_map suc (cond v (Some 1) end) ≡ cond v (Some 2) (option_map suc end)
suc-cond true end = refl
suc-cond false end = refl

pub comment-ends : (bytes : List ℕ) → closing Block bytes ≡ comment_end bytes
unfolding closing
comment-ends [] = refl
comment-ends (b ∷ bytes) = elim (b == 42) as (λ v. cond (is_plain (cond v Star Block)) (Some 1) (option_map suc (closing (cond v Star Block) bytes)) ≡ cond (v && slice_index bytes 0 == 47) (Some 2) (option_map suc (comment_end bytes))) [
  | true ↦ ap (option_map suc) (closing-star bytes ∙ ap (λ end. cond (slice_index bytes 0 == 47) (Some 1) end) (comment-ends bytes)) ∙ suc-cond (slice_index bytes 0 == 47) (comment_end bytes)
  | false ↦ ap (option_map suc) (comment-ends bytes)
]

-- the end of a comment that is read, behind n bytes
abbrev pub read-behind : List ℕ → ℕ → Option ℕ
read-behind bytes n = moved n (closing Read (drop n bytes))

abbrev behind-quote : List ℕ → Option ℕ → Option ℕ
behind-quote bytes end = option_and_then (read-behind bytes) end

suc-behind : (b : ℕ) (bytes : List ℕ) (end : Option ℕ) → option_map suc (behind-quote bytes end) ≡ behind-quote (b ∷ bytes) (option_map suc end)
suc-behind b bytes None = refl
suc-behind b bytes (Some n) = suc-moved n (closing Read (drop n bytes))

abbrev read-quoting : ℕ → Bool → State
read-quoting mark true = ReadEscaped mark
read-quoting mark false = ReadQuote mark

-- a quote in a comment that is read, and what stands behind it
read-quote : (mark : ℕ) (escaped : Bool) (bytes : List ℕ) → closing (read-quoting mark escaped) bytes ≡ behind-quote bytes (quote_end mark escaped bytes)
unfolding closing
read-quote mark true [] = refl
read-quote mark false [] = refl
read-quote mark true (b ∷ bytes) = ap (option_map suc) (read-quote mark false bytes) ∙ suc-behind b bytes (quote_end mark false bytes)
read-quote mark false (b ∷ bytes) =
    elim (b == 92) as (λ v. cond (is_plain (cond v (ReadEscaped mark) (cond (b == mark) Read (ReadQuote mark)))) (Some 1) (option_map suc (closing (cond v (ReadEscaped mark) (cond (b == mark) Read (ReadQuote mark))) bytes))
    ≡ behind-quote (b ∷ bytes) (cond v (option_map suc (quote_end mark true bytes)) (cond (b == mark) (Some 1) (option_map suc (quote_end mark false bytes))))) [
      | true ↦ ap (option_map suc) (read-quote mark true bytes) ∙ suc-behind b bytes (quote_end mark true bytes)
      | false ↦ elim (b == mark) as (λ v. cond (is_plain (cond v Read (ReadQuote mark))) (Some 1) (option_map suc (closing (cond v Read (ReadQuote mark)) bytes))
          ≡ behind-quote (b ∷ bytes) (cond v (Some 1) (option_map suc (quote_end mark false bytes)))) [
            | true ↦ moved-one (closing Read bytes)
            | false ↦ ap (option_map suc) (read-quote mark false bytes) ∙ suc-behind b bytes (quote_end mark false bytes)
          ]
    ]

-- behind a star: the end, or as if no star stood there
read-star : (bytes : List ℕ) → closing ReadStar bytes ≡ cond (slice_index bytes 0 == 47) (Some 1) (closing Read bytes)
unfolding closing
read-star [] = refl
read-star (b ∷ bytes) = elim (b == 47) as (λ v. cond (is_plain (cond v Plain (from_read b))) (Some 1) (option_map suc (closing (cond v Plain (from_read b)) bytes))
    ≡ cond v (Some 1) (cond (is_plain (from_read b)) (Some 1) (option_map suc (closing (from_read b) bytes)))) [ true ↦ refl | false ↦ refl ]

-- the first byte of a comment that is read: a quote, the end, or another
by_quote : (quote star slash : Bool) (b : ℕ) (bytes : List ℕ) → (quote ≡ true → star ≡ false) → closing ReadStar bytes ≡ cond slash (Some 1) (closing Read bytes)
    → cond (is_plain (cond quote (ReadQuote b) (cond star ReadStar Read))) (Some 1) (option_map suc (closing (cond quote (ReadQuote b) (cond star ReadStar Read)) bytes))
    ≡ cond (star && slash) (Some 2) (cond quote (option_map suc (closing (ReadQuote b) bytes)) (option_map suc (closing Read bytes)))
by_quote true star slash b bytes apart e = ap (λ v. cond (v && slash) (Some 2) (option_map suc (closing (ReadQuote b) bytes))) (sym (apart refl))
by_quote false true slash b bytes apart e = ap (option_map suc) e ∙ suc-cond slash (closing Read bytes)
by_quote false false slash b bytes apart e = refl

no_star : (b : ℕ) → is_quote b ≡ true → (b == 42) ≡ false
no_star b quote = elim (cases_Bool (b == 42)) [
  | inl star ↦ absurd (false≢true (subst (λ n. is_quote n ≡ true) (eqb-true b 42 star) quote))
  | inr other ↦ other
]

read-byte : (b : ℕ) (bytes : List ℕ) → closing Read (b ∷ bytes)
    ≡ cond (closes_comment b bytes) (Some 2) (cond (is_quote b) (option_map suc (closing (ReadQuote b) bytes)) (option_map suc (closing Read bytes)))
unfolding closing
read-byte b bytes = by_quote (is_quote b) (b == 42) (slice_index bytes 0 == 47) b bytes (no_star b) (read-star bytes)

same-then : (f g : ℕ → Option ℕ) → ((n : ℕ) → f n ≡ g n) → (o : Option ℕ) → option_and_then f o ≡ option_and_then g o
same-then f g same None = refl
same-then f g same (Some n) = same n

pub read-ends : (bytes : List ℕ) (passed : ℕ) → read_end passed bytes ≡ read-behind bytes passed
unfolding closing
read-ends [] zero = refl
read-ends [] (suc passed) = refl
read-ends (b ∷ bytes) (suc passed) = ap (option_map suc) (read-ends bytes passed) ∙ suc-moved passed (closing Read (drop passed bytes))
read-ends (b ∷ bytes) zero =
    ap (λ end. cond (closes_comment b bytes) (Some 2) (cond (is_quote b) (option_map suc end) (option_map suc (read_end zero bytes))))
    (same-then (λ n. read_end n bytes) (read-behind bytes) (read-ends bytes) (quote_end b false bytes) ∙ sym (read-quote b false bytes))
    ∙ ap (λ end. cond (closes_comment b bytes) (Some 2) (cond (is_quote b) (option_map suc (closing (ReadQuote b) bytes)) (option_map suc end))) (read-ends bytes zero ∙ sym (moved-zero (closing Read bytes)))
    ∙ sym (read-byte b bytes)
    ∙ moved-zero (closing Read (b ∷ bytes))
