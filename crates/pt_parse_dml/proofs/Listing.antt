-- Steps of reading that these statements share: a part behind a word, and lists that end anywhere.
use Rattle.std.proofs.Common.{◌≡◌, List, ◌∷◌, Some, None, refl, ap, ◌∙◌, arith}
use Rattle.pt_parse_expr.specs.declared.alphabet.Mark.TheVariants.{Comma}
use Rattle.pt_parse_expr.specs.declared.alphabet.Symbol.{Symbol}
use Rattle.pt_parse_expr.specs.declared.alphabet.Symbol.TheVariants.{Fixed}
use Rattle.pt_parse_expr.specs.Grammar.{Symbols}
use Rattle.pt_parse_expr.specs.Reader.{Reading, Reader, many, before}
use Rattle.pt_parse_expr.proofs.Sound.{Sound}
use Rattle.pt_parse_expr.proofs.Many.{many-none, many-more}
use Rattle.pt_parse_ddl.specs.Lists.{AreFurther, no_further, further, AreListed, listed}
use Rattle.pt_parse_ddl.specs.Steps.{next_item, more_items, several}
use Rattle.pt_parse_ddl.proofs.After.{After, after-keeps, shorter}
use Rattle.pt_parse_ddl.proofs.Exact.{and_then-is}
use Rattle.pt_parse_dml.proofs.Stops.{Finishes, at_end, at_close, at_from, at_where, at_order, at_limit, Stops, at_comma, finished}

-- what is read behind other symbols is spelled with them
pub carried : {A : Type 0} (R S : Symbols → A → Symbols → Type 0) (ts us : Symbols) (r : Reading A) → Sound R ts r
    → ((x : A) (rest : Symbols) → R ts x rest → S us x rest) → Sound S us r
carried R S ts us (Some p) d step = step p.0 p.1 d
carried R S ts us None d step = tt

no_next : {A : Type 0} (item : Reader A) {ts : Symbols} → Finishes ts → next_item item ts ≡ None
unfolding next_item
no_next item at_end = refl
no_next item at_close = refl
no_next item at_from = refl
no_next item at_where = refl
no_next item at_order = refl
no_next item at_limit = refl

-- P is kept by what is left of the symbols
module _ (P : Symbols → Type 0) (less : (s : Symbol) (ts : Symbols) → P (s ∷ ts) → P ts) {A : Type 0} (R : Symbols → A → Symbols → Type 0) (item : Reader A)
    (after : (ts rest : Symbols) (x : A) → R ts x rest → After ts rest)
    (exact : (ts rest : Symbols) (x : A) → R ts x rest → Stops rest → P ts → item ts ≡ Some (x, rest)) where
  further-stops : {ts rest : Symbols} {xs : List A} → AreFurther R ts xs rest → Finishes rest → Stops ts
  further-stops no_further f = finished f
  further-stops (further d more) f = at_comma

  further-read : {ts rest : Symbols} {xs : List A} → AreFurther R ts xs rest → Finishes rest → P ts → many (next_item item) ts ≡ (xs, rest)
  unfolding next_item
  further-read {rest} no_further f p = many-none (next_item item) rest (no_next item f)
  further-read (further {ts} {us} {x = x} d more) f p =
      let a = after ts us x d in
      let q = less (Fixed Comma) ts p in
      many-more (next_item item) (Fixed Comma ∷ ts) us x (exact ts us x d (further-stops more f) q) (omega (arith, shorter a))
      ∙ ap (before x) (further-read more f (after-keeps P less a q))

  pub listed-read : {ts rest : Symbols} {xs : List A} → AreListed R ts xs rest → Finishes rest → P ts → several item ts ≡ Some (xs, rest)
  unfolding several
  listed-read (listed {ts} {us} {x = x} d more) f p =
      and_then-is (more_items item) (exact ts us x d (further-stops more f) p)
      (ap (λ m. Some (x ∷ m.0, m.1)) (further-read more f (after-keeps P less (after ts us x d) p)))
