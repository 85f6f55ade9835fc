-- A search in a table, entry by entry.
use Rattle.std.proofs.Common.{◌≡◌, ℕ, ◌+◌, ◌<◌, ◌≤◌, true, false, cond, List, map, length, drop, get_or, Option, Some, None, ap, ◌∙◌, sym}
use Rattle.std.specs.Str.{str_eq_ignore_ascii_case}
use Rattle.std.proofs.lemmas.List.{at_drop_more, at_drop_all}
use Rattle.pt_parse_expr.specs.Symbols.{lookup}

module _ {E A : Type 0} (view : E → List ℕ × A) (table : List E) (word : List ℕ) where
  abbrev behind : ℕ → Option A
  behind i = lookup (map view (drop i table)) word

  pub lookup-entry : (i : ℕ) (e : E) → i < length table → e ≡ get_or table i e
      → behind i ≡ cond (str_eq_ignore_ascii_case (view e).0 word) (Some (view e).1) (behind (i + 1))
  unfolding lookup
  lookup-entry i e h is =
      at_drop_more (λ t. lookup (map view t) word) table i e h
      ∙ ap (λ x. cond (str_eq_ignore_ascii_case (view x).0 word) (Some (view x).1) (behind (i + 1))) (sym is)

  pub lookup_found : (whole : Option A) (i : ℕ) (e : E) → i < length table → e ≡ get_or table i e → whole ≡ behind i
      → str_eq_ignore_ascii_case (view e).0 word ≡ true → Some (view e).1 ≡ whole
  lookup_found whole i e h is so_far found = sym (so_far ∙ lookup-entry i e h is ∙ ap (λ b. cond b (Some (view e).1) (behind (i + 1))) found)

  pub lookup_more : (whole : Option A) (i : ℕ) (e : E) → i < length table → e ≡ get_or table i e → whole ≡ behind i
      → str_eq_ignore_ascii_case (view e).0 word ≡ false → whole ≡ behind (i + 1)
  lookup_more whole i e h is so_far other = so_far ∙ lookup-entry i e h is ∙ ap (λ b. cond b (Some (view e).1) (behind (i + 1))) other

  pub lookup_end : (whole : Option A) (i : ℕ) → length table ≤ i → whole ≡ behind i → None ≡ whole
  unfolding lookup
  lookup_end whole i h so_far = sym (so_far ∙ at_drop_all (λ t. lookup (map view t) word) table i h)
