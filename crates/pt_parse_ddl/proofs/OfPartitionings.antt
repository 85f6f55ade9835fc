-- What tables are partitioned by: what is read is spelled, and what is spelled is read.
use Rattle.std.proofs.Common.{◌≡◌, ℕ, ℤ, Bool, true, false, List, [], ◌∷◌, Option, Some, None, refl, ap, ◌∙◌}
use Rattle.pt_ast.specs.declared.tree.Expr.{Expr}
use Rattle.pt_ast.specs.declared.written.HashSpec.{HashSpec}
use Rattle.pt_ast.specs.declared.written.HashSpec.TheVariants as hash
use Rattle.pt_ast.specs.declared.written.MainSpec.{MainSpec}
use Rattle.pt_ast.specs.declared.written.MainSpec.TheVariants as main
use Rattle.pt_ast.specs.declared.written.SubSpec.{SubSpec}
use Rattle.pt_parse_expr.specs.declared.alphabet.Mark.TheVariants.{Open, Close, Other}
use Rattle.pt_parse_expr.specs.declared.alphabet.Reserved.TheVariants as word
use Rattle.pt_parse_expr.specs.declared.alphabet.Symbol.{Symbol}
use Rattle.pt_parse_expr.specs.declared.alphabet.Symbol.TheVariants.{Fixed, Number}
use Rattle.pt_parse_expr.specs.Grammar.{Symbols, IsExpr}
use Rattle.pt_parse_expr.specs.Reader.{Reading, Reader, mapped, close, closed}
use Rattle.pt_parse_expr.proofs.Sound.{Sound}
use Rattle.pt_parse_ddl.specs.declared.words.Keyword.{Keyword}
use Rattle.pt_parse_ddl.specs.declared.words.Keyword.TheVariants as keyword
use Rattle.pt_parse_ddl.specs.Words.{the, plain_name, quoted_name, IsWord, word as is_word}
use Rattle.pt_parse_ddl.specs.Lists.{IsOptional, listed, InParens, in_parens}
use Rattle.pt_parse_ddl.specs.Keys.{AreColumns}
use Rattle.pt_parse_ddl.specs.Partitioning.{IsLinear, AreKeyColumns, IsHash, IsMain, IsCount, IsSub}
use Rattle.pt_parse_ddl.specs.Partitioning as rule
use Rattle.pt_parse_ddl.specs.Steps.{and_then, if_read, optional, tuple, named, numbered, worded}
use Rattle.pt_parse_ddl.specs.Steps as steps
use Rattle.pt_parse_ddl.specs.PartReader.{past_linear, no_columns, key_columns, counted, sub_count, by_hash, hash_of, hashed, ranged, among, among_or_hashed, main_of, sub_counted, sub_behind, sub_by}
use Rattle.pt_parse_ddl.proofs.After.{After, first, later, ◌▸◌, UpTo, nothing, something, ◌▸*◌, ◌*▸◌, after-keeps, word-after, optional-up_to, parens-after, expr-after}
use Rattle.pt_parse_ddl.proofs.Sounding.{and_then-sound, if_read-sound, mapped-sound, or_else-sound, word-sound, parens-sound, optional-sound}
use Rattle.pt_parse_ddl.proofs.Exact.{and_then-is, if_read-is, mapped-is, word-read, word-other, optional-read, Ends, at_close}
use Rattle.pt_parse_ddl.proofs.OfKeys.{columns-after, columns-sound, columns-read}

-- ---- what each rule takes

pub linear-up_to : {ts rest : Symbols} {is_linear : Bool} → IsLinear ts is_linear rest → UpTo ts rest
linear-up_to rule.not_linear = nothing
linear-up_to rule.linear = something first

key_columns-after : {ts rest : Symbols} {columns : List (List ℕ)} → AreKeyColumns ts columns rest → After ts rest
key_columns-after rule.no_columns = later first
key_columns-after (rule.some_columns c) = columns-after c

pub enclosed-after : {ts rest : Symbols} {x : Expr} → InParens IsExpr ts x rest → After ts rest
enclosed-after d = parens-after IsExpr (λ ts rest x e. expr-after e) d

pub hash-after : {ts rest : Symbols} {h : HashSpec} → IsHash ts h rest → After ts rest
hash-after (rule.by_hash l w d) = linear-up_to l *▸ (word-after w ▸ enclosed-after d)
hash-after (rule.by_key l c) = linear-up_to l *▸ later (key_columns-after c)

pub main-after : {ts rest : Symbols} {m : MainSpec} → IsMain ts m rest → After ts rest
main-after (rule.by_range d) = later (enclosed-after d)
main-after (rule.by_list w d) = word-after w ▸ enclosed-after d
main-after (rule.by_range_columns w c) = later (word-after w ▸ columns-after c)
main-after (rule.by_list_columns w v c) = word-after w ▸ word-after v ▸ columns-after c
main-after (rule.by_number h) = hash-after h

pub count-after : {k : Keyword} {ts rest : Symbols} {n : ℤ} → IsCount k ts n rest → After ts rest
count-after (rule.count w) = word-after w ▸ first

pub count-up_to : {k : Keyword} {ts rest : Symbols} {n : Option ℤ} → IsOptional (IsCount k) ts n rest → UpTo ts rest
count-up_to {k} d = optional-up_to (IsCount k) (λ ts rest n e. count-after e) d

pub sub-after : {ts rest : Symbols} {s : SubSpec} → IsSub ts s rest → After ts rest
sub-after (rule.sub w h n) = word-after w ▸ first ▸ hash-after h ▸* count-up_to n

-- ---- what is read is spelled

close_none-sound : (ts : Symbols) → Sound AreKeyColumns (Fixed Open ∷ ts) (close [] ts)
close_none-sound (Fixed Close ∷ ts) = rule.no_columns
close_none-sound _ = tt

no_columns-sound : (ts : Symbols) → Sound AreKeyColumns ts (no_columns ts)
unfolding no_columns
no_columns-sound (Fixed Open ∷ ts) = close_none-sound ts
no_columns-sound _ = tt

some_columns-sound : (ts : Symbols) (r : Reading (List (List ℕ))) → Sound AreColumns ts r → Sound AreKeyColumns ts r
some_columns-sound ts (Some p) d = rule.some_columns d
some_columns-sound ts None d = tt

key_columns-sound : (ts : Symbols) → Sound AreKeyColumns ts (key_columns ts)
unfolding key_columns
key_columns-sound ts = or_else-sound AreKeyColumns ts (no_columns ts) (tuple named ts) (no_columns-sound ts) (some_columns-sound ts (tuple named ts) (columns-sound ts))

counted_number-sound : (k : Keyword) (ts us : Symbols) → IsWord k ts tt us → Sound (IsCount k) ts (numbered us)
unfolding numbered
counted_number-sound k ts (Number n ∷ us) w = rule.count w
counted_number-sound k ts _ w = tt

pub counted-sound : (k : Keyword) (ts : Symbols) → Sound (IsCount k) ts (counted k ts)
unfolding counted
counted-sound k ts = and_then-sound (IsWord k) (IsCount k) ts ts (worded k ts) _ (word-sound k ts) (λ u us w. counted_number-sound k ts us w)

module _ (expr : Reader Expr) (sound : (ts : Symbols) → Sound IsExpr ts (expr ts)) where
  enclosed-sound : (ts : Symbols) → Sound (InParens IsExpr) ts (steps.in_parens expr ts)
  enclosed-sound ts = parens-sound IsExpr expr sound ts

  by_hash-sound : (is_linear : Bool) (ts us : Symbols) → IsLinear ts is_linear us → Sound IsHash ts (by_hash expr is_linear us)
  by_hash-sound is_linear ts us l =
      and_then-sound (IsWord keyword.Hash) IsHash us ts (worded keyword.Hash us) _ (word-sound keyword.Hash us)
      (λ u vs w. mapped-sound (InParens IsExpr) IsHash vs ts (steps.in_parens expr vs) (hash.Hash is_linear) (enclosed-sound vs) (λ x rest d. rule.by_hash l w d))

  hash_of-sound : (is_linear : Bool) (ts us : Symbols) → IsLinear ts is_linear us → Sound IsHash ts (hash_of expr is_linear us)
  unfolding hash_of
  hash_of-sound is_linear ts (Fixed (Other word.Key) ∷ us) l =
      mapped-sound AreKeyColumns IsHash us ts (key_columns us) (hash.Key is_linear) (key_columns-sound us) (λ columns rest c. rule.by_key l c)
  hash_of-sound is_linear ts us l = by_hash-sound is_linear ts us l

  past_linear-sound : (ts : Symbols) → Sound (λ us u rest. IsLinear us true rest) ts (past_linear ts)
  unfolding past_linear
  past_linear-sound (Fixed (Other word.Linear) ∷ ts) = rule.linear
  past_linear-sound _ = tt

  pub hashed-sound : (ts : Symbols) → Sound IsHash ts (hashed expr ts)
  unfolding hashed
  hashed-sound ts =
      if_read-sound (λ us u rest. IsLinear us true rest) IsHash ts ts (past_linear ts) _ _ (past_linear-sound ts) (λ u us l. hash_of-sound true ts us l)
      (hash_of-sound false ts ts rule.not_linear)

  ranged-sound : (ts : Symbols) → Sound IsMain (the word.Range ∷ ts) (ranged expr ts)
  unfolding ranged
  ranged-sound ts =
      if_read-sound (IsWord keyword.Columns) IsMain ts _ (worded keyword.Columns ts) _ _ (word-sound keyword.Columns ts)
      (λ u us w. mapped-sound AreColumns IsMain us _ (tuple named us) main.RangeColumns (columns-sound us) (λ columns rest c. rule.by_range_columns w c))
      (mapped-sound (InParens IsExpr) IsMain ts _ (steps.in_parens expr ts) main.Range (enclosed-sound ts) (λ x rest d. rule.by_range d))

  among-sound : (ts us : Symbols) → IsWord keyword.List ts tt us → Sound IsMain ts (among expr us)
  unfolding among
  among-sound ts us w =
      if_read-sound (IsWord keyword.Columns) IsMain us ts (worded keyword.Columns us) _ _ (word-sound keyword.Columns us)
      (λ u vs v. mapped-sound AreColumns IsMain vs ts (tuple named vs) main.ListColumns (columns-sound vs) (λ columns rest c. rule.by_list_columns w v c))
      (mapped-sound (InParens IsExpr) IsMain us ts (steps.in_parens expr us) main.List (enclosed-sound us) (λ x rest d. rule.by_list w d))

  among_or_hashed-sound : (ts : Symbols) → Sound IsMain ts (among_or_hashed expr ts)
  among_or_hashed-sound ts =
      if_read-sound (IsWord keyword.List) IsMain ts ts (worded keyword.List ts) _ _ (word-sound keyword.List ts) (λ u us w. among-sound ts us w)
      (mapped-sound IsHash IsMain ts ts (hashed expr ts) main.Hash (hashed-sound ts) (λ h rest d. rule.by_number d))

  pub main-sound : (ts : Symbols) → Sound IsMain ts (main_of expr ts)
  unfolding main_of
  main-sound (Fixed (Other word.Range) ∷ ts) = ranged-sound ts
  main-sound ts = among_or_hashed-sound ts

  sub_behind-sound : (ts us : Symbols) → IsWord keyword.Subpartition ts tt us → Sound IsSub ts (sub_behind expr us)
  unfolding sub_behind
  sub_behind-sound ts (Fixed (Other word.By) ∷ us) w =
      and_then-sound IsHash IsSub us ts (hashed expr us) _ (hashed-sound us)
      (λ h vs d. rule.sub w d (optional-sound (IsCount keyword.Subpartitions) sub_count (counted-sound keyword.Subpartitions) vs))
  sub_behind-sound ts _ w = tt

  pub sub-sound : (ts : Symbols) → Sound IsSub ts (sub_by expr ts)
  unfolding sub_by
  sub-sound ts =
      and_then-sound (IsWord keyword.Subpartition) IsSub ts ts (worded keyword.Subpartition ts) _ (word-sound keyword.Subpartition ts) (λ u us w. sub_behind-sound ts us w)

-- ---- what is spelled is read

key_columns-read : {ts rest : Symbols} {columns : List (List ℕ)} → AreKeyColumns ts columns rest → key_columns ts ≡ Some (columns, rest)
unfolding key_columns no_columns
key_columns-read rule.no_columns = refl
key_columns-read (rule.some_columns (in_parens (listed plain_name more))) = columns-read (in_parens (listed plain_name more))
key_columns-read (rule.some_columns (in_parens (listed quoted_name more))) = columns-read (in_parens (listed quoted_name more))

pub counted-read : {k : Keyword} {ts rest : Symbols} {n : ℤ} → IsCount k ts n rest → counted k ts ≡ Some (n, rest)
unfolding counted numbered
counted-read (rule.count w) = and_then-is _ (word-read w) refl

module _ (expr : Reader Expr) (P : Symbols → Type 0) (tail : (s : Symbol) (ts : Symbols) → P (s ∷ ts) → P ts)
    (exact : (ts rest : Symbols) (x : Expr) → IsExpr ts x rest → Ends rest → P ts → expr ts ≡ Some (x, rest)) where
  pub enclosed-read : {ts rest : Symbols} {x : Expr} → InParens IsExpr ts x rest → P ts → steps.in_parens expr ts ≡ Some (x, rest)
  unfolding steps.in_parens
  enclosed-read (in_parens {ts} {rest} {x} d) p = ap closed (exact ts (Fixed Close ∷ rest) x d at_close (tail (Fixed Open) ts p))

  by_hash-read : (is_linear : Bool) {ts us rest : Symbols} {x : Expr} → IsWord keyword.Hash ts tt us → InParens IsExpr us x rest → P ts
      → hash_of expr is_linear ts ≡ Some (hash.Hash is_linear x, rest)
  unfolding hash_of
  by_hash-read is_linear (is_word is) d p =
      and_then-is _ (word-read (is_word is)) (mapped-is (hash.Hash is_linear) (enclosed-read d (tail _ _ p)))

  by_key-read : (is_linear : Bool) {ts rest : Symbols} {columns : List (List ℕ)} → AreKeyColumns ts columns rest
      → hash_of expr is_linear (the word.Key ∷ ts) ≡ Some (hash.Key is_linear columns, rest)
  unfolding hash_of
  by_key-read is_linear c = mapped-is (hash.Key is_linear) (key_columns-read c)

  pub hash-read : {ts rest : Symbols} {h : HashSpec} → IsHash ts h rest → P ts → hashed expr ts ≡ Some (h, rest)
  unfolding hashed past_linear
  hash-read (rule.by_hash rule.not_linear (is_word is) d) p = by_hash-read false (is_word is) d p
  hash-read (rule.by_hash rule.linear w d) p = by_hash-read true w d (tail _ _ p)
  hash-read (rule.by_key rule.not_linear c) p = by_key-read false c
  hash-read (rule.by_key rule.linear c) p = by_key-read true c

  -- LIST is no word of these
  hash-no_list : {ts rest : Symbols} {h : HashSpec} → IsHash ts h rest → worded keyword.List ts ≡ None
  unfolding worded
  hash-no_list (rule.by_hash rule.not_linear w d) = word-other keyword.Hash keyword.List refl w
  hash-no_list (rule.by_hash rule.linear w d) = refl
  hash-no_list (rule.by_key rule.not_linear c) = refl
  hash-no_list (rule.by_key rule.linear c) = refl

  hash-main : {ts rest : Symbols} {h : HashSpec} → IsHash ts h rest → main_of expr ts ≡ among_or_hashed expr ts
  unfolding main_of
  hash-main (rule.by_hash rule.not_linear (is_word is) d) = refl
  hash-main (rule.by_hash rule.linear w d) = refl
  hash-main (rule.by_key rule.not_linear c) = refl
  hash-main (rule.by_key rule.linear c) = refl

  list-main : {ts rest : Symbols} {s : Reading MainSpec} → IsWord keyword.List ts tt rest → among expr rest ≡ s → main_of expr ts ≡ s
  unfolding main_of
  list-main (is_word is) e = if_read-is _ _ (word-read (is_word is)) e

  in_parens-no_word : (k : Keyword) {ts rest : Symbols} {x : Expr} → InParens IsExpr ts x rest → worded k ts ≡ None
  unfolding worded
  in_parens-no_word k (in_parens d) = refl

  pub main-read : {ts rest : Symbols} {m : MainSpec} → IsMain ts m rest → P ts → main_of expr ts ≡ Some (m, rest)
  unfolding main_of ranged among
  main-read (rule.by_range {ts} d) p =
      ap (λ r. if_read r (λ u us. mapped main.RangeColumns (tuple named us)) (mapped main.Range (steps.in_parens expr ts))) (in_parens-no_word keyword.Columns d)
      ∙ mapped-is main.Range (enclosed-read d (tail _ _ p))
  main-read (rule.by_list {us = us} w d) p =
      list-main w (ap (λ r. if_read r (λ u us. mapped main.ListColumns (tuple named us)) (mapped main.List (steps.in_parens expr us))) (in_parens-no_word keyword.Columns d)
      ∙ mapped-is main.List (enclosed-read d (after-keeps P tail (word-after w) p)))
  main-read (rule.by_range_columns w c) p = if_read-is _ _ (word-read w) (mapped-is main.RangeColumns (columns-read c))
  main-read (rule.by_list_columns w v c) p = list-main w (if_read-is _ _ (word-read v) (mapped-is main.ListColumns (columns-read c)))
  main-read (rule.by_number {ts} h) p =
      hash-main h ∙ ap (λ r. if_read r (λ u us. among expr us) (mapped main.Hash (hashed expr ts))) (hash-no_list h) ∙ mapped-is main.Hash (hash-read h p)

  pub sub-read : {ts rest : Symbols} {s : SubSpec} → IsSub ts s rest → sub_count rest ≡ None → P ts → sub_by expr ts ≡ Some (s, rest)
  unfolding sub_by sub_behind
  sub-read (rule.sub {h = h} w d n) none p =
      and_then-is _ (word-read w) (and_then-is _ (hash-read d (tail _ _ (after-keeps P tail (word-after w) p)))
      (ap (sub_counted expr h) (optional-read (IsCount keyword.Subpartitions) sub_count (λ n e. counted-read e) none n)))
