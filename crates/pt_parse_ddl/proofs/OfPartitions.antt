-- Definitions of partitions: what is read is spelled, and what is spelled is read.
use Rattle.std.proofs.Common.{◌≡◌, ℕ, Bool, true, false, List, [], ◌∷◌, Option, Some, None, refl, ap, ◌∙◌}
use Rattle.std.proofs.lemmas.Bool.{true≢false}
use Rattle.pt_ast.specs.declared.tree.Expr.{Expr}
use Rattle.pt_ast.specs.declared.written.BoundSpec.{BoundSpec}
use Rattle.pt_ast.specs.declared.written.BoundSpec.TheVariants as bound
use Rattle.pt_ast.specs.declared.written.Entry.{Entry}
use Rattle.pt_ast.specs.declared.written.Entry.TheVariants as entry
use Rattle.pt_ast.specs.declared.written.ValuesSpec.{ValuesSpec}
use Rattle.pt_ast.specs.declared.written.ValuesSpec.TheVariants as values
use Rattle.pt_ast.specs.declared.written.SubSpec.{SubSpec}
use Rattle.pt_ast.specs.declared.written.PartItem.{PartItem}
use Rattle.pt_ast.specs.declared.written.PartSpec.{PartSpec}
use Rattle.pt_parse_expr.specs.declared.alphabet.Mark.TheVariants.{Open, Close, In, Other}
use Rattle.pt_parse_expr.specs.declared.alphabet.Reserved.TheVariants as word
use Rattle.pt_parse_expr.specs.declared.alphabet.Symbol.{Symbol}
use Rattle.pt_parse_expr.specs.declared.alphabet.Symbol.TheVariants.{Fixed}
use Rattle.pt_parse_expr.specs.Grammar.{Symbols, IsExpr, IsTerm, IsFactor, IsPrimary}
use Rattle.pt_parse_expr.specs.Grammar as grammar
use Rattle.pt_parse_expr.specs.Reader.{Reading, Reader, mapped, many, closed}
use Rattle.pt_parse_expr.proofs.Sound.{Sound}
use Rattle.pt_parse_expr.proofs.Many.{many-none}
use Rattle.pt_parse_ddl.specs.declared.words.Keyword.TheVariants as keyword
use Rattle.pt_parse_ddl.specs.Words.{the, IsName, IsWord, word as is_word}
use Rattle.pt_parse_ddl.specs.Lists.{IsOptional, absent, present, AreRepeated, no_more, again, further, listed, in_parens, InTuple}
use Rattle.pt_parse_ddl.specs.Columns.{engine, comment}
use Rattle.pt_parse_ddl.specs.Partitioning.{IsMain, IsCount, IsSub, IsPartOption, IsSubpart, IsBound, IsEntry, IsLessThan, IsValues, IsPart, IsPartBy}
use Rattle.pt_parse_ddl.specs.Partitioning as rule
use Rattle.pt_parse_ddl.specs.Steps.{and_then, if_read, optional, next_item, more_items, several, tuple, named, worded}
use Rattle.pt_parse_ddl.specs.Steps as steps
use Rattle.pt_parse_ddl.specs.ColumnReader.{part_option}
use Rattle.pt_parse_ddl.specs.ColumnReader as columns
use Rattle.pt_parse_ddl.specs.PartReader.{count, sub_count, main_of, sub_by, past_options, subpart, subparts, less_than, two_or_more, with_subs, with_values, value_bound, bound_of, pair, entry_of, less_bounds, less, entries, below, values_behind, valued, part_behind, part_of, parts_of, with_parts, with_sub, with_count, part_behind_by, part_by}
use Rattle.pt_parse_ddl.specs.PartReader as reader
use Rattle.pt_parse_ddl.proofs.After.{After, first, later, ◌▸◌, UpTo, ◌▸*◌, after-keeps, up_to-keeps, name-after, word-after, optional-up_to, repeated-up_to, further-up_to, tuple-after, expr-after}
use Rattle.pt_parse_ddl.proofs.Sounding.{and_then-sound, if_read-sound, mapped-sound, name-sound, word-sound, optional-sound, repeated-sound, tuple-sound}
use Rattle.pt_parse_ddl.proofs.Exact.{and_then-is, if_read-is, mapped-is, name-read, word-read, word-other, optional-read, Ends, at_comma, at_close, repeated-read, tuple-read}
use Rattle.pt_parse_ddl.proofs.OfColumns.{part_option-after, part_option-sound, part_option-read}
use Rattle.pt_parse_ddl.proofs.OfPartitionings.{main-after, count-up_to, sub-after, counted-sound, main-sound, sub-sound, counted-read, main-read, sub-read}

-- ---- what each rule takes

pub options-up_to : {ts rest : Symbols} {us : List (Unit {0})} → AreRepeated IsPartOption ts us rest → UpTo ts rest
options-up_to d = repeated-up_to IsPartOption (λ ts rest u e. part_option-after e) d

pub subpart-after : {ts rest : Symbols} {x : List ℕ} → IsSubpart ts x rest → After ts rest
subpart-after (rule.subpart w n os) = word-after w ▸ name-after n ▸* options-up_to os

pub bound-after : {ts rest : Symbols} {x : BoundSpec} → IsBound ts x rest → After ts rest
bound-after rule.max = first
bound-after (rule.value d) = expr-after d

pub entry-after : {ts rest : Symbols} {x : Entry} → IsEntry ts x rest → After ts rest
entry-after (rule.one b) = bound-after b
entry-after (rule.many a b more) = later (bound-after a ▸ first ▸ bound-after b ▸* further-up_to IsBound (λ ts rest x d. bound-after d) more ▸ first)

pub less_than-after : {ts rest : Symbols} → IsLessThan ts tt rest → After ts rest
less_than-after (rule.less_than w v) = word-after w ▸ word-after v

pub bounds-after : {ts rest : Symbols} {xs : List BoundSpec} → InTuple IsBound ts xs rest → After ts rest
bounds-after d = tuple-after IsBound (λ ts rest x d. bound-after d) d

pub entries-after : {ts rest : Symbols} {xs : List Entry} → InTuple IsEntry ts xs rest → After ts rest
entries-after d = tuple-after IsEntry (λ ts rest x d. entry-after d) d

pub values-after : {ts rest : Symbols} {x : ValuesSpec} → IsValues ts x rest → After ts rest
values-after (rule.less_max l) = later (less_than-after l ▸ first)
values-after (rule.less l t) = later (less_than-after l ▸ bounds-after t)
values-after (rule.among t) = later (later (entries-after t))

pub subparts-after : {ts rest : Symbols} {xs : List (List ℕ)} → InTuple IsSubpart ts xs rest → After ts rest
subparts-after d = tuple-after IsSubpart (λ ts rest x d. subpart-after d) d

pub values-up_to : {ts rest : Symbols} {x : Option ValuesSpec} → IsOptional IsValues ts x rest → UpTo ts rest
values-up_to d = optional-up_to IsValues (λ ts rest x d. values-after d) d

pub part-after : {ts rest : Symbols} {x : PartItem} → IsPart ts x rest → After ts rest
part-after (rule.part n v os s) =
    later (name-after n ▸* values-up_to v ▸* options-up_to os ▸* optional-up_to (InTuple IsSubpart) (λ ts rest x d. subparts-after d) s)

pub parts-after : {ts rest : Symbols} {xs : List PartItem} → InTuple IsPart ts xs rest → After ts rest
parts-after d = tuple-after IsPart (λ ts rest x d. part-after d) d

pub sub-up_to : {ts rest : Symbols} {x : Option SubSpec} → IsOptional IsSub ts x rest → UpTo ts rest
sub-up_to d = optional-up_to IsSub (λ ts rest x d. sub-after d) d

pub part_by-after : {ts rest : Symbols} {x : PartSpec} → IsPartBy ts x rest → After ts rest
part_by-after (rule.part_by m n s ps) =
    later (later (main-after m ▸* count-up_to n ▸* sub-up_to s ▸* optional-up_to (InTuple IsPart) (λ ts rest x d. parts-after d) ps))

-- ---- what is read is spelled

options-sound : (ts : Symbols) → AreRepeated IsPartOption ts (many part_option ts).0 (past_options ts)
options-sound ts = repeated-sound IsPartOption part_option part_option-sound ts

subpart-sound : (ts : Symbols) → Sound IsSubpart ts (subpart ts)
unfolding subpart
subpart-sound ts =
    and_then-sound (IsWord keyword.Subpartition) IsSubpart ts ts (worded keyword.Subpartition ts) _ (word-sound keyword.Subpartition ts)
    (λ u us w. and_then-sound IsName IsSubpart us ts (named us) _ (name-sound us) (λ name vs n. rule.subpart w n (options-sound vs)))

subparts-sound : (ts : Symbols) → Sound (InTuple IsSubpart) ts (subparts ts)
subparts-sound ts = tuple-sound IsSubpart subpart subpart-sound ts

less_than-sound : (ts : Symbols) → Sound IsLessThan ts (less_than ts)
unfolding less_than
less_than-sound ts =
    and_then-sound (IsWord keyword.Less) IsLessThan ts ts (worded keyword.Less ts) _ (word-sound keyword.Less ts) (λ u us w. than_sound ts us w) where
      as_than : (ts us : Symbols) → IsWord keyword.Less ts tt us → (r : Reading (Unit {0})) → Sound (IsWord keyword.Than) us r → Sound IsLessThan ts r
      as_than ts us w (Some p) v = rule.less_than w v
      as_than ts us w None v = tt

      than_sound : (ts us : Symbols) → IsWord keyword.Less ts tt us → Sound IsLessThan ts (worded keyword.Than us)
      than_sound ts us w = as_than ts us w (worded keyword.Than us) (word-sound keyword.Than us)

module _ (expr : Reader Expr) (sound : (ts : Symbols) → Sound IsExpr ts (expr ts)) where
  bound-sound : (ts : Symbols) → Sound IsBound ts (bound_of expr ts)
  unfolding bound_of
  bound-sound (Fixed (Other word.MaxValue) ∷ ts) = rule.max
  bound-sound ts = value-sound ts where
    value-sound : (ts : Symbols) → Sound IsBound ts (value_bound expr ts)
    value-sound ts = mapped-sound IsExpr IsBound ts ts (expr ts) bound.Value (sound ts) (λ x rest d. rule.value d)

  bounds-sound : (ts : Symbols) → Sound (InTuple IsBound) ts (tuple (bound_of expr) ts)
  bounds-sound ts = tuple-sound IsBound (bound_of expr) bound-sound ts

  -- two and more
  two-sound : (ts : Symbols) (xs : List BoundSpec) (rest : Symbols) → InTuple IsBound ts xs rest
      → Sound (λ us bs vs. IsEntry us (entry.Many bs) vs) ts (two_or_more xs rest)
  two-sound ts [] rest d = tt
  two-sound ts (x ∷ []) rest d = tt
  two-sound ts (x ∷ y ∷ xs) rest (in_parens (listed a (further b more))) = rule.many a b more

  pair-sound : (ts : Symbols) → Sound (λ us bs vs. IsEntry us (entry.Many bs) vs) ts (pair expr ts)
  unfolding pair
  pair-sound ts =
      and_then-sound (InTuple IsBound) (λ us bs vs. IsEntry us (entry.Many bs) vs) ts ts (tuple (bound_of expr) ts) two_or_more (bounds-sound ts)
      (λ xs rest d. two-sound ts xs rest d)

  entry-sound : (ts : Symbols) → Sound IsEntry ts (entry_of expr ts)
  unfolding entry_of
  entry-sound ts =
      if_read-sound (λ us bs vs. IsEntry us (entry.Many bs) vs) IsEntry ts ts (pair expr ts) _ _ (pair-sound ts) (λ bs us d. d)
      (mapped-sound IsBound IsEntry ts ts (bound_of expr ts) entry.One (bound-sound ts) (λ b rest d. rule.one d))

  less-sound : (ts us : Symbols) → IsLessThan ts tt us → Sound IsValues (the word.Values ∷ ts) (less expr us)
  unfolding less
  less-sound ts (Fixed (Other word.MaxValue) ∷ us) l = rule.less_max l
  less-sound ts us l = bounds ts us l where
    bounds : (ts us : Symbols) → IsLessThan ts tt us → Sound IsValues (the word.Values ∷ ts) (less_bounds expr us)
    bounds ts us l = mapped-sound (InTuple IsBound) IsValues us _ (tuple (bound_of expr) us) values.Less (bounds-sound us) (λ bs rest d. rule.less l d)

  below-sound : (ts : Symbols) → Sound IsValues (the word.Values ∷ ts) (below expr ts)
  below-sound ts = and_then-sound IsLessThan IsValues ts _ (less_than ts) _ (less_than-sound ts) (λ u us l. less-sound ts us l)

  values_behind-sound : (ts : Symbols) → Sound IsValues (the word.Values ∷ ts) (values_behind expr ts)
  unfolding values_behind
  values_behind-sound (Fixed In ∷ ts) =
      mapped-sound (InTuple IsEntry) IsValues ts _ (tuple (entry_of expr) ts) values.Among (tuple-sound IsEntry (entry_of expr) entry-sound ts) (λ es rest d. rule.among d)
  values_behind-sound ts = below-sound ts

  values-sound : (ts : Symbols) → Sound IsValues ts (valued expr ts)
  unfolding valued
  values-sound (Fixed (Other word.Values) ∷ ts) = values_behind-sound ts
  values-sound _ = tt

  part-sound : (ts : Symbols) → Sound IsPart ts (part_of expr ts)
  unfolding part_of part_behind
  part-sound (Fixed (Other word.Partition) ∷ ts) =
      and_then-sound IsName IsPart ts _ (named ts) _ (name-sound ts)
      (λ name us n. rule.part n (optional-sound IsValues (valued expr) values-sound us) (options-sound (optional (valued expr) us).1)
      (optional-sound (InTuple IsSubpart) subparts subparts-sound (past_options (optional (valued expr) us).1)))
  part-sound _ = tt

  pub parts-sound : (ts : Symbols) → Sound (InTuple IsPart) ts (parts_of expr ts)
  parts-sound ts = tuple-sound IsPart (part_of expr) part-sound ts

  part_behind_by-sound : (ts : Symbols) → Sound IsPartBy (the word.Partition ∷ ts) (part_behind_by expr ts)
  unfolding part_behind_by
  part_behind_by-sound (Fixed (Other word.By) ∷ ts) =
      and_then-sound IsMain IsPartBy ts _ (main_of expr ts) _ (main-sound expr sound ts)
      (λ m us d. let n = optional count us in let s = optional (sub_by expr) n.1 in
      rule.part_by d (optional-sound (IsCount keyword.Partitions) count (counted-sound keyword.Partitions) us) (optional-sound IsSub (sub_by expr) (sub-sound expr sound) n.1)
      (optional-sound (InTuple IsPart) (parts_of expr) parts-sound s.1))
  part_behind_by-sound _ = tt

  pub part_by-sound : (ts : Symbols) → Sound IsPartBy ts (part_by expr ts)
  unfolding part_by
  part_by-sound (Fixed (Other word.Partition) ∷ ts) = part_behind_by-sound ts
  part_by-sound _ = tt

-- ---- what is spelled is read

-- an expression begins with no MAXVALUE
abbrev is_max : Symbols → Bool
is_max (Fixed (Other word.MaxValue) ∷ ts) = true
is_max _ = false

-- and what stands in a parenthesis that it begins with is one
abbrev Opened : Symbols → Type 0
Opened (Fixed Open ∷ ts) = (y : Expr) × (us : Symbols) × IsExpr ts y (Fixed Close ∷ us)
Opened _ = Unit {0}

pub record Begins (ts : Symbols) : Type 0 where
  pub no_max : is_max ts ≡ false
  pub opened : Opened ts

primary-begins : {ts rest : Symbols} {x : Expr} → IsPrimary ts x rest → Begins ts
primary-begins grammar.number = record { no_max = refl; opened = tt }
primary-begins grammar.text = record { no_max = refl; opened = tt }
primary-begins grammar.hex = record { no_max = refl; opened = tt }
primary-begins (grammar.date is) = record { no_max = refl; opened = tt }
primary-begins grammar.null = record { no_max = refl; opened = tt }
primary-begins grammar.word = record { no_max = refl; opened = tt }
primary-begins grammar.quoted = record { no_max = refl; opened = tt }
primary-begins (grammar.call is d) = record { no_max = refl; opened = tt }
primary-begins (grammar.call_mod d e) = record { no_max = refl; opened = tt }
primary-begins (grammar.parens {ts} {rest} {x} d) = record { no_max = refl; opened = (x, rest, d) }

expr-begins : {ts rest : Symbols} {x : Expr} → IsExpr ts x rest → Begins ts
expr-begins (grammar.sum (grammar.product (grammar.bare p) fs) ps) = primary-begins p
expr-begins (grammar.sum (grammar.product (grammar.positive p) fs) ps) = record { no_max = refl; opened = tt }
expr-begins (grammar.sum (grammar.product (grammar.negative p) fs) ps) = record { no_max = refl; opened = tt }

-- LESS THAN is read
less_than-read : {ts rest : Symbols} → IsLessThan ts tt rest → less_than ts ≡ Some (tt, rest)
unfolding less_than
less_than-read (rule.less_than w v) = and_then-is _ (word-read w) (word-read v)

-- ---- options and subpartitions

ends-no_part_option : {rest : Symbols} → Ends rest → part_option rest ≡ None
unfolding part_option columns.engine columns.comment worded
ends-no_part_option at_comma = refl
ends-no_part_option at_close = refl

options-read : {ts rest : Symbols} {us : List (Unit {0})} → AreRepeated IsPartOption ts us rest → part_option rest ≡ None → past_options ts ≡ rest
options-read d none =
    ap (λ p. p.1) (repeated-read (λ us. Unit {0}) (λ s us p. tt) IsPartOption part_option (λ ts rest u e. part_option-after e) (λ us. Unit {0}) (λ ts rest u e. tt)
    (λ ts rest u e g p. part_option-read e) d tt none tt).0

subpart-read : (ts rest : Symbols) (x : List ℕ) → IsSubpart ts x rest → Ends rest → Unit {0} → subpart ts ≡ Some (x, rest)
unfolding subpart
subpart-read ts rest x (rule.subpart w n os) ends p =
    and_then-is _ (word-read w) (and_then-is _ (name-read n) (ap (λ (us : Symbols). Some (x, us)) (options-read os (ends-no_part_option ends))))

subparts-read : {ts rest : Symbols} {xs : List (List ℕ)} → InTuple IsSubpart ts xs rest → subparts ts ≡ Some (xs, rest)
subparts-read d = tuple-read (λ us. Unit {0}) (λ s us p. tt) IsSubpart subpart (λ ts rest x e. subpart-after e) subpart-read d tt

-- what may stand behind the options of a partition
subs-no_option : {ts rest : Symbols} {x : Option (List (List ℕ))} → IsOptional (InTuple IsSubpart) ts x rest → Ends rest → part_option ts ≡ None
unfolding part_option columns.engine columns.comment worded
subs-no_option absent ends = ends-no_part_option ends
subs-no_option (present (in_parens l)) ends = refl

ends-no_subs : {rest : Symbols} → Ends rest → subparts rest ≡ None
unfolding steps.in_parens
ends-no_subs at_comma = refl
ends-no_subs at_close = refl

module _ (expr : Reader Expr) (P : Symbols → Type 0) (tail : (s : Symbol) (ts : Symbols) → P (s ∷ ts) → P ts)
    (exact : (ts rest : Symbols) (x : Expr) → IsExpr ts x rest → Ends rest → P ts → expr ts ≡ Some (x, rest)) where
  max-value : (ts : Symbols) → is_max ts ≡ false → bound_of expr ts ≡ value_bound expr ts
  unfolding bound_of
  max-value (Fixed (Other word.MaxValue) ∷ ts) e = absurd (true≢false e)
  max-value _ e = refl

  bound-read : (ts rest : Symbols) (x : BoundSpec) → IsBound ts x rest → Ends rest → P ts → bound_of expr ts ≡ Some (x, rest)
  unfolding bound_of
  bound-read _ _ _ rule.max ends p = refl
  bound-read ts rest _ (rule.value {x = x} d) ends p = max-value ts (expr-begins d).no_max ∙ mapped-is bound.Value (exact ts rest x d ends p)

  bounds-read : {ts rest : Symbols} {xs : List BoundSpec} → InTuple IsBound ts xs rest → P ts → tuple (bound_of expr) ts ≡ Some (xs, rest)
  bounds-read d p = tuple-read P tail IsBound (bound_of expr) (λ ts rest x e. bound-after e) bound-read d p

  -- one expression in parentheses is no list
  opened-no_pair : (ts : Symbols) → Opened ts → P ts → pair expr ts ≡ None
  unfolding pair steps.in_parens several next_item
  opened-no_pair (Fixed Open ∷ ts) (y, us, d) p =
      ap (λ r. and_then (closed (and_then r (more_items (bound_of expr)))) two_or_more)
      (bound-read ts (Fixed Close ∷ us) (bound.Value y) (rule.value d) at_close (tail (Fixed Open) ts p))
      ∙ ap (λ (m : List BoundSpec × Symbols). and_then (closed (Some (bound.Value y ∷ m.0, m.1))) two_or_more)
      (many-none (next_item (bound_of expr)) (Fixed Close ∷ us) refl)
  opened-no_pair _ o p = refl

  bound-no_pair : {ts rest : Symbols} {x : BoundSpec} → IsBound ts x rest → P ts → pair expr ts ≡ None
  unfolding pair steps.in_parens
  bound-no_pair rule.max p = refl
  bound-no_pair (rule.value {ts} d) p = opened-no_pair ts (expr-begins d).opened p

  entry-read : (ts rest : Symbols) (x : Entry) → IsEntry ts x rest → Ends rest → P ts → entry_of expr ts ≡ Some (x, rest)
  unfolding entry_of pair
  entry-read ts rest _ (rule.one {b = b} d) ends p =
      ap (λ r. if_read r (λ bs us. Some (entry.Many bs, us)) (mapped entry.One (bound_of expr ts))) (bound-no_pair d p)
      ∙ mapped-is entry.One (bound-read ts rest b d ends p)
  entry-read ts rest _ (rule.many a b more) ends p =
      if_read-is _ _ (and_then-is two_or_more (bounds-read (in_parens (listed a (further b more))) p) refl) refl

  less-read : {ts rest : Symbols} {xs : List BoundSpec} → InTuple IsBound ts xs rest → P ts → less expr ts ≡ Some (values.Less xs, rest)
  unfolding less
  less-read (in_parens l) p = mapped-is values.Less (bounds-read (in_parens l) p)

  less_than-below : {ts rest : Symbols} → IsLessThan ts tt rest → values_behind expr ts ≡ less expr rest
  unfolding values_behind
  less_than-below (rule.less_than (is_word is) v) = and_then-is _ (less_than-read (rule.less_than (is_word is) v)) refl

  pub values-read : {ts rest : Symbols} {x : ValuesSpec} → IsValues ts x rest → P ts → valued expr ts ≡ Some (x, rest)
  unfolding valued values_behind less
  values-read (rule.less_max l) p = less_than-below l
  values-read (rule.less l t) p = less_than-below l ∙ less-read t (after-keeps P tail (less_than-after l) (tail _ _ p))
  values-read (rule.among t) p =
      mapped-is values.Among (tuple-read P tail IsEntry (entry_of expr) (λ ts rest x e. entry-after e) entry-read t (tail _ _ (tail _ _ p)))

  -- no VALUES stands there
  options-no_values : {ts us rest : Symbols} {os : List (Unit {0})} {x : Option (List (List ℕ))} → AreRepeated IsPartOption ts os us
      → IsOptional (InTuple IsSubpart) us x rest → Ends rest → valued expr ts ≡ None
  unfolding valued
  options-no_values no_more absent at_comma = refl
  options-no_values no_more absent at_close = refl
  options-no_values no_more (present (in_parens l)) ends = refl
  options-no_values (again (rule.part_engine (engine (is_word is) e n)) more) s ends = refl
  options-no_values (again (rule.part_comment (comment (is_word is) e)) more) s ends = refl

  part-read : (ts rest : Symbols) (x : PartItem) → IsPart ts x rest → Ends rest → P ts → part_of expr ts ≡ Some (x, rest)
  unfolding part_of part_behind
  part-read _ rest _ (rule.part {us = us} {ws = ws} {name = name} {spec = spec} n v os s) ends p =
      let q = after-keeps P tail (name-after n) (tail _ _ p) in
      and_then-is _ (name-read n)
      (ap (with_values name) (optional-read IsValues (valued expr) (λ x d. values-read d q) (options-no_values os s ends) v)
      ∙ ap (λ (us : Symbols). with_subs name spec (optional subparts us)) (options-read os (subs-no_option s ends))
      ∙ ap (with_subs name spec) (optional-read (InTuple IsSubpart) subparts (λ x d. subparts-read d) (ends-no_subs ends) s))

  pub parts-read : {ts rest : Symbols} {xs : List PartItem} → InTuple IsPart ts xs rest → P ts → parts_of expr ts ≡ Some (xs, rest)
  parts-read d p = tuple-read P tail IsPart (part_of expr) (λ ts rest x e. part-after e) part-read d p

  -- ---- the whole, at the end of the symbols

  parts-no_sub : {ts : Symbols} {x : Option (List PartItem)} → IsOptional (InTuple IsPart) ts x [] → (sub_by expr ts ≡ None) × (sub_count ts ≡ None) × (count ts ≡ None)
  unfolding sub_by reader.counted worded
  parts-no_sub absent = (refl, refl, refl)
  parts-no_sub (present (in_parens l)) = (refl, refl, refl)

  subs-no_count : {ts us : Symbols} {s : Option SubSpec} {x : Option (List PartItem)} → IsOptional IsSub ts s us → IsOptional (InTuple IsPart) us x [] → count ts ≡ None
  unfolding reader.counted
  subs-no_count absent ps = (parts-no_sub ps).2
  subs-no_count (present (rule.sub w h n)) ps = ap (λ r. and_then r (λ u us. steps.numbered us)) (word-other keyword.Subpartition keyword.Partitions refl w)

  pub part_by-read : {ts : Symbols} {x : PartSpec} → IsPartBy ts x [] → P ts → part_by expr ts ≡ Some (x, [])
  unfolding part_by part_behind_by steps.in_parens
  part_by-read (rule.part_by {m = m} {n = n} {s = s} d e f g) p =
      let q = tail _ _ (tail _ _ p) in
      let q1 = after-keeps P tail (main-after d) q in
      let q2 = up_to-keeps P tail (count-up_to e) q1 in
      let q3 = up_to-keeps P tail (sub-up_to f) q2 in
      and_then-is _ (main-read expr P tail exact d q)
      (ap (with_count expr m) (optional-read (IsCount keyword.Partitions) count (λ n c. counted-read c) (subs-no_count f g) e)
      ∙ ap (with_sub expr m n) (optional-read IsSub (sub_by expr) (λ x c. sub-read expr P tail exact c (parts-no_sub g).1 q2) (parts-no_sub g).0 f)
      ∙ ap (with_parts expr m n s) (optional-read (InTuple IsPart) (parts_of expr) (λ x c. parts-read c q3) refl g))
