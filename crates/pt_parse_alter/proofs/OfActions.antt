-- What is done to a table: what is read is spelled, and what is spelled is read.
use Rattle.std.proofs.Common.{◌≡◌, ℕ, false, List, [], ◌∷◌, Option, Some, None, refl, ap, ◌∙◌, subst, arith}
use Rattle.std.specs.Str.{bytes_eq, str_to_ascii_lowercase}
use Rattle.pt_ast.specs.declared.tree.Expr.{Expr}
use Rattle.pt_ast.specs.declared.statement.Stmt.{Stmt}
use Rattle.pt_ast.specs.declared.statement.Stmt.TheVariants as stmt
use Rattle.pt_parse_expr.specs.declared.alphabet.Mark.TheVariants.{Comma, Other}
use Rattle.pt_parse_expr.specs.declared.alphabet.Reserved.TheVariants as word
use Rattle.pt_parse_expr.specs.declared.alphabet.Symbol.{Symbol}
use Rattle.pt_parse_expr.specs.declared.alphabet.Symbol.TheVariants.{Fixed, Number}
use Rattle.pt_parse_expr.specs.Grammar.{Symbols, IsExpr}
use Rattle.pt_parse_expr.specs.Reader.{Reading, Reader, many, before}
use Rattle.pt_parse_expr.proofs.Sound.{Sound}
use Rattle.pt_parse_expr.proofs.Many.{many-none, many-more}
use Rattle.pt_parse_ddl.specs.declared.words.Keyword.{Keyword}
use Rattle.pt_parse_ddl.specs.declared.words.Keyword.TheVariants as keyword
use Rattle.pt_parse_ddl.specs.Words.{the, spelling, IsName, plain_name, quoted_name, IsWord, word as is_word}
use Rattle.pt_parse_ddl.specs.Lists.{IsOptional, AreFurther, no_further, further, listed, in_parens, InTuple}
use Rattle.pt_parse_ddl.specs.Partitioning.{IsCount, IsPart, IsPartBy, part_by as by_rule}
use Rattle.pt_parse_ddl.specs.Steps.{and_then, if_read, next_item, more_items, several, named, numbered, worded}
use Rattle.pt_parse_ddl.specs.PartReader.{count, counted, parts_of, part_by}
use Rattle.pt_parse_ddl.proofs.After.{after-keeps, name-after, word-after, listed-after, shorter}
use Rattle.pt_parse_ddl.proofs.Sounding.{and_then-sound, if_read-sound, mapped-sound, name-sound, word-sound, optional-sound, several-sound}
use Rattle.pt_parse_ddl.proofs.Exact.{and_then-is, if_read-is, mapped-is, name-read, word-read, word-other, optional-read, Ends}
use Rattle.pt_parse_ddl.proofs.OfPartitionings.{counted-sound, counted-read}
use Rattle.pt_parse_ddl.proofs.OfPartitions.{parts-sound, parts-read, part_by-sound, part_by-read}
use Rattle.pt_parse_dml.proofs.Listing.{carried}
use Rattle.pt_parse_alter.specs.Statements.{IsVerb, AreNames, IsValidation, IsAction}
use Rattle.pt_parse_alter.specs.Statements as rule
use Rattle.pt_parse_alter.specs.Reader.{past_partition, verb, past_table, with_table, validation, dropped, truncated, truncated_names, coalesced, exchanged, removed, added, added_some, reorganized, reorganized_into, partitioned, by_word, action}

-- ---- what is read is spelled

verb_behind-sound : (k : Keyword) (ts us : Symbols) → IsWord k ts tt us → Sound (IsVerb k) ts (past_partition us)
unfolding past_partition
verb_behind-sound k ts (Fixed (Other word.Partition) ∷ us) w = w
verb_behind-sound k ts _ w = tt

verb-sound : (k : Keyword) (ts : Symbols) → Sound (IsVerb k) ts (verb k ts)
unfolding verb
verb-sound k ts = and_then-sound (IsWord k) (IsVerb k) ts ts (worded k ts) _ (word-sound k ts) (λ u us w. verb_behind-sound k ts us w)

-- TABLE stands there, and WITH TABLE
abbrev AtTable : Symbols → Unit {0} → Symbols → Type 0
AtTable ts u rest = ts ≡ the word.Table ∷ rest

abbrev AtWithTable : Symbols → Unit {0} → Symbols → Type 0
AtWithTable ts u rest = ts ≡ the word.With ∷ the word.Table ∷ rest

past_table-sound : (ts : Symbols) → Sound AtTable ts (past_table ts)
unfolding past_table
past_table-sound (Fixed (Other word.Table) ∷ ts) = refl
past_table-sound _ = tt

with_table-sound : (ts : Symbols) → Sound AtWithTable ts (with_table ts)
unfolding with_table
with_table-sound (Fixed (Other word.With) ∷ ts) = carried AtTable AtWithTable ts _ (past_table ts) (past_table-sound ts) (λ u rest e. ap (λ us. the word.With ∷ us) e)
with_table-sound _ = tt

validation-sound : (ts : Symbols) → Sound IsValidation ts (validation ts)
unfolding validation
validation-sound (Fixed (Other word.With) ∷ ts) =
    carried (IsWord keyword.Validation) IsValidation ts _ (worded keyword.Validation ts) (word-sound keyword.Validation ts) (λ u rest w. rule.validation w)
validation-sound _ = tt

names-sound : (ts : Symbols) → Sound AreNames ts (several named ts)
names-sound ts = several-sound IsName named name-sound ts

module _ (table : List ℕ) where
  dropped-sound : (ts : Symbols) → Sound (IsAction table) (the word.Drop ∷ ts) (dropped table ts)
  unfolding dropped
  dropped-sound (Fixed (Other word.Partition) ∷ ts) =
      mapped-sound AreNames (IsAction table) ts _ (several named ts) (stmt.DropParts table) (names-sound ts) (λ names rest d. rule.drop_parts d)
  dropped-sound _ = tt

  truncated_names-sound : (ts us : Symbols) → IsVerb keyword.Truncate ts tt us → Sound (IsAction table) ts (truncated_names table us)
  truncated_names-sound ts us w =
      mapped-sound AreNames (IsAction table) us ts (several named us) (λ names. stmt.Truncate table (Some names)) (names-sound us) (λ names rest d. rule.truncate w d)

  truncated-sound : (ts us : Symbols) → IsVerb keyword.Truncate ts tt us → Sound (IsAction table) ts (truncated table us)
  unfolding truncated
  truncated-sound ts (Fixed (Other word.All) ∷ us) w = rule.truncate_all w
  truncated-sound ts us w = truncated_names-sound ts us w

  coalesced-sound : (ts us : Symbols) → IsVerb keyword.Coalesce ts tt us → Sound (IsAction table) ts (coalesced table us)
  unfolding numbered
  coalesced-sound ts (Number n ∷ us) w = rule.coalesce w
  coalesced-sound ts _ w = tt

  exchanged-sound : (ts us : Symbols) → IsVerb keyword.Exchange ts tt us → Sound (IsAction table) ts (exchanged table us)
  unfolding exchanged
  exchanged-sound ts us w =
      and_then-sound IsName (IsAction table) us ts (named us) _ (name-sound us)
      (λ name vs n. and_then-sound AtWithTable (IsAction table) vs ts (with_table vs) _ (with_table-sound vs)
      (λ u ws e. and_then-sound IsName (IsAction table) ws ts (named ws) _ (name-sound ws)
      (λ other xs o. rule.exchange w (subst (λ vs. IsName us name vs) e n) o (optional-sound IsValidation validation validation-sound xs))))

  removed-sound : (ts us : Symbols) → IsWord keyword.Remove ts tt us → Sound (IsAction table) ts (removed table us)
  removed-sound ts us w =
      mapped-sound (IsWord keyword.Partitioning) (IsAction table) us ts (worded keyword.Partitioning us) (λ u. stmt.RemoveParts table)
      (word-sound keyword.Partitioning us) (λ u rest v. rule.remove w v)

  -- over the reader of expressions
  module _ (expr : Reader Expr) (sound : (ts : Symbols) → Sound IsExpr ts (expr ts)) where
    added_some-sound : (ts : Symbols) → Sound (IsAction table) (the word.Add ∷ the word.Partition ∷ ts) (added_some expr table ts)
    added_some-sound ts =
        if_read-sound (IsCount keyword.Partitions) (IsAction table) ts _ (count ts) _ _ (counted-sound keyword.Partitions ts) (λ n us d. rule.add_count d)
        (mapped-sound (InTuple IsPart) (IsAction table) ts _ (parts_of expr ts) (stmt.AddParts table) (parts-sound expr sound ts) (λ parts rest d. rule.add_parts d))

    added-sound : (ts : Symbols) → Sound (IsAction table) (the word.Add ∷ ts) (added expr table ts)
    unfolding added
    added-sound (Fixed (Other word.Partition) ∷ ts) = added_some-sound ts
    added-sound _ = tt

    into-sound : (ts us vs : Symbols) (names : List (List ℕ)) → IsVerb keyword.Reorganize ts tt us → AreNames us names vs
        → Sound (IsAction table) ts (reorganized_into expr table names vs)
    unfolding reorganized_into
    into-sound ts us (Fixed (Other word.Into) ∷ vs) names w d =
        mapped-sound (InTuple IsPart) (IsAction table) vs ts (parts_of expr vs) (stmt.Reorganize table names) (parts-sound expr sound vs) (λ parts rest e. rule.reorganize w d e)
    into-sound ts us _ names w d = tt

    reorganized-sound : (ts us : Symbols) → IsVerb keyword.Reorganize ts tt us → Sound (IsAction table) ts (reorganized expr table us)
    unfolding reorganized
    reorganized-sound ts us w =
        and_then-sound AreNames (IsAction table) us ts (several named us) (reorganized_into expr table) (names-sound us)
        (λ names vs d. into-sound ts us vs names w d)

    partitioned-sound : (ts : Symbols) → Sound (IsAction table) ts (partitioned expr table ts)
    partitioned-sound ts =
        mapped-sound IsPartBy (IsAction table) ts ts (part_by expr ts) (stmt.PartitionBy table) (part_by-sound expr sound ts) (λ spec rest d. rule.partition_by d)

    by_word-sound : (ts : Symbols) → Sound (IsAction table) ts (by_word expr table ts)
    unfolding by_word
    by_word-sound ts =
        if_read-sound (IsVerb keyword.Truncate) (IsAction table) ts ts (verb keyword.Truncate ts) _ _ (verb-sound keyword.Truncate ts) (λ u us w. truncated-sound ts us w)
        (if_read-sound (IsVerb keyword.Coalesce) (IsAction table) ts ts (verb keyword.Coalesce ts) _ _ (verb-sound keyword.Coalesce ts) (λ u us w. coalesced-sound ts us w)
        (if_read-sound (IsVerb keyword.Reorganize) (IsAction table) ts ts (verb keyword.Reorganize ts) _ _ (verb-sound keyword.Reorganize ts) (λ u us w. reorganized-sound ts us w)
        (if_read-sound (IsVerb keyword.Exchange) (IsAction table) ts ts (verb keyword.Exchange ts) _ _ (verb-sound keyword.Exchange ts) (λ u us w. exchanged-sound ts us w)
        (if_read-sound (IsWord keyword.Remove) (IsAction table) ts ts (worded keyword.Remove ts) _ _ (word-sound keyword.Remove ts) (λ u us w. removed-sound ts us w)
        (partitioned-sound ts)))))

    pub action-sound : (ts : Symbols) → Sound (IsAction table) ts (action expr table ts)
    unfolding action
    action-sound (Fixed (Other word.Add) ∷ ts) = added-sound ts
    action-sound (Fixed (Other word.Drop) ∷ ts) = dropped-sound ts
    action-sound ts = by_word-sound ts

-- ---- what is spelled is read: words

if_not_read : {A B : Type 0} {r : Reading A} (go : A → Symbols → Reading B) (other : Reading B) {s : Reading B} → r ≡ None → other ≡ s → if_read r go other ≡ s
if_not_read go other e f = ap (λ r. if_read r go other) e ∙ f

verb-read : {k : Keyword} {ts rest : Symbols} → IsVerb k ts tt rest → verb k ts ≡ Some (tt, rest)
unfolding verb past_partition
verb-read w = and_then-is _ (word-read w) refl

-- a word is no other
verb-other : (j k : Keyword) {ts rest : Symbols} → bytes_eq (str_to_ascii_lowercase (spelling j)) (str_to_ascii_lowercase (spelling k)) ≡ false
    → IsWord j ts tt rest → verb k ts ≡ None
unfolding verb
verb-other j k other w = ap (λ r. and_then r (λ u us. past_partition us)) (word-other j k other w)

-- ---- names

-- what no list goes on with
pub data Finishes : Symbols → Type 0 where
  at_end : Finishes []
  at_into : {ts : Symbols} → Finishes (the word.Into ∷ ts)

no_next : {ts : Symbols} → Finishes ts → next_item named ts ≡ None
unfolding next_item
no_next at_end = refl
no_next at_into = refl

further-read : {ts rest : Symbols} {names : List (List ℕ)} → AreFurther IsName ts names rest → Finishes rest → many (next_item named) ts ≡ (names, rest)
unfolding next_item
further-read {rest} no_further f = many-none (next_item named) rest (no_next f)
further-read (further {ts} {us} {x = x} n more) f =
    many-more (next_item named) (Fixed Comma ∷ ts) us x (name-read n) (omega (arith, shorter (name-after n))) ∙ ap (before x) (further-read more f)

pub names-read : {ts rest : Symbols} {names : List (List ℕ)} → AreNames ts names rest → Finishes rest → several named ts ≡ Some (names, rest)
unfolding several
names-read (listed {x = x} n more) f = and_then-is (more_items named) (name-read n) (ap (λ m. Some (x ∷ m.0, m.1)) (further-read more f))

-- ALL is no name
names-truncated : (table : List ℕ) {ts rest : Symbols} {names : List (List ℕ)} → AreNames ts names rest → truncated table ts ≡ truncated_names table ts
unfolding truncated
names-truncated table (listed plain_name more) = refl
names-truncated table (listed quoted_name more) = refl

validation-read : {ts rest : Symbols} (u : Unit {0}) → IsValidation ts u rest → validation ts ≡ Some (u, rest)
unfolding validation
validation-read _ (rule.validation w) = word-read w

exchanged-read : (table : List ℕ) {ts us vs : Symbols} {name other : List ℕ} {said : Option (Unit {0})} → IsName ts name (the word.With ∷ the word.Table ∷ us)
    → IsName us other vs → IsOptional IsValidation vs said [] → exchanged table ts ≡ Some (stmt.Exchange table name other, [])
unfolding exchanged with_table past_table validation
exchanged-read table {name = name} {other = other} n o v =
    and_then-is _ (name-read n) (and_then-is _ (name-read o)
    (ap (λ p. Some (stmt.Exchange table name other, p.1)) (optional-read IsValidation validation (λ u d. validation-read u d) refl v)))

-- ---- what is spelled is read: actions

module _ (table : List ℕ) (expr : Reader Expr) where
  truncate-word : {ts us : Symbols} {s : Reading Stmt} → IsVerb keyword.Truncate ts tt us → truncated table us ≡ s → action expr table ts ≡ s
  unfolding action by_word
  truncate-word (is_word is) e = if_read-is _ _ (verb-read (is_word is)) e

  coalesce-word : {ts us : Symbols} {s : Reading Stmt} → IsVerb keyword.Coalesce ts tt us → coalesced table us ≡ s → action expr table ts ≡ s
  unfolding action by_word
  coalesce-word (is_word is) e = if_not_read _ _ (verb-other keyword.Coalesce keyword.Truncate refl (is_word is)) (if_read-is _ _ (verb-read (is_word is)) e)

  reorganize-word : {ts us : Symbols} {s : Reading Stmt} → IsVerb keyword.Reorganize ts tt us → reorganized expr table us ≡ s → action expr table ts ≡ s
  unfolding action by_word
  reorganize-word (is_word is) e =
      if_not_read _ _ (verb-other keyword.Reorganize keyword.Truncate refl (is_word is))
      (if_not_read _ _ (verb-other keyword.Reorganize keyword.Coalesce refl (is_word is)) (if_read-is _ _ (verb-read (is_word is)) e))

  exchange-word : {ts us : Symbols} {s : Reading Stmt} → IsVerb keyword.Exchange ts tt us → exchanged table us ≡ s → action expr table ts ≡ s
  unfolding action by_word
  exchange-word (is_word is) e =
      if_not_read _ _ (verb-other keyword.Exchange keyword.Truncate refl (is_word is))
      (if_not_read _ _ (verb-other keyword.Exchange keyword.Coalesce refl (is_word is))
      (if_not_read _ _ (verb-other keyword.Exchange keyword.Reorganize refl (is_word is)) (if_read-is _ _ (verb-read (is_word is)) e)))

  remove-word : {ts us : Symbols} {s : Reading Stmt} → IsWord keyword.Remove ts tt us → removed table us ≡ s → action expr table ts ≡ s
  unfolding action by_word
  remove-word (is_word is) e =
      if_not_read _ _ (verb-other keyword.Remove keyword.Truncate refl (is_word is))
      (if_not_read _ _ (verb-other keyword.Remove keyword.Coalesce refl (is_word is))
      (if_not_read _ _ (verb-other keyword.Remove keyword.Reorganize refl (is_word is))
      (if_not_read _ _ (verb-other keyword.Remove keyword.Exchange refl (is_word is)) (if_read-is _ _ (word-read (is_word is)) e))))

  -- PARTITION is none of these words
  by-partitioned : {ts rest : Symbols} {spec : _} → IsPartBy ts spec rest → action expr table ts ≡ partitioned expr table ts
  unfolding action by_word verb worded
  by-partitioned (by_rule m n s ps) = refl

  module _ (P : Symbols → Type 0) (tail : (s : Symbol) (ts : Symbols) → P (s ∷ ts) → P ts)
      (exact : (ts rest : Symbols) (x : Expr) → IsExpr ts x rest → Ends rest → P ts → expr ts ≡ Some (x, rest)) where
    -- definitions begin with no word
    parts-no_count : {ts rest : Symbols} {parts : _} → InTuple IsPart ts parts rest → count ts ≡ None
    unfolding counted worded
    parts-no_count (in_parens l) = refl

    pub action-read : {ts : Symbols} {x : Stmt} → IsAction table ts x [] → P ts → action expr table ts ≡ Some (x, [])
    unfolding action added dropped reorganized reorganized_into truncated numbered
    action-read (rule.add_parts d) p =
        if_not_read _ _ (parts-no_count d) (mapped-is (stmt.AddParts table) (parts-read expr P tail exact d (tail _ _ (tail _ _ p))))
    action-read (rule.add_count c) p = if_read-is _ _ (counted-read c) refl
    action-read (rule.drop_parts d) p = mapped-is (stmt.DropParts table) (names-read d at_end)
    action-read (rule.truncate_all w) p = truncate-word w refl
    action-read (rule.truncate w d) p = truncate-word w (names-truncated table d ∙ mapped-is (λ names. stmt.Truncate table (Some names)) (names-read d at_end))
    action-read (rule.coalesce w) p = coalesce-word w refl
    action-read (rule.reorganize {names = names} w d e) p =
        let q = tail _ _ (after-keeps P tail (listed-after IsName (λ ts rest x n. name-after n) d) (tail _ _ (after-keeps P tail (word-after w) p))) in
        reorganize-word w (and_then-is (reorganized_into expr table) (names-read d at_into) (mapped-is (stmt.Reorganize table names) (parts-read expr P tail exact e q)))
    action-read (rule.exchange w n o v) p = exchange-word w (exchanged-read table n o v)
    action-read (rule.remove w v) p = remove-word w (mapped-is (λ u. stmt.RemoveParts table) (word-read v))
    action-read (rule.partition_by d) p = by-partitioned d ∙ mapped-is (stmt.PartitionBy table) (part_by-read expr P tail exact d p)
