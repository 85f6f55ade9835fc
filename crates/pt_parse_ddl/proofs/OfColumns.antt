-- Columns and options: what is read is spelled, what is spelled is read, and it is storable.
use Rattle.std.proofs.Common.{◌≡◌, ℕ, ℤ, Bool, true, false, List, ◌∷◌, Option, Some, None, refl, ap, ◌∙◌}
use Rattle.std.proofs.lemmas.Bool.{true≢false}
use Rattle.pt_ast.specs.declared.written.Literal.{Literal}
use Rattle.pt_ast.specs.declared.written.Literal.TheVariants as literal
use Rattle.pt_ast.specs.declared.written.KindSpec.{KindSpec}
use Rattle.pt_ast.specs.declared.written.KindSpec.TheVariants as kind
use Rattle.pt_ast.specs.declared.written.ColOption.{ColOption}
use Rattle.pt_ast.specs.declared.written.ColOption.TheVariants as option
use Rattle.pt_ast.specs.declared.tree.Cmp.TheVariants.{Eq}
use Rattle.pt_parse_expr.specs.declared.alphabet.Mark.TheVariants.{Open, Compare, Minus, Not, Null, Other, Plus}
use Rattle.pt_parse_expr.specs.declared.alphabet.Reserved.TheVariants as word
use Rattle.pt_parse_expr.specs.declared.alphabet.Symbol.{Symbol}
use Rattle.pt_parse_expr.specs.declared.alphabet.Symbol.TheVariants.{Fixed, Number, Text, Hex}
use Rattle.pt_parse_expr.specs.Grammar.{Symbols, IsSign}
use Rattle.pt_parse_expr.specs.Grammar as expr
use Rattle.pt_parse_expr.specs.Reader.{Reading, mapped, or_else}
use Rattle.pt_parse_expr.proofs.Sound.{Sound}
use Rattle.pt_parse_ddl.specs.declared.words.Keyword.{Keyword}
use Rattle.pt_parse_ddl.specs.declared.words.Keyword.TheVariants as keyword
use Rattle.pt_parse_ddl.specs.Words.{the, IsName, plain_name, quoted_name, IsWord, word as is_word}
use Rattle.pt_parse_ddl.specs.Lists.{IsOptional, AreRepeated, InParens, in_parens}
use Rattle.pt_parse_ddl.specs.Columns.{IsNumber, IsCharset, IsKind, IsLiteral, IsColOption, kept, IsEquals, IsEngine, IsComment, IsTableCharset, IsTableOption}
use Rattle.pt_parse_ddl.specs.Columns as rule
use Rattle.pt_parse_ddl.specs.Partitioning.{IsPartOption, part_engine, part_comment}
use Rattle.pt_parse_ddl.specs.Steps.{and_then, optional, named, numbered, worded}
use Rattle.pt_parse_ddl.specs.Steps as steps
use Rattle.pt_parse_ddl.specs.ColumnReader.{past_set, charset, widened, binary_chars, date_kind, kinded, dated, day, constant, past_key, past_null, past_text, not_null, primary, remark, col_option, col_options, equals, past_equals, equals_name, engine, comment, table_charset, part_option, undefaulted, table_option}
use Rattle.pt_parse_ddl.proofs.After.{After, first, later, ◌▸◌, UpTo, nothing, something, ◌▸*◌, name-after, word-after, optional-up_to, parens-after}
use Rattle.pt_parse_ddl.proofs.Sounding.{and_then-sound, mapped-sound, or_else-sound, name-sound, number-sound, word-sound, parens-sound, optional-sound}
use Rattle.pt_parse_ddl.proofs.Exact.{and_then-is, mapped-is, word-read, word-other, optional-read, Ends, at_comma, at_close, repeated-read}

-- ---- what each rule takes

number-after : {ts rest : Symbols} {n : ℤ} → IsNumber ts n rest → After ts rest
number-after rule.number = first

width-up_to : {ts rest : Symbols} {n : Option ℤ} → IsOptional (InParens IsNumber) ts n rest → UpTo ts rest
width-up_to d = optional-up_to (InParens IsNumber) (λ ts rest n e. parens-after IsNumber (λ ts rest n f. number-after f) e) d

charset-after : {ts rest : Symbols} → IsCharset ts tt rest → After ts rest
charset-after rule.character_set = later first
charset-after (rule.charset w) = word-after w

pub kind-after : {ts rest : Symbols} {k : KindSpec} → IsKind ts k rest → After ts rest
kind-after (rule.int w) = first ▸* width-up_to w
kind-after (rule.integer w) = first ▸* width-up_to w
kind-after (rule.big_int w) = first ▸* width-up_to w
kind-after (rule.date w) = word-after w
kind-after (rule.var_binary (in_parens rule.number)) = later (later (later first))
kind-after (rule.var_char (in_parens rule.number) c w) = later (later (later first)) ▸ charset-after c ▸ word-after w

literal-after : {ts rest : Symbols} {x : Literal} → IsLiteral ts x rest → After ts rest
literal-after rule.unsigned = first
literal-after (rule.signed s) = later first
literal-after rule.text = first
literal-after rule.hex = first
literal-after (rule.day w) = word-after w ▸ first
literal-after rule.null_literal = first

pub col_option-after : {ts rest : Symbols} {x : Option ColOption} → IsColOption ts x rest → After ts rest
col_option-after rule.not_null = later first
col_option-after rule.null = first
col_option-after (rule.default l) = later (literal-after l)
col_option-after rule.primary = later first
col_option-after rule.unique = first
col_option-after rule.unique_key = later first
col_option-after (rule.remark w) = word-after w ▸ first

equals-up_to : {ts rest : Symbols} → IsEquals ts tt rest → UpTo ts rest
equals-up_to rule.without = nothing
equals-up_to rule.equals = something first

engine-after : {ts rest : Symbols} → IsEngine ts tt rest → After ts rest
engine-after (rule.engine w e n) = word-after w ▸* equals-up_to e ▸ name-after n

comment-after : {ts rest : Symbols} → IsComment ts tt rest → After ts rest
comment-after (rule.comment w e) = word-after w ▸* equals-up_to e ▸ first

table_charset-after : {ts rest : Symbols} → IsTableCharset ts tt rest → After ts rest
table_charset-after (rule.table_charset c e n) = charset-after c ▸* equals-up_to e ▸ name-after n

pub part_option-after : {ts rest : Symbols} {u : Unit {0}} → IsPartOption ts u rest → After ts rest
part_option-after (part_engine d) = engine-after d
part_option-after (part_comment d) = comment-after d

pub table_option-after : {ts rest : Symbols} {u : Unit {0}} → IsTableOption ts u rest → After ts rest
table_option-after (rule.of_engine d) = engine-after d
table_option-after (rule.of_charset d) = table_charset-after d
table_option-after (rule.of_default_charset d) = later (table_charset-after d)
table_option-after (rule.of_comment d) = comment-after d

-- ---- what is read is spelled

past_set-sound : (ts : Symbols) → Sound IsCharset (the word.Character ∷ ts) (past_set ts)
unfolding past_set
past_set-sound (Fixed (Other word.Set) ∷ ts) = rule.character_set
past_set-sound _ = tt

charset_word-sound : (ts : Symbols) → Sound IsCharset ts (worded keyword.Charset ts)
charset_word-sound ts = as_unit (worded keyword.Charset ts) (word-sound keyword.Charset ts) where
  as_unit : (r : Reading (Unit {0})) → Sound (IsWord keyword.Charset) ts r → Sound IsCharset ts r
  as_unit (Some p) d = rule.charset d
  as_unit None d = tt

charset-sound : (ts : Symbols) → Sound IsCharset ts (charset ts)
unfolding charset
charset-sound (Fixed (Other word.Character) ∷ ts) = past_set-sound ts
charset-sound ts = charset_word-sound ts

width-sound : (ts : Symbols) → IsOptional (InParens IsNumber) ts (optional (steps.in_parens numbered) ts).0 (optional (steps.in_parens numbered) ts).1
width-sound ts = optional-sound (InParens IsNumber) (steps.in_parens numbered) (parens-sound IsNumber numbered number-sound) ts

binary_chars-sound : (ts us : Symbols) (n : ℤ) → InParens IsNumber ts n us → Sound IsKind (the word.VarChar ∷ ts) (binary_chars n us)
unfolding binary_chars
binary_chars-sound ts us n d =
    and_then-sound IsCharset IsKind us _ (charset us) _ (charset-sound us)
    (λ u vs c. mapped-sound (IsWord keyword.Binary) IsKind vs _ (worded keyword.Binary vs) (λ v. kind.Binary n) (word-sound keyword.Binary vs) (λ v rest w. rule.var_char d c w))

date-sound : (ts : Symbols) → Sound IsKind ts (date_kind ts)
date-sound ts = mapped-sound (IsWord keyword.Date) IsKind ts ts (worded keyword.Date ts) (λ u. kind.Date) (word-sound keyword.Date ts) (λ u rest w. rule.date w)

pub kind-sound : (ts : Symbols) → Sound IsKind ts (kinded ts)
unfolding kinded
kind-sound (Fixed (Other word.Int) ∷ ts) = rule.int (width-sound ts)
kind-sound (Fixed (Other word.Integer) ∷ ts) = rule.integer (width-sound ts)
kind-sound (Fixed (Other word.BigInt) ∷ ts) = rule.big_int (width-sound ts)
kind-sound (Fixed (Other word.VarBinary) ∷ ts) =
    mapped-sound (InParens IsNumber) IsKind ts _ (steps.in_parens numbered ts) kind.Binary (parens-sound IsNumber numbered number-sound ts) (λ n rest d. rule.var_binary d)
kind-sound (Fixed (Other word.VarChar) ∷ ts) =
    and_then-sound (InParens IsNumber) IsKind ts _ (steps.in_parens numbered ts) binary_chars (parens-sound IsNumber numbered number-sound ts) (λ n us d. binary_chars-sound ts us n d)
kind-sound ts = date-sound ts

signed-sound : (s : Symbol) (is_minus : Bool) (ts : Symbols) → IsSign s is_minus → Sound IsLiteral (s ∷ ts) (mapped (literal.Number is_minus) (numbered ts))
unfolding numbered
signed-sound s is_minus (Number n ∷ ts) d = rule.signed d
signed-sound s is_minus _ d = tt

dated-sound : (ts us : Symbols) → IsWord keyword.Date ts tt us → Sound IsLiteral ts (dated us)
unfolding dated
dated-sound ts (Text bytes ∷ us) d = rule.day d
dated-sound ts _ d = tt

day-sound : (ts : Symbols) → Sound IsLiteral ts (day ts)
day-sound ts = and_then-sound (IsWord keyword.Date) IsLiteral ts ts (worded keyword.Date ts) _ (word-sound keyword.Date ts) (λ u us d. dated-sound ts us d)

literal-sound : (ts : Symbols) → Sound IsLiteral ts (constant ts)
unfolding constant
literal-sound (Number n ∷ ts) = rule.unsigned
literal-sound (Fixed Plus ∷ ts) = signed-sound (Fixed Plus) false ts expr.plus
literal-sound (Fixed Minus ∷ ts) = signed-sound (Fixed Minus) true ts expr.minus
literal-sound (Text bytes ∷ ts) = rule.text
literal-sound (Hex bytes ∷ ts) = rule.hex
literal-sound (Fixed Null ∷ ts) = rule.null_literal
literal-sound ts = day-sound ts

not_null-sound : (ts : Symbols) → Sound IsColOption (Fixed Not ∷ ts) (not_null ts)
unfolding past_null
not_null-sound (Fixed Null ∷ ts) = rule.not_null
not_null-sound _ = tt

primary-sound : (ts : Symbols) → Sound IsColOption (the word.Primary ∷ ts) (primary ts)
unfolding past_key
primary-sound (Fixed (Other word.Key) ∷ ts) = rule.primary
primary-sound _ = tt

unique-sound : (ts : Symbols) → IsColOption (the word.Unique ∷ ts) (Some option.Unique) (optional past_key ts).1
unfolding optional past_key
unique-sound (Fixed (Other word.Key) ∷ ts) = rule.unique_key
unique-sound _ = rule.unique

remark_text-sound : (ts us : Symbols) → IsWord keyword.Comment ts tt us → Sound IsColOption ts (mapped (λ v. None) (past_text us))
unfolding past_text
remark_text-sound ts (Text bytes ∷ us) d = rule.remark d
remark_text-sound ts _ d = tt

remark-sound : (ts : Symbols) → Sound IsColOption ts (remark ts)
remark-sound ts = and_then-sound (IsWord keyword.Comment) IsColOption ts ts (worded keyword.Comment ts) _ (word-sound keyword.Comment ts) (λ u us d. remark_text-sound ts us d)

pub col_option-sound : (ts : Symbols) → Sound IsColOption ts (col_option ts)
unfolding col_option
col_option-sound (Fixed Not ∷ ts) = not_null-sound ts
col_option-sound (Fixed Null ∷ ts) = rule.null
col_option-sound (Fixed (Other word.Default) ∷ ts) =
    mapped-sound IsLiteral IsColOption ts _ (constant ts) (λ x. Some (option.Default x)) (literal-sound ts) (λ x rest d. rule.default d)
col_option-sound (Fixed (Other word.Primary) ∷ ts) = primary-sound ts
col_option-sound (Fixed (Other word.Unique) ∷ ts) = unique-sound ts
col_option-sound ts = remark-sound ts

equals-sound : (ts : Symbols) → IsEquals ts tt (past_equals ts)
unfolding optional equals
equals-sound (Fixed (Compare Eq) ∷ ts) = rule.equals
equals-sound _ = rule.without

engine_name-sound : (ts us : Symbols) → IsWord keyword.Engine ts tt us → Sound IsEngine ts (equals_name us)
unfolding equals_name
engine_name-sound ts us d =
    mapped-sound IsName IsEngine (past_equals us) ts (named (past_equals us)) (λ name. tt) (name-sound (past_equals us)) (λ name rest n. rule.engine d (equals-sound us) n)

engine-sound : (ts : Symbols) → Sound IsEngine ts (engine ts)
unfolding engine
engine-sound ts = and_then-sound (IsWord keyword.Engine) IsEngine ts ts (worded keyword.Engine ts) _ (word-sound keyword.Engine ts) (λ u us d. engine_name-sound ts us d)

comment_text-sound : (ts us vs : Symbols) → IsWord keyword.Comment ts tt us → IsEquals us tt vs → Sound IsComment ts (past_text vs)
unfolding past_text
comment_text-sound ts us (Text bytes ∷ vs) d e = rule.comment d e
comment_text-sound ts us _ d e = tt

comment-sound : (ts : Symbols) → Sound IsComment ts (comment ts)
unfolding comment
comment-sound ts =
    and_then-sound (IsWord keyword.Comment) IsComment ts ts (worded keyword.Comment ts) _ (word-sound keyword.Comment ts)
    (λ u us d. comment_text-sound ts us (past_equals us) d (equals-sound us))

charset_name-sound : (ts us : Symbols) → IsCharset ts tt us → Sound IsTableCharset ts (equals_name us)
unfolding equals_name
charset_name-sound ts us d =
    mapped-sound IsName IsTableCharset (past_equals us) ts (named (past_equals us)) (λ name. tt) (name-sound (past_equals us))
    (λ name rest n. rule.table_charset d (equals-sound us) n)

table_charset-sound : (ts : Symbols) → Sound IsTableCharset ts (table_charset ts)
unfolding table_charset
table_charset-sound ts = and_then-sound IsCharset IsTableCharset ts ts (charset ts) _ (charset-sound ts) (λ u us d. charset_name-sound ts us d)

-- the same reading, of a rule that has this one as a right side
under : (R S : Symbols → Unit {0} → Symbols → Type 0) (ts us : Symbols) → ((rest : Symbols) → R ts tt rest → S us tt rest) → (r : Reading (Unit {0}))
    → Sound R ts r → Sound S us r
under R S ts us step (Some p) d = step p.1 d
under R S ts us step None d = tt

pub part_option-sound : (ts : Symbols) → Sound IsPartOption ts (part_option ts)
unfolding part_option
part_option-sound ts =
    or_else-sound IsPartOption ts (engine ts) (comment ts) (under IsEngine IsPartOption ts ts (λ rest d. part_engine d) (engine ts) (engine-sound ts))
    (under IsComment IsPartOption ts ts (λ rest d. part_comment d) (comment ts) (comment-sound ts))

undefaulted-sound : (ts : Symbols) → Sound IsTableOption ts (undefaulted ts)
unfolding part_option
undefaulted-sound ts =
    or_else-sound IsTableOption ts (or_else (engine ts) (comment ts)) (table_charset ts)
    (or_else-sound IsTableOption ts (engine ts) (comment ts) (under IsEngine IsTableOption ts ts (λ rest d. rule.of_engine d) (engine ts) (engine-sound ts))
    (under IsComment IsTableOption ts ts (λ rest d. rule.of_comment d) (comment ts) (comment-sound ts)))
    (under IsTableCharset IsTableOption ts ts (λ rest d. rule.of_charset d) (table_charset ts) (table_charset-sound ts))

pub table_option-sound : (ts : Symbols) → Sound IsTableOption ts (table_option ts)
unfolding table_option
table_option-sound (Fixed (Other word.Default) ∷ ts) =
    under IsTableCharset IsTableOption ts (the word.Default ∷ ts) (λ rest d. rule.of_default_charset d) (table_charset ts) (table_charset-sound ts)
table_option-sound ts = undefaulted-sound ts

-- ---- what is spelled is read

charset-read : {ts rest : Symbols} → IsCharset ts tt rest → charset ts ≡ Some (tt, rest)
unfolding charset past_set
charset-read rule.character_set = refl
charset-read (rule.charset (is_word is)) = word-read (is_word is)

abbrev pub is_open : Symbols → Bool
is_open (Fixed Open ∷ ts) = true
is_open _ = false

no_width : (ts : Symbols) → is_open ts ≡ false → steps.in_parens numbered ts ≡ None
unfolding steps.in_parens
no_width (Fixed Open ∷ ts) e = absurd (true≢false e)
no_width _ e = refl

number_in-read : {ts rest : Symbols} {n : ℤ} → InParens IsNumber ts n rest → steps.in_parens numbered ts ≡ Some (n, rest)
unfolding steps.in_parens numbered
number_in-read (in_parens rule.number) = refl

widened-read : (k : KindSpec) {ts rest : Symbols} {n : Option ℤ} → IsOptional (InParens IsNumber) ts n rest → is_open rest ≡ false → widened k ts ≡ Some (k, rest)
widened-read k {ts} {rest} w ends =
    ap (λ p. Some (k, p.1)) (optional-read (InParens IsNumber) (steps.in_parens numbered) (λ n d. number_in-read d) (no_width rest ends) w)

pub kind-read : {ts rest : Symbols} {k : KindSpec} → IsKind ts k rest → is_open rest ≡ false → kinded ts ≡ Some (k, rest)
unfolding kinded binary_chars
kind-read (rule.int w) ends = widened-read kind.Int w ends
kind-read (rule.integer w) ends = widened-read kind.Int w ends
kind-read (rule.big_int w) ends = widened-read kind.BigInt w ends
kind-read (rule.date (is_word is)) ends = mapped-is (λ u. kind.Date) (word-read (is_word is))
kind-read (rule.var_binary d) ends = mapped-is kind.Binary (number_in-read d)
kind-read (rule.var_char {n} d c w) ends = and_then-is binary_chars (number_in-read d) (and_then-is _ (charset-read c) (mapped-is (λ v. kind.Binary n) (word-read w)))

literal-read : {ts rest : Symbols} {x : Literal} → IsLiteral ts x rest → constant ts ≡ Some (x, rest)
unfolding constant numbered dated
literal-read rule.unsigned = refl
literal-read (rule.signed expr.plus) = refl
literal-read (rule.signed expr.minus) = refl
literal-read rule.text = refl
literal-read rule.hex = refl
literal-read (rule.day (is_word is)) = and_then-is _ (word-read (is_word is)) refl
literal-read rule.null_literal = refl

abbrev pub is_key : Symbols → Bool
is_key (Fixed (Other word.Key) ∷ ts) = true
is_key _ = false

-- what may come behind a type and its options
pub record Goes (ts : Symbols) : Type 0 where
  pub no_key : is_key ts ≡ false
  pub no_open : is_open ts ≡ false

no_key-behind : (ts : Symbols) → is_key ts ≡ false → optional past_key ts ≡ (None, ts)
unfolding optional past_key
no_key-behind (Fixed (Other word.Key) ∷ ts) e = absurd (true≢false e)
no_key-behind _ e = refl

col_option-read : (ts rest : Symbols) (x : Option ColOption) → IsColOption ts x rest → Goes rest → col_option ts ≡ Some (x, rest)
unfolding col_option past_null past_key optional past_text
col_option-read _ _ _ rule.not_null g = refl
col_option-read _ _ _ rule.null g = refl
col_option-read _ _ _ (rule.default l) g = mapped-is (λ x. Some (option.Default x)) (literal-read l)
col_option-read _ _ _ rule.primary g = refl
col_option-read _ _ _ (rule.unique {rest}) g = ap (λ p. Some (Some option.Unique, p.1)) (no_key-behind rest g.no_key)
col_option-read _ _ _ rule.unique_key g = refl
col_option-read _ _ _ (rule.remark (is_word is)) g = and_then-is _ (word-read (is_word is)) refl

col_option-begins : (ts rest : Symbols) (x : Option ColOption) → IsColOption ts x rest → Goes ts
col_option-begins _ _ _ rule.not_null = record { no_key = refl; no_open = refl }
col_option-begins _ _ _ rule.null = record { no_key = refl; no_open = refl }
col_option-begins _ _ _ (rule.default l) = record { no_key = refl; no_open = refl }
col_option-begins _ _ _ rule.primary = record { no_key = refl; no_open = refl }
col_option-begins _ _ _ rule.unique = record { no_key = refl; no_open = refl }
col_option-begins _ _ _ rule.unique_key = record { no_key = refl; no_open = refl }
col_option-begins _ _ _ (rule.remark (is_word is)) = record { no_key = refl; no_open = refl }

ends-goes : {rest : Symbols} → Ends rest → Goes rest
ends-goes at_comma = record { no_key = refl; no_open = refl }
ends-goes at_close = record { no_key = refl; no_open = refl }

ends-no_option : {rest : Symbols} → Ends rest → col_option rest ≡ None
unfolding col_option worded
ends-no_option at_comma = refl
ends-no_option at_close = refl

pub col_options-read : {ts rest : Symbols} {options : List (Option ColOption)} → AreRepeated IsColOption ts options rest → Ends rest
    → (col_options ts ≡ (kept options, rest)) × (is_open ts ≡ false)
col_options-read d ends =
    let m = repeated-read (λ us. Unit {0}) (λ s us p. tt) IsColOption col_option (λ ts rest x d. col_option-after d) Goes col_option-begins
    (λ ts rest x d g p. col_option-read ts rest x d g) d (ends-goes ends) (ends-no_option ends) tt in
    (ap (λ p. (kept p.0, p.1)) m.0, m.1.no_open)

equals_name-read : {ts us rest : Symbols} {name : List ℕ} → IsEquals ts tt us → IsName us name rest → equals_name ts ≡ Some (tt, rest)
unfolding equals_name optional equals named
equals_name-read rule.without plain_name = refl
equals_name-read rule.without quoted_name = refl
equals_name-read rule.equals plain_name = refl
equals_name-read rule.equals quoted_name = refl

engine-read : {ts rest : Symbols} → IsEngine ts tt rest → engine ts ≡ Some (tt, rest)
unfolding engine
engine-read (rule.engine w e n) = and_then-is _ (word-read w) (equals_name-read e n)

equals_text-read : {ts rest : Symbols} {bytes : List ℕ} → IsEquals ts tt (Text bytes ∷ rest) → past_text (past_equals ts) ≡ Some (tt, rest)
unfolding optional equals past_text
equals_text-read rule.without = refl
equals_text-read rule.equals = refl

comment-read : {ts rest : Symbols} → IsComment ts tt rest → comment ts ≡ Some (tt, rest)
unfolding comment
comment-read (rule.comment w e) = and_then-is _ (word-read w) (equals_text-read e)

comment-no_engine : {ts rest : Symbols} → IsComment ts tt rest → engine ts ≡ None
unfolding engine
comment-no_engine (rule.comment w e) = ap (λ r. and_then r (λ u us. equals_name us)) (word-other keyword.Comment keyword.Engine refl w)

table_charset-read : {ts rest : Symbols} → IsTableCharset ts tt rest → table_charset ts ≡ Some (tt, rest)
unfolding table_charset
table_charset-read (rule.table_charset c e n) = and_then-is _ (charset-read c) (equals_name-read e n)

pub part_option-read : {ts rest : Symbols} {u : Unit {0}} → IsPartOption ts u rest → part_option ts ≡ Some (u, rest)
unfolding part_option
part_option-read (part_engine {ts} d) = ap (λ r. or_else r (comment ts)) (engine-read d)
part_option-read (part_comment {ts} d) = ap (λ r. or_else r (comment ts)) (comment-no_engine d) ∙ comment-read d

charset-no_part_option : {ts rest : Symbols} → IsCharset ts tt rest → part_option ts ≡ None
unfolding part_option engine comment worded
charset-no_part_option rule.character_set = refl
charset-no_part_option (rule.charset w) = no_others w where
  no_others : {ts rest : Symbols} → IsWord keyword.Charset ts tt rest → or_else (engine ts) (comment ts) ≡ None
  no_others {ts} w =
      ap (λ r. or_else (and_then r (λ u us. equals_name us)) (comment ts)) (word-other keyword.Charset keyword.Engine refl w)
      ∙ ap (λ r. and_then r (λ u us. past_text (past_equals us))) (word-other keyword.Charset keyword.Comment refl w)

charset-undefaulted : {ts rest : Symbols} → IsTableCharset ts tt rest → undefaulted ts ≡ Some (tt, rest)
charset-undefaulted {ts} (rule.table_charset c e n) =
    ap (λ r. or_else r (table_charset ts)) (charset-no_part_option c) ∙ table_charset-read (rule.table_charset c e n)

-- a word or CHARACTER begins it, and not DEFAULT
charset-plain : {ts rest : Symbols} → IsTableCharset ts tt rest → table_option ts ≡ undefaulted ts
unfolding table_option
charset-plain (rule.table_charset rule.character_set e n) = refl
charset-plain (rule.table_charset (rule.charset (is_word is)) e n) = refl

word-plain : {k : Keyword} {ts rest : Symbols} → IsWord k ts tt rest → table_option ts ≡ undefaulted ts
unfolding table_option
word-plain (is_word is) = refl

part-plain : {ts rest : Symbols} → IsPartOption ts tt rest → table_option ts ≡ undefaulted ts
part-plain (part_engine (rule.engine w e n)) = word-plain w
part-plain (part_comment (rule.comment w e)) = word-plain w

part-undefaulted : {ts rest : Symbols} → IsPartOption ts tt rest → table_option ts ≡ Some (tt, rest)
part-undefaulted {ts} d = part-plain d ∙ ap (λ r. or_else r (table_charset ts)) (part_option-read d)

pub table_option-read : {ts rest : Symbols} {u : Unit {0}} → IsTableOption ts u rest → table_option ts ≡ Some (u, rest)
unfolding table_option
table_option-read (rule.of_engine d) = part-undefaulted (part_engine d)
table_option-read (rule.of_charset d) = charset-plain d ∙ charset-undefaulted d
table_option-read (rule.of_default_charset d) = table_charset-read d
table_option-read (rule.of_comment d) = part-undefaulted (part_comment d)
