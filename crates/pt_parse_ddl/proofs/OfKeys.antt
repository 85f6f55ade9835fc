-- Columns and keys of a table: what is read is spelled, and what is spelled is read.
use Rattle.std.proofs.Common.{◌≡◌, ℕ, List, ◌∷◌, Option, Some, None, refl, ap, ◌∙◌}
use Rattle.pt_ast.specs.declared.table.Rank.{Rank}
use Rattle.pt_ast.specs.declared.table.Rank.TheVariants as rank
use Rattle.pt_ast.specs.declared.written.Item.{Item}
use Rattle.pt_ast.specs.declared.written.Item.TheVariants as item
use Rattle.pt_parse_expr.specs.declared.alphabet.Mark.TheVariants.{Other}
use Rattle.pt_parse_expr.specs.declared.alphabet.Reserved.TheVariants as word
use Rattle.pt_parse_expr.specs.declared.alphabet.Symbol.TheVariants.{Fixed}
use Rattle.pt_parse_expr.specs.Grammar.{Symbols}
use Rattle.pt_parse_expr.proofs.Sound.{Sound}
use Rattle.pt_parse_ddl.specs.Words.{the, IsName, plain_name, quoted_name}
use Rattle.pt_parse_ddl.specs.Lists.{IsOptional, absent, present, in_parens}
use Rattle.pt_parse_ddl.specs.Columns.{IsKind, IsColOption}
use Rattle.pt_parse_ddl.specs.Keys.{AreColumns, IsIndexWord, IsItem}
use Rattle.pt_parse_ddl.specs.Keys as rule
use Rattle.pt_parse_ddl.specs.Steps.{optional, tuple, named}
use Rattle.pt_parse_ddl.specs.ColumnReader.{kinded, col_option, past_key}
use Rattle.pt_parse_ddl.specs.KeyReader.{past_index, keyed_by, keyed, primary_key, with_options, column, table_item}
use Rattle.pt_parse_ddl.proofs.After.{After, later, ◌▸◌, UpTo, ◌▸*◌, ◌*▸◌, name-after, optional-up_to, repeated-up_to, tuple-after}
use Rattle.pt_parse_ddl.proofs.Sounding.{and_then-sound, mapped-sound, name-sound, optional-sound, repeated-sound, tuple-sound}
use Rattle.pt_parse_ddl.proofs.Exact.{and_then-is, mapped-is, name-read, Ends, tuple-read}
use Rattle.pt_parse_ddl.proofs.OfColumns.{kind-after, col_option-after, kind-sound, col_option-sound, kind-read, col_options-read}

-- ---- what each rule takes

pub columns-after : {ts rest : Symbols} {columns : List (List ℕ)} → AreColumns ts columns rest → After ts rest
columns-after d = tuple-after IsName (λ ts rest x n. name-after n) d

pub name-up_to : {ts rest : Symbols} {name : Option (List ℕ)} → IsOptional IsName ts name rest → UpTo ts rest
name-up_to d = optional-up_to IsName (λ ts rest x n. name-after n) d

pub item-after : {ts rest : Symbols} {x : Item} → IsItem ts x rest → After ts rest
item-after (rule.column n k os) = name-after n ▸ kind-after k ▸* repeated-up_to IsColOption (λ ts rest x d. col_option-after d) os
item-after (rule.primary_key c) = later (later (columns-after c))
item-after (rule.unique_item n c) = later (name-up_to n *▸ columns-after c)
item-after (rule.unique_index i n c) = later (later (name-up_to n *▸ columns-after c))
item-after (rule.plain_index i n c) = later (name-up_to n *▸ columns-after c)

-- ---- what is read is spelled

pub columns-sound : (ts : Symbols) → Sound AreColumns ts (tuple named ts)
columns-sound ts = tuple-sound IsName named name-sound ts

keyed-sound : (r : Rank) (ts us : Symbols)
    → ((name : Option (List ℕ)) (columns : List (List ℕ)) (vs rest : Symbols) → IsOptional IsName ts name vs → AreColumns vs columns rest → IsItem us (item.Key r name columns) rest)
    → Sound IsItem us (keyed r ts)
unfolding keyed
keyed-sound r ts us step =
    let n = optional named ts in
    mapped-sound AreColumns IsItem n.1 us (tuple named n.1) (item.Key r n.0) (columns-sound n.1)
    (λ columns rest c. step n.0 columns n.1 rest (optional-sound IsName named name-sound ts) c)

unique-sound : (ts : Symbols) → Sound IsItem (the word.Unique ∷ ts) (keyed rank.Unique (optional past_index ts).1)
unfolding optional past_index
unique-sound (Fixed (Other word.Key) ∷ ts) = keyed-sound rank.Unique ts _ (λ name columns vs rest n c. rule.unique_index rule.key_word n c)
unique-sound (Fixed (Other word.Index) ∷ ts) = keyed-sound rank.Unique ts _ (λ name columns vs rest n c. rule.unique_index rule.index_word n c)
unique-sound ts = keyed-sound rank.Unique ts _ (λ name columns vs rest n c. rule.unique_item n c)

primary_key-sound : (ts : Symbols) → Sound IsItem (the word.Primary ∷ ts) (primary_key ts)
unfolding primary_key past_key
primary_key-sound (Fixed (Other word.Key) ∷ ts) =
    mapped-sound AreColumns IsItem ts _ (tuple named ts) (item.Key rank.Primary None) (columns-sound ts) (λ columns rest c. rule.primary_key c)
primary_key-sound _ = tt

column-sound : (ts : Symbols) → Sound IsItem ts (column ts)
unfolding column
column-sound ts =
    and_then-sound IsName IsItem ts ts (named ts) _ (name-sound ts)
    (λ name us n. and_then-sound IsKind IsItem us ts (kinded us) (with_options name) (kind-sound us)
    (λ kind vs k. rule.column n k (repeated-sound IsColOption col_option col_option-sound vs)))

pub item-sound : (ts : Symbols) → Sound IsItem ts (table_item ts)
unfolding table_item
item-sound (Fixed (Other word.Primary) ∷ ts) = primary_key-sound ts
item-sound (Fixed (Other word.Unique) ∷ ts) = unique-sound ts
item-sound (Fixed (Other word.Key) ∷ ts) = keyed-sound rank.Plain ts _ (λ name columns vs rest n c. rule.plain_index rule.key_word n c)
item-sound (Fixed (Other word.Index) ∷ ts) = keyed-sound rank.Plain ts _ (λ name columns vs rest n c. rule.plain_index rule.index_word n c)
item-sound ts = column-sound ts

-- ---- what is spelled is read

pub columns-read : {ts rest : Symbols} {columns : List (List ℕ)} → AreColumns ts columns rest → tuple named ts ≡ Some (columns, rest)
columns-read d = tuple-read (λ us. Unit {0}) (λ s us p. tt) IsName named (λ ts rest x n. name-after n) (λ ts rest x n ends p. name-read n) d tt

name_behind : {ts us rest : Symbols} {name : Option (List ℕ)} {columns : List (List ℕ)} → IsOptional IsName ts name us → AreColumns us columns rest
    → (optional named ts ≡ (name, us)) × (optional past_index ts ≡ (None, ts))
unfolding optional named past_index
name_behind absent (in_parens l) = (refl, refl)
name_behind (present plain_name) c = (refl, refl)
name_behind (present quoted_name) c = (refl, refl)

keyed-read : (r : Rank) {ts us rest : Symbols} {name : Option (List ℕ)} {columns : List (List ℕ)} → IsOptional IsName ts name us → AreColumns us columns rest
    → keyed r ts ≡ Some (item.Key r name columns, rest)
unfolding keyed
keyed-read r {name} n c = ap (keyed_by r) (name_behind n c).0 ∙ mapped-is (item.Key r name) (columns-read c)

item-column : {ts rest : Symbols} {name : List ℕ} → IsName ts name rest → table_item ts ≡ column ts
unfolding table_item
item-column plain_name = refl
item-column quoted_name = refl

pub item-read : {ts rest : Symbols} {x : Item} → IsItem ts x rest → Ends rest → table_item ts ≡ Some (x, rest)
unfolding table_item column primary_key past_key past_index optional
item-read (rule.column {name} {kind} n k os) ends =
    let o = col_options-read os ends in
    item-column n ∙ and_then-is _ (name-read n) (and_then-is (with_options name) (kind-read k o.1) (ap (λ p. Some (item.Column name kind p.0, p.1)) o.0))
item-read (rule.primary_key c) ends = mapped-is (item.Key rank.Primary None) (columns-read c)
item-read (rule.unique_item n c) ends = ap (λ p. keyed rank.Unique p.1) (name_behind n c).1 ∙ keyed-read rank.Unique n c
item-read (rule.unique_index rule.key_word n c) ends = keyed-read rank.Unique n c
item-read (rule.unique_index rule.index_word n c) ends = keyed-read rank.Unique n c
item-read (rule.plain_index rule.key_word n c) ends = keyed-read rank.Plain n c
item-read (rule.plain_index rule.index_word n c) ends = keyed-read rank.Plain n c
