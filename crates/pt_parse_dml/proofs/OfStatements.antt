-- Statements: what is read is spelled, and what is spelled is read.
use Rattle.std.proofs.Common.{◌≡◌, if◌then◌else◌, Bool, true, false, List, [], ◌∷◌, Option, Some, refl, ap, ◌∙◌}
use Rattle.std.proofs.lemmas.Bool.{true≢false}
use Rattle.pt_ast.specs.declared.tree.Expr.{Expr}
use Rattle.pt_ast.specs.declared.tree.Cond.{Cond}
use Rattle.pt_ast.specs.declared.statement.Query.{Query}
use Rattle.pt_ast.specs.declared.statement.Stmt.{Stmt}
use Rattle.pt_ast.specs.declared.statement.Stmt.TheVariants as stmt
use Rattle.pt_parse_expr.specs.declared.alphabet.Mark.TheVariants.{Star, Other}
use Rattle.pt_parse_expr.specs.declared.alphabet.Reserved.TheVariants as word
use Rattle.pt_parse_expr.specs.declared.alphabet.Symbol.{Symbol}
use Rattle.pt_parse_expr.specs.declared.alphabet.Symbol.TheVariants.{Fixed, Word}
use Rattle.pt_parse_expr.specs.Grammar.{Symbols, IsExpr, IsCond}
use Rattle.pt_parse_expr.specs.Reader.{Reader, mapped}
use Rattle.pt_parse_expr.proofs.Sound.{Sound}
use Rattle.pt_parse_ddl.specs.Words.{the, plain_name, quoted_name}
use Rattle.pt_parse_ddl.specs.Lists.{AreListed, listed}
use Rattle.pt_parse_ddl.specs.Steps.{several}
use Rattle.pt_parse_ddl.proofs.After.{After, first, UpTo, nothing, something, after-keeps, up_to-keeps, expr-after, listed-after}
use Rattle.pt_parse_ddl.proofs.Sounding.{and_then-sound, mapped-sound, several-sound}
use Rattle.pt_parse_ddl.proofs.Exact.{and_then-is, mapped-is}
use Rattle.pt_parse_dml.specs.declared.tails.Source.{Source}
use Rattle.pt_parse_dml.specs.Rows.{IsTarget, target as a_target, without, into, AreNewRows, new_rows as some_rows, AreAssigns}
use Rattle.pt_parse_dml.specs.Tails.{IsSource, source as from_source}
use Rattle.pt_parse_dml.specs.Statements.{IsIgnore, is_partitions, IsPartitionsWord, AreItems, IsQuery, IsStmt}
use Rattle.pt_parse_dml.specs.Statements as rule
use Rattle.pt_parse_dml.specs.RowReader.{target, new_rows, assigns}
use Rattle.pt_parse_dml.specs.TailReader.{source}
use Rattle.pt_parse_dml.specs.Reader.{selected, deleted, updated, ignoring, past_partitions, some_items, items, with_items, query, whole_query, with_assigns, with_target, insert, update, statement}
use Rattle.pt_parse_dml.proofs.Stops.{Finishes, at_end, at_from, Stops, is_apart, expr-begins}
use Rattle.pt_parse_dml.proofs.Listing.{listed-read}
use Rattle.pt_parse_dml.proofs.OfRows.{target-after, target-sound, target-read, new_rows-sound, new_rows-read, assigns-after, assigns-sound, assigns-no_partitions, assigns-read}
use Rattle.pt_parse_dml.proofs.OfTails.{tail-sound, tail-opens, tail-read, source-sound, source-read}

pub items-after : {ts rest : Symbols} {xs : Option (List Expr)} → AreItems ts xs rest → After ts rest
items-after rule.all = first
items-after (rule.some l) = listed-after IsExpr (λ ts rest x d. expr-after d) l

pub ignore-up_to : {ts rest : Symbols} {ignores : Bool} → IsIgnore ts ignores rest → UpTo ts rest
ignore-up_to rule.strictly = nothing
ignore-up_to rule.ignore = something first

pub said-up_to : {ts rest : Symbols} → IsPartitionsWord ts tt rest → UpTo ts rest
said-up_to rule.unsaid = nothing
said-up_to (rule.said is) = something first

-- a query behind its SELECT
abbrev IsSelected : Symbols → Query → Symbols → Type 0
IsSelected ts q rest = IsQuery (the word.Select ∷ ts) q rest

-- ---- what is read is spelled

ignoring-sound : (ts : Symbols) → IsIgnore ts (ignoring ts).0 (ignoring ts).1
unfolding ignoring
ignoring-sound (Fixed (Other word.Ignore) ∷ ts) = rule.ignore
ignoring-sound _ = rule.strictly

past_partitions-sound : (ts : Symbols) → IsPartitionsWord ts tt (past_partitions ts)
unfolding past_partitions
past_partitions-sound (Word name ∷ ts) = by_test (is_partitions name) refl where
  by_test : (b : Bool) → is_partitions name ≡ b → IsPartitionsWord (Word name ∷ ts) tt (if b then ts else Word name ∷ ts)
  by_test true is = rule.said is
  by_test false _ = rule.unsaid
past_partitions-sound _ = rule.unsaid

module _ (expr : Reader Expr) (sound : (ts : Symbols) → Sound IsExpr ts (expr ts)) (cond : Reader Cond) (cond_sound : (ts : Symbols) → Sound IsCond ts (cond ts)) where
  some_items-sound : (ts : Symbols) → Sound AreItems ts (some_items expr cond ts)
  some_items-sound ts = mapped-sound (AreListed IsExpr) AreItems ts ts (several expr ts) (λ xs. Some xs) (several-sound IsExpr expr sound ts) (λ xs rest d. rule.some d)

  items-sound : (ts : Symbols) → Sound AreItems ts (items expr cond ts)
  unfolding items
  items-sound (Fixed Star ∷ ts) = rule.all
  items-sound ts = some_items-sound ts

  query-sound : (ts : Symbols) → Sound IsSelected ts (query expr cond ts)
  unfolding query
  query-sound ts =
      and_then-sound AreItems IsSelected ts ts (items expr cond ts) (with_items expr cond) (items-sound ts)
      (λ xs us d. mapped-sound IsSource IsSelected us ts (source cond us) (selected xs) (source-sound cond cond_sound us) (λ from rest e. rule.query d e))

  whole_query-sound : (ts : Symbols) → Sound IsQuery ts (whole_query expr cond ts)
  unfolding whole_query
  whole_query-sound (Fixed (Other word.Select) ∷ ts) = query-sound ts
  whole_query-sound _ = tt

  update-sound : (ts : Symbols) → Sound IsStmt (the word.Update ∷ ts) (update expr cond ts)
  unfolding update
  update-sound ts =
      and_then-sound IsTarget IsStmt ts _ (target ts) (with_target expr cond) (target-sound ts)
      (λ on us t. and_then-sound AreAssigns IsStmt us _ (assigns expr us) (with_assigns expr cond on) (assigns-sound expr sound us)
      (λ xs vs a. rule.update t a (tail-sound cond cond_sound vs)))

  pub statement-sound : (ts : Symbols) → Sound IsStmt ts (statement expr cond ts)
  unfolding statement
  statement-sound (Fixed (Other word.Insert) ∷ ts) =
      let p = ignoring ts in
      mapped-sound AreNewRows IsStmt p.1 _ (new_rows expr p.1) (stmt.Insert p.0) (new_rows-sound expr sound p.1) (λ new rest d. rule.insert (ignoring-sound ts) d)
  statement-sound (Fixed (Other word.Replace) ∷ ts) =
      mapped-sound AreNewRows IsStmt ts _ (new_rows expr ts) stmt.Replace (new_rows-sound expr sound ts) (λ new rest d. rule.replace d)
  statement-sound (Fixed (Other word.Update) ∷ ts) = update-sound ts
  statement-sound (Fixed (Other word.Delete) ∷ ts) =
      mapped-sound IsSource IsStmt ts _ (source cond ts) deleted (source-sound cond cond_sound ts) (λ from rest d. rule.delete d)
  statement-sound (Fixed (Other word.Select) ∷ ts) =
      mapped-sound IsSelected IsStmt ts _ (query expr cond ts) stmt.Select (query-sound ts) (λ q rest d. rule.select d)
  statement-sound (Fixed (Other word.Explain) ∷ ts) =
      let us = past_partitions ts in
      mapped-sound IsQuery IsStmt us _ (whole_query expr cond us) stmt.Explain (whole_query-sound us) (λ q rest d. rule.explain (past_partitions-sound ts) d)
  statement-sound _ = tt

-- ---- what is spelled is read

-- IGNORE is no name
ignoring-read : {ts us rest : Symbols} {ignores : Bool} {new : _} → IsIgnore ts ignores us → AreNewRows us new rest → ignoring ts ≡ (ignores, us)
unfolding ignoring
ignoring-read rule.strictly (some_rows into t c r) = refl
ignoring-read rule.strictly (some_rows without (a_target plain_name p) c r) = refl
ignoring-read rule.strictly (some_rows without (a_target quoted_name p) c r) = refl
ignoring-read rule.ignore d = refl

past_partitions-read : {ts us rest : Symbols} {q : Query} → IsPartitionsWord ts tt us → IsQuery us q rest → past_partitions ts ≡ us
unfolding past_partitions
past_partitions-read rule.unsaid (rule.query d s) = refl
past_partitions-read (rule.said {rest} {name} is) q = ap (λ (b : Bool). if b then rest else Word name ∷ rest) is

module _ (expr : Reader Expr) (cond : Reader Cond) (P : Symbols → Type 0) (less : (s : Symbol) (ts : Symbols) → P (s ∷ ts) → P ts)
    (exact : (ts rest : Symbols) (x : Expr) → IsExpr ts x rest → Stops rest → P ts → expr ts ≡ Some (x, rest))
    (cond_exact : (ts rest : Symbols) (c : Cond) → IsCond ts c rest → Stops rest → P ts → cond ts ≡ Some (c, rest)) where
  no_star : (ts : Symbols) → is_apart ts ≡ false → items expr cond ts ≡ some_items expr cond ts
  unfolding items
  no_star (Fixed Star ∷ ts) e = absurd (true≢false e)
  no_star _ e = refl

  listed-begins : {ts rest : Symbols} {xs : List Expr} → AreListed IsExpr ts xs rest → is_apart ts ≡ false
  listed-begins (listed d more) = expr-begins d

  items-read : {ts rest : Symbols} {xs : Option (List Expr)} → AreItems ts xs rest → Finishes rest → P ts → items expr cond ts ≡ Some (xs, rest)
  unfolding items
  items-read rule.all f p = refl
  items-read (rule.some {ts = ts} l) f p =
      no_star ts (listed-begins l) ∙ mapped-is (λ xs. Some xs) (listed-read P less IsExpr expr (λ ts rest x d. expr-after d) exact l f p)

  source-opens : {ts rest : Symbols} {from : _} → IsSource ts from rest → Finishes ts
  source-opens (from_source t d) = at_from

  query-read : {ts us : Symbols} {xs : Option (List Expr)} {from : Source} → AreItems ts xs us → IsSource us from [] → P ts
      → query expr cond ts ≡ Some (selected xs from, [])
  unfolding query
  query-read {xs = xs} d s p =
      and_then-is (with_items expr cond) (items-read d (source-opens s) p)
      (mapped-is (selected xs) (source-read cond P less cond_exact s (after-keeps P less (items-after d) p)))

  whole_query-read : {ts : Symbols} {q : Query} → IsQuery ts q [] → P ts → whole_query expr cond ts ≡ Some (q, [])
  unfolding whole_query
  whole_query-read (rule.query d s) p = query-read d s (less _ _ p)

  pub statement-read : {ts : Symbols} {x : Stmt} → IsStmt ts x [] → P ts → statement expr cond ts ≡ Some (x, [])
  unfolding statement update
  statement-read (rule.insert {ignoring = ignores} i d) p =
      ap (insert expr cond) (ignoring-read i d)
      ∙ mapped-is (stmt.Insert ignores) (new_rows-read expr P less exact d at_end (up_to-keeps P less (ignore-up_to i) (less _ _ p)))
  statement-read (rule.replace d) p = mapped-is stmt.Replace (new_rows-read expr P less exact d at_end (less _ _ p))
  statement-read (rule.update {on = on} {xs = xs} t a d) p =
      let q = after-keeps P less (target-after t) (less _ _ p) in
      and_then-is (with_target expr cond) (target-read t (assigns-no_partitions a))
      (and_then-is (with_assigns expr cond on) (assigns-read expr P less exact a (tail-opens d) q)
      (ap (updated on xs) (tail-read cond P less cond_exact d (after-keeps P less (assigns-after a) q))))
  statement-read (rule.delete s) p = mapped-is deleted (source-read cond P less cond_exact s (less _ _ p))
  statement-read (rule.select (rule.query d s)) p = mapped-is stmt.Select (query-read d s (less _ _ p))
  statement-read (rule.explain w d) p =
      ap (λ (us : Symbols). mapped stmt.Explain (whole_query expr cond us)) (past_partitions-read w d)
      ∙ mapped-is stmt.Explain (whole_query-read d (up_to-keeps P less (said-up_to w) (less _ _ p)))
