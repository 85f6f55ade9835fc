-- What the rules spell of symbols within the limits is storable.
use Rattle.std.proofs.Common.{ℕ, ◌^◌, ◌≤◌, List, [], length, arith}
use Rattle.std.proofs.lemmas.List.Elements.{recursion_from_All}
use Rattle.pt_ast.specs.declared.statement.Stmt.{Stmt}
use Rattle.pt_ast.specs.Storable.{HasAtLeast}
use Rattle.pt_ast.specs.StorableStmt.{IsStorableStmt}
use Rattle.pt_token.specs.declared.token.Token.{Token}
use Rattle.pt_token.specs.Tokens.{IsLexed}
use Rattle.pt_parse_expr.specs.Grammar.{Symbols}
use Rattle.pt_parse_expr.specs.Limits.{IsDeep}
use Rattle.pt_parse_expr.specs.Symbols.{symbols}
use Rattle.pt_parse_expr.proofs.Shallow.{shallow}
use Rattle.pt_parse_expr.proofs.Storing.{IsStorableSymbol}
use Rattle.pt_parse_expr.proofs.StorableSymbols.{symbols-storable, symbols-count}
use Rattle.pt_parse_ddl.specs.declared.words.Keyword.{Keyword}
use Rattle.pt_parse_ddl.specs.Words.{IsName}
use Rattle.pt_parse_ddl.proofs.After.{name-after, word-after, listed-after}
use Rattle.pt_parse_ddl.proofs.Storing.{Given, given-tail, behind, listed-counted, count-stored, parts-stored, part_by-stored}
use Rattle.pt_parse_alter.specs.Statements.{IsVerb, AreNames, IsAction, IsStmt}
use Rattle.pt_parse_alter.specs.Statements as rule
use Rattle.pt_parse_alter.specs.Spelling.{SpellsStmt}

behind-verb : {k : Keyword} {ts rest : Symbols} → IsVerb k ts tt rest → Given ts → Given rest
behind-verb w g = given-tail _ _ (behind (word-after w) g)

names-counted : {ts rest : Symbols} {names : List (List ℕ)} → AreNames ts names rest → Given ts → HasAtLeast 1 names
names-counted d g = listed-counted IsName (λ ts rest x n. name-after n) d g

action-stored : {table : List ℕ} {ts rest : Symbols} {x : Stmt} → IsAction table ts x rest → Given ts → IsStorableStmt x
action-stored (rule.add_parts d) g = parts-stored _ _ _ d (given-tail _ _ (given-tail _ _ g))
action-stored (rule.add_count c) g = count-stored _ _ _ _ c (given-tail _ _ (given-tail _ _ g))
action-stored (rule.drop_parts d) g = names-counted d (given-tail _ _ (given-tail _ _ g))
action-stored (rule.truncate_all w) g = tt
action-stored (rule.truncate w d) g = names-counted d (behind-verb w g)
action-stored (rule.coalesce w) g = (behind-verb w g).each.0
action-stored (rule.reorganize w d e) g =
    let h = behind-verb w g in
    (names-counted d h, parts-stored _ _ _ e (given-tail _ _ (behind (listed-after IsName (λ ts rest x n. name-after n) d) h)))
action-stored (rule.exchange w n o v) g = tt
action-stored (rule.remove w v) g = tt
action-stored (rule.partition_by d) g = part_by-stored _ _ _ d g

statement-stored : {ts : Symbols} {x : Stmt} → IsStmt ts x [] → Given ts → IsStorableStmt x
statement-stored (rule.alter n d) g = action-stored d (behind (name-after n) (given-tail _ _ (given-tail _ _ g)))

-- what is read of a piece is storable
pub reading-stored : (piece : List ℕ) (tokens : List Token) → IsLexed piece tokens → length piece ≤ 2 ^ 20 → (IsDeep (symbols piece tokens) → ⊥)
    → (x : Stmt) → SpellsStmt (symbols piece tokens) x → IsStorableStmt x
reading-stored piece tokens lexed small level x d = statement-stored d (record {
  height = 0;
  shallow = shallow (symbols piece tokens) level;
  few = omega (arith, small, symbols-count lexed);
  each = recursion_from_All (λ s. IsStorableSymbol s) (symbols piece tokens) (symbols-storable lexed small);
})
