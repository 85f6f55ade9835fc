-- What the reading of symbols, from a place on, says of the symbols.
use Rattle.std.proofs.Common.{◌≡◌, ℕ, ◌+◌, ◌<◌, ◌≤◌, [], length, drop, slice_range, Option, Some, None, Result, Ok, Err, IfOk, arith, length-drop, length-take, ◌-◌}
use Rattle.std.specs.declared.alloc.AllocError.{AllocError}
use Rattle.pt_ast.specs.declared.tree.Expr.{Expr}
use Rattle.pt_ast.specs.declared.tree.Cond.{Cond}
use Rattle.pt_ast.specs.StorableExpr.{IsStorableExpr}
use Rattle.pt_ast.specs.StorableCond.{IsStorableCond}
use Rattle.pt_parse_expr.specs.Grammar.{Symbols, IsExpr, IsCond}
use Rattle.pt_parse_expr.specs.Limits.{AreStorable, IsDeep, IsShallow}
use Rattle.pt_parse_expr.specs.Spelling.{SpellsExpr, SpellsCond, GivesLongest, IfRead, IsLongest, IsUnspelled}
use Rattle.pt_parse_expr.specs.Placing.{Reads, Reaches}
use Rattle.pt_parse_expr.specs.Reader.{sum, either, found, as_cond}
use Rattle.pt_parse_expr.proofs.Shallow.{shallow, shallow-drop}
use Rattle.pt_parse_expr.proofs.Sound.{expr-sound, cond-sound}
use Rattle.pt_parse_expr.proofs.Frame.{expr-framed, cond-framed}
use Rattle.pt_parse_expr.proofs.Levels.{sum_on, cond_on}
use Rattle.pt_parse_expr.proofs.Complete.{expr-covers, cond-covers}
use Rattle.pt_parse_expr.proofs.Places.{extended, longest, unspelled}
use Rattle.pt_parse_expr.proofs.Storing.{Within, within-drop, expr-within, cond-within}

-- no symbols spell nothing, so nothing is spelled from a place behind the end
module _ {A : Type 0} (R : Symbols → A → Symbols → Type 0) (eats : (ts rest : Symbols) (x : A) → R ts x rest → length rest < length ts) (ts : Symbols) (at : ℕ) where
  pub nothing_behind : length ts < at → IsUnspelled (λ us y. R us y []) ts at
  nothing_behind past end y d =
      let some = eats (slice_range ts at end) [] y d in
      absurd (omega (arith, some, length-take (end - at) (drop at ts), length-drop at ts))

module _ (ts : Symbols) (at : ℕ) (level : IsDeep ts → ⊥) where
  abbrev room : IsShallow 64 0 (drop at ts)
  room = shallow-drop 64 0 at ts (shallow ts level)

  pub expr-longest : (x : Expr) (next : ℕ) → sum (found 64) (drop at ts) ≡ Some (x, drop next ts) → at ≤ next → next ≤ length ts → IsLongest SpellsExpr ts at x next
  expr-longest x next is low high =
      longest IsExpr (λ us rest y. expr-framed) sum_on ts at (sum (found 64) (drop at ts)) (expr-sound 64 (drop at ts))
      (λ y rest d. expr-covers d 64 64 0 (omega arith) room) x next is low high

  pub expr-unspelled : sum (found 64) (drop at ts) ≡ None → IsUnspelled SpellsExpr ts at
  expr-unspelled is =
      unspelled IsExpr (λ us rest y. expr-framed) sum_on ts at (sum (found 64) (drop at ts)) (expr-sound 64 (drop at ts))
      (λ y rest d. expr-covers d 64 64 0 (omega arith) room) is

  pub cond-longest : (x : Cond) (next : ℕ) → as_cond (either (found 64) (drop at ts)) ≡ Some (x, drop next ts) → at ≤ next → next ≤ length ts
      → IsLongest SpellsCond ts at x next
  cond-longest x next is low high =
      longest IsCond (λ us rest y. cond-framed) cond_on ts at (as_cond (either (found 64) (drop at ts))) (cond-sound 64 (drop at ts))
      (λ y rest d. cond-covers d 64 64 0 (omega arith) room) x next is low high

  pub cond-unspelled : as_cond (either (found 64) (drop at ts)) ≡ None → IsUnspelled SpellsCond ts at
  cond-unspelled is =
      unspelled IsCond (λ us rest y. cond-framed) cond_on ts at (as_cond (either (found 64) (drop at ts))) (cond-sound 64 (drop at ts))
      (λ y rest d. cond-covers d 64 64 0 (omega arith) room) is

  -- ---- what a call gives

  pub expr-given : (r : Result (Option (Expr × ℕ)) AllocError) → Reads ts r (sum (found 64) (drop at ts)) → Reaches (at + 1) ts r → GivesLongest SpellsExpr ts at r
  expr-given (Ok None) is place = expr-unspelled is
  expr-given (Ok (Some p)) is place = expr-longest p.0 p.1 is (omega (arith, place.0)) place.1
  expr-given (Err e) is place = tt

  pub cond-given : (r : Result (Option (Cond × ℕ)) AllocError) → Reads ts r (as_cond (either (found 64) (drop at ts))) → Reaches (at + 1) ts r → GivesLongest SpellsCond ts at r
  cond-given (Ok None) is place = cond-unspelled is
  cond-given (Ok (Some p)) is place = cond-longest p.0 p.1 is (omega (arith, place.0)) place.1
  cond-given (Err e) is place = tt

  module _ (all : AreStorable ts) where
    abbrev room_from : Within 64 (drop at ts)
    room_from = within-drop at ts (shallow ts level) all.few all.each

    pub expr-kept : (r : Result (Option (Expr × ℕ)) AllocError) → GivesLongest SpellsExpr ts at r → IfRead IsStorableExpr r
    expr-kept (Ok None) l = tt
    expr-kept (Ok (Some p)) l = expr-within (extended IsExpr (λ us rest y. expr-framed) ts at p.1 p.0 l.within.0 l.spelled) room_from
    expr-kept (Err e) l = tt

    pub cond-kept : (r : Result (Option (Cond × ℕ)) AllocError) → GivesLongest SpellsCond ts at r → IfRead IsStorableCond r
    cond-kept (Ok None) l = tt
    cond-kept (Ok (Some p)) l = cond-within (extended IsCond (λ us rest y. cond-framed) ts at p.1 p.0 l.within.0 l.spelled) room_from
    cond-kept (Err e) l = tt

-- what holds where it succeeded
pub if_ok_then : {A E : Type 0} {P Q : A → Type 0} (r : Result A E) → ((x : A) → P x → Q x) → IfOk r P → IfOk r Q
if_ok_then (Ok x) then h = then x h
if_ok_then (Err e) then h = tt
