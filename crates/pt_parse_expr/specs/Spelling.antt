-- What symbols spell, and the longest reading from a place on.
use Rattle.std.specs.Prelude.{◌≡◌, ◌≤◌, ℕ, [], length, slice_range, IfOk, IfSome, Option, Some, None, Result, Ok, Err}
use Rattle.std.specs.declared.alloc.AllocError.{AllocError}
use Rattle.pt_ast.specs.declared.tree.Expr.{Expr}
use Rattle.pt_ast.specs.declared.tree.Cond.{Cond}
use Rattle.pt_parse_expr.specs.declared.fault.ParseFault.{ParseFault}
use Rattle.pt_parse_expr.specs.declared.fault.ParseFault.TheVariants.{TooDeep, LongName, Syntax, NoMemory}
use Rattle.pt_parse_expr.specs.Grammar.{Symbols, IsExpr, IsCond}

-- the symbols spell an expression: with it they are at their end
abbrev pub SpellsExpr : Symbols → Expr → Type 0
SpellsExpr symbols x = IsExpr symbols x []

abbrev pub SpellsCond : Symbols → Cond → Type 0
SpellsCond symbols c = IsCond symbols c []

-- The symbols from `at` up to and without `next` spell x, and from `at` on nothing is spelled that reaches further.
pub record IsLongest {A : Type 0} (spells : Symbols → A → Type 0) (symbols : Symbols) (at : ℕ) (x : A) (next : ℕ) : Type 0 where
  pub spelled : spells (slice_range symbols at next) x
  pub longest : (end : ℕ) (y : A) → at ≤ end → end ≤ length symbols → spells (slice_range symbols at end) y → end ≤ next
  pub within : (at ≤ next) × (next ≤ length symbols)

-- nothing is spelled from `at` on
abbrev pub IsUnspelled : {A : Type 0} → (Symbols → A → Type 0) → Symbols → ℕ → Type 0
IsUnspelled {A} spells symbols at = (end : ℕ) (y : A) → spells (slice_range symbols at end) y → ⊥

-- the refusal where nothing is spelled, or want of memory; no other
abbrev pub IsReadFault : {A : Type 0} → (Symbols → A → Type 0) → Symbols → ℕ → ParseFault → Type 0
IsReadFault spells symbols at Syntax = IsUnspelled spells symbols at
IsReadFault spells symbols at NoMemory = Unit {0}
IsReadFault spells symbols at TooDeep = ⊥
IsReadFault spells symbols at LongName = ⊥

-- A call that reads from `at` on gave the longest spelling with the place after it, or None exactly where nothing is spelled
-- there. Nothing is said where memory ran out.
abbrev pub GivesLongest : {A : Type 0} → (Symbols → A → Type 0) → Symbols → ℕ → Result (Option (A × ℕ)) AllocError → Type 0
GivesLongest spells symbols at (Ok (Some p)) = IsLongest spells symbols at p.0 p.1
GivesLongest spells symbols at (Ok None) = IsUnspelled spells symbols at
GivesLongest spells symbols at (Err e) = Unit {0}

-- a fact on what was read, if anything was
abbrev pub IfRead : {A : Type 0} → (A → Type 0) → Result (Option (A × ℕ)) AllocError → Type 0
IfRead P result = IfOk result (λ o. IfSome o (λ p. P p.0))

-- No symbols spell two expressions, and none two conditions.
pub record OneReading : Type 0 where
  pub expr : (symbols : Symbols) (x y : Expr) → SpellsExpr symbols x → SpellsExpr symbols y → x ≡ y
  pub cond : (symbols : Symbols) (c d : Cond) → SpellsCond symbols c → SpellsCond symbols d → c ≡ d
