-- What a function that reads from a place on answers. (In the shape of the code.)
use Rattle.std.specs.Prelude.{◌≡◌, ◌≤◌, ℕ, suc, List, [], ◌∷◌, length, drop, Option, Some, None, Result, Ok, Err, Bool, true, false}
use Rattle.std.specs.declared.alloc.AllocError.{AllocError}
use Rattle.std.specs.declared.alloc.Global.{Global}
use denote.Bor.{Bor}
use Rattle.pt_ast.specs.declared.tree.Expr.{Expr}
use Rattle.pt_ast.specs.declared.tree.Cond.{Cond}
use Rattle.pt_parse_expr.specs.declared.alphabet.Symbol.{Symbol}
use Rattle.pt_parse_expr.specs.declared.alphabet.Symbol.TheVariants.{Fixed}
use Rattle.pt_parse_expr.specs.declared.alphabet.Mark.TheVariants.{Close}
use Rattle.pt_parse_expr.specs.declared.found.Found.{Found}
use Rattle.pt_parse_expr.specs.declared.found.Found.TheVariants.{Value, Test}
use Rattle.pt_parse_expr.specs.Grammar.{Symbols}
use Rattle.pt_parse_expr.specs.Reader.{Reading, found}

-- the reading of a list, where what comes after is named by its place, unless memory ran out
abbrev pub Reads : {A : Type 0} → Symbols → Result (Option (A × ℕ)) AllocError → Reading A → Type 0
Reads all (Ok None) reading = reading ≡ None
Reads all (Ok (Some p)) reading = reading ≡ Some (p.0, drop p.1 all)
Reads all (Err e) reading = Unit {0}

-- the place after what was read is at least this one
abbrev pub Reaches : {A : Type 0} → ℕ → Symbols → Result (Option (A × ℕ)) AllocError → Type 0
Reaches least all (Ok None) = Unit {0}
Reaches least all (Ok (Some p)) = (least ≤ p.1) × (p.1 ≤ length all)
Reaches least all (Err e) = Unit {0}

-- a list that was read, and the place after it
abbrev pub ReadsMany : {A : Type 0} → Symbols → List A → ℕ → List A × Symbols → Type 0
ReadsMany all items at reading = reading ≡ (items, drop at all)

-- a function value that reads what stands in parentheses, to a depth
pub record Nests (depth : ℕ) (pre : Global → Bor Symbols → ℕ → ℕ → Type 0)
    (post : Global → Bor Symbols → ℕ → ℕ → Result (Option (Found × ℕ)) AllocError → Type 0) : Type 0 where
  pub callable : (alloc : Global) (symbols : Bor Symbols) (at : ℕ) → at ≤ length symbols.now → pre alloc symbols depth at
  pub reads : (alloc : Global) (symbols : Bor Symbols) (at : ℕ) (r : Result (Option (Found × ℕ)) AllocError) → post alloc symbols depth at r
      → Reads symbols.now r (found depth (drop at symbols.now))
  pub place : (alloc : Global) (symbols : Bor Symbols) (at : ℕ) (r : Result (Option (Found × ℕ)) AllocError) → post alloc symbols depth at r
      → Reaches (suc at) symbols.now r

-- the first of the symbols, and those after it
abbrev pub Peeks : Option Symbol → List Symbol → List Symbol → Type 0
Peeks None now next = now ≡ []
Peeks (Some x) now next = now ≡ x ∷ next

abbrev pub lent : Option (Bor Symbol) → Option Symbol
lent None = None
lent (Some s) = Some s.now

abbrev pub expr_at : Found → ℕ → Option (Expr × ℕ)
expr_at (Value x) at = Some (x, at)
expr_at (Test c) at = None

abbrev pub cond_at : Found → ℕ → Option (Cond × ℕ)
cond_at (Value x) at = None
cond_at (Test c) at = Some (c, at)

abbrev pub is_close : List Symbol → Bool
is_close (Fixed Close ∷ rest) = true
is_close _ = false

-- whether a closing parenthesis comes next: what it closes has been read or not
abbrev pub Closes : Bool → List Symbol → List Symbol → Type 0
Closes true now next = now ≡ Fixed Close ∷ next
Closes false now next = is_close now ≡ false

-- the same of functions that take no memory
abbrev pub ReadsSome : {A : Type 0} → Symbols → Option (A × ℕ) → Reading A → Type 0
ReadsSome all None reading = reading ≡ None
ReadsSome all (Some p) reading = reading ≡ Some (p.0, drop p.1 all)

abbrev pub ReachesSome : {A : Type 0} → ℕ → Symbols → Option (A × ℕ) → Type 0
ReachesSome least all None = Unit {0}
ReachesSome least all (Some p) = (least ≤ p.1) × (p.1 ≤ length all)
