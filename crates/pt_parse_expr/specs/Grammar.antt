-- The grammar of expressions and conditions. `IsExpr ts x rest` says that the symbols ts begin with a spelling of x, and that
-- rest is what comes after it. Each rule has one case for each right side.
--
--     cond    = conj {OR conj}
--     conj    = neg {AND neg}
--     neg     = [NOT] test
--     test    = ( cond ) | expr cmp expr | expr IS [NOT] NULL
--             | expr [NOT] IN ( expr {, expr} ) | expr [NOT] BETWEEN expr AND expr
--     cmp     = "=" | "<>" | "<" | "<=" | ">" | ">="
--     expr    = term {(+ | -) term}
--     term    = factor {(* | DIV | % | MOD) factor}
--     factor  = [+ | -] primary
--     primary = n | s | Hex | DATE s | NULL | name | fn ( expr ) | MOD ( expr , expr ) | ( expr )
--
-- After the manual's topics "Expression Syntax", "Arithmetic Operators" and "Comparison Functions and Operators". Parentheses and
-- a leading plus make no node; `%`, MOD and the function MOD make the same one. No name stands before a parenthesis: since no
-- rule has a parenthesis behind an expression, a word there is either the name of a function or the last of its expression.
use Rattle.std.specs.Prelude.{◌≡◌, ℕ, ℤ, List, [], ◌∷◌, Bool, true, false, Some, codes}
use Rattle.std.specs.Str.{str_eq_ignore_ascii_case}
use Rattle.pt_value.specs.Text.{day_of}
use Rattle.pt_ast.specs.declared.tree.Cmp.{Cmp}
use Rattle.pt_ast.specs.declared.tree.Op.{Op}
use Rattle.pt_ast.specs.declared.tree.Op.TheVariants as op
use Rattle.pt_ast.specs.declared.tree.Func.{Func}
use Rattle.pt_ast.specs.declared.tree.Expr.{Expr}
use Rattle.pt_ast.specs.declared.tree.Expr.TheVariants as tree
use Rattle.pt_ast.specs.declared.tree.Cond.{Cond}
use Rattle.pt_ast.specs.declared.tree.Cond.TheVariants as cond
use Rattle.pt_parse_expr.specs.declared.alphabet.Mark.TheVariants.{Open, Close, Comma, Plus, Minus, Star, Percent, Compare, And, Between, Div, In, Is, Mod, Not, Null, Or}
use Rattle.pt_parse_expr.specs.declared.alphabet.Symbol.{Symbol}
use Rattle.pt_parse_expr.specs.declared.alphabet.Symbol.TheVariants.{Fixed, Word, Quoted, Number, Text, Hex}
use Rattle.pt_parse_expr.specs.Symbols.{func_of}

abbrev pub Symbols : Type 0
Symbols = List Symbol

-- the parts of a sum, each true where it is taken away
abbrev pub Terms : Type 0
Terms = List (Bool × Expr)

-- the later parts of a product, each with the operator before it
abbrev pub Factors : Type 0
Factors = List (Op × Expr)

-- ---- one part alone makes no node

abbrev pub sum_of : Expr → Terms → Expr
sum_of x [] = x
sum_of x (p ∷ ps) = tree.Sum ((false, x) ∷ p ∷ ps)

abbrev pub product_of : Expr → Factors → Expr
product_of x [] = x
product_of x (p ∷ ps) = tree.Product x (p ∷ ps)

abbrev pub and_of : Cond → List Cond → Cond
and_of c [] = c
and_of c (d ∷ ds) = cond.And (c ∷ d ∷ ds)

abbrev pub or_of : Cond → List Cond → Cond
or_of c [] = c
or_of c (d ∷ ds) = cond.Or (c ∷ d ∷ ds)

-- ---- signs and operators

-- true for minus
pub data IsSign : Symbol → Bool → Type 0 where
  plus : IsSign (Fixed Plus) false
  minus : IsSign (Fixed Minus) true

pub data IsOp : Symbol → Op → Type 0 where
  times : IsOp (Fixed Star) op.Times
  div : IsOp (Fixed Div) op.Div
  percent : IsOp (Fixed Percent) op.Mod
  modulo : IsOp (Fixed Mod) op.Mod

-- the word DATE, in any case of its letters
abbrev pub is_date : List ℕ → Bool
is_date name = str_eq_ignore_ascii_case name (codes "DATE")

-- ---- expressions

mutual
  pub data IsExpr : Symbols → Expr → Symbols → Type 0 where
    sum : {ts us rest : Symbols} {x : Expr} {ps : Terms} → IsTerm ts x us → AreTerms us ps rest → IsExpr ts (sum_of x ps) rest

  pub data AreTerms : Symbols → Terms → Symbols → Type 0 where
    no_term : {ts : Symbols} → AreTerms ts [] ts
    term : {s : Symbol} {ts us rest : Symbols} {is_minus : Bool} {x : Expr} {ps : Terms} → IsSign s is_minus → IsTerm ts x us → AreTerms us ps rest
        → AreTerms (s ∷ ts) ((is_minus, x) ∷ ps) rest

  pub data IsTerm : Symbols → Expr → Symbols → Type 0 where
    product : {ts us rest : Symbols} {x : Expr} {ps : Factors} → IsFactor ts x us → AreFactors us ps rest → IsTerm ts (product_of x ps) rest

  pub data AreFactors : Symbols → Factors → Symbols → Type 0 where
    no_factor : {ts : Symbols} → AreFactors ts [] ts
    factor : {s : Symbol} {ts us rest : Symbols} {o : Op} {x : Expr} {ps : Factors} → IsOp s o → IsFactor ts x us → AreFactors us ps rest
        → AreFactors (s ∷ ts) ((o, x) ∷ ps) rest

  pub data IsFactor : Symbols → Expr → Symbols → Type 0 where
    bare : {ts rest : Symbols} {x : Expr} → IsPrimary ts x rest → IsFactor ts x rest
    positive : {ts rest : Symbols} {x : Expr} → IsPrimary ts x rest → IsFactor (Fixed Plus ∷ ts) x rest
    negative : {ts rest : Symbols} {x : Expr} → IsPrimary ts x rest → IsFactor (Fixed Minus ∷ ts) (tree.Neg x) rest

  pub data IsPrimary : Symbols → Expr → Symbols → Type 0 where
    number : {rest : Symbols} {n : ℤ} → IsPrimary (Number n ∷ rest) (tree.Number n) rest
    text : {rest : Symbols} {bytes : List ℕ} → IsPrimary (Text bytes ∷ rest) (tree.Text bytes) rest
    hex : {rest : Symbols} {bytes : List ℕ} → IsPrimary (Hex bytes ∷ rest) (tree.Hex bytes) rest
    date : {rest : Symbols} {name bytes : List ℕ} → is_date name ≡ true → IsPrimary (Word name ∷ Text bytes ∷ rest) (tree.Date (day_of bytes)) rest
    null : {rest : Symbols} → IsPrimary (Fixed Null ∷ rest) tree.Null rest
    word : {rest : Symbols} {name : List ℕ} → IsPrimary (Word name ∷ rest) (tree.Column name) rest
    quoted : {rest : Symbols} {name : List ℕ} → IsPrimary (Quoted name ∷ rest) (tree.Column name) rest
    call : {ts rest : Symbols} {name : List ℕ} {f : Func} {x : Expr} → func_of name ≡ Some f → IsExpr ts x (Fixed Close ∷ rest)
        → IsPrimary (Word name ∷ Fixed Open ∷ ts) (tree.Call f x) rest
    call_mod : {ts us rest : Symbols} {x y : Expr} → IsExpr ts x (Fixed Comma ∷ us) → IsExpr us y (Fixed Close ∷ rest)
        → IsPrimary (Fixed Mod ∷ Fixed Open ∷ ts) (tree.Product x ((op.Mod, y) ∷ [])) rest
    parens : {ts rest : Symbols} {x : Expr} → IsExpr ts x (Fixed Close ∷ rest) → IsPrimary (Fixed Open ∷ ts) x rest

-- ---- conditions

-- {, expr}
pub data AreMore : Symbols → List Expr → Symbols → Type 0 where
  no_more : {ts : Symbols} → AreMore ts [] ts
  more : {ts us rest : Symbols} {x : Expr} {xs : List Expr} → IsExpr ts x us → AreMore us xs rest → AreMore (Fixed Comma ∷ ts) (x ∷ xs) rest

-- [NOT], true where it stands
pub data IsNegation : Symbols → Bool → Symbols → Type 0 where
  without : {ts : Symbols} → IsNegation ts false ts
  with_not : {ts : Symbols} → IsNegation (Fixed Not ∷ ts) true ts

mutual
  pub data IsCond : Symbols → Cond → Symbols → Type 0 where
    or : {ts us rest : Symbols} {c : Cond} {cs : List Cond} → IsConj ts c us → AreConjs us cs rest → IsCond ts (or_of c cs) rest

  pub data AreConjs : Symbols → List Cond → Symbols → Type 0 where
    no_conj : {ts : Symbols} → AreConjs ts [] ts
    conj : {ts us rest : Symbols} {c : Cond} {cs : List Cond} → IsConj ts c us → AreConjs us cs rest → AreConjs (Fixed Or ∷ ts) (c ∷ cs) rest

  pub data IsConj : Symbols → Cond → Symbols → Type 0 where
    and : {ts us rest : Symbols} {c : Cond} {cs : List Cond} → IsNeg ts c us → AreNegs us cs rest → IsConj ts (and_of c cs) rest

  pub data AreNegs : Symbols → List Cond → Symbols → Type 0 where
    no_neg : {ts : Symbols} → AreNegs ts [] ts
    neg : {ts us rest : Symbols} {c : Cond} {cs : List Cond} → IsNeg ts c us → AreNegs us cs rest → AreNegs (Fixed And ∷ ts) (c ∷ cs) rest

  pub data IsNeg : Symbols → Cond → Symbols → Type 0 where
    plain : {ts rest : Symbols} {c : Cond} → IsTest ts c rest → IsNeg ts c rest
    negated : {ts rest : Symbols} {c : Cond} → IsTest ts c rest → IsNeg (Fixed Not ∷ ts) (cond.Not c) rest

  pub data IsTest : Symbols → Cond → Symbols → Type 0 where
    in_parens : {ts rest : Symbols} {c : Cond} → IsCond ts c (Fixed Close ∷ rest) → IsTest (Fixed Open ∷ ts) c rest
    compare : {ts us rest : Symbols} {m : Cmp} {x y : Expr} → IsExpr ts x (Fixed (Compare m) ∷ us) → IsExpr us y rest
        → IsTest ts (cond.Compare m x y) rest
    is_null : {ts us rest : Symbols} {x : Expr} {is_not : Bool} → IsExpr ts x (Fixed Is ∷ us) → IsNegation us is_not (Fixed Null ∷ rest)
        → IsTest ts (cond.IsNull is_not x) rest
    is_in : {ts us vs ws rest : Symbols} {x y : Expr} {ys : List Expr} {is_not : Bool} → IsExpr ts x us → IsNegation us is_not (Fixed In ∷ Fixed Open ∷ vs)
        → IsExpr vs y ws → AreMore ws ys (Fixed Close ∷ rest) → IsTest ts (cond.In is_not x (y ∷ ys)) rest
    between : {ts us vs ws rest : Symbols} {x low high : Expr} {is_not : Bool} → IsExpr ts x us → IsNegation us is_not (Fixed Between ∷ vs)
        → IsExpr vs low (Fixed And ∷ ws) → IsExpr ws high rest → IsTest ts (cond.Between is_not x low high) rest
