-- A depth that is enough for the parentheses of some symbols.
use Rattle.std.proofs.Common.{ℕ, zero, suc, ◌+◌, ◌≤◌, ◌∷◌, arith}
use Rattle.pt_parse_expr.specs.declared.alphabet.Mark.TheVariants.{Open}
use Rattle.pt_parse_expr.specs.declared.alphabet.Symbol.TheVariants.{Fixed}
use Rattle.pt_parse_expr.specs.Grammar.{Symbols}
use Rattle.pt_parse_expr.specs.Limits.{IsShallow}
use Rattle.pt_parse_expr.proofs.Eats.{Eats}

-- with some parentheses open before the symbols, these open no more than the depth above them
pub record Room (depth : ℕ) (ts : Symbols) : Type 0 where
  pub most : ℕ
  pub height : ℕ
  pub enough : most ≤ height + depth
  pub shallow : IsShallow most height ts

pub room-after : {depth : ℕ} {ts rest : Symbols} → Eats ts rest → Room depth ts → Room depth rest
room-after e r = record { most = r.most; height = r.height; enough = r.enough; shallow = e.shallow r.most r.height r.shallow }

pub room-opened : {depth : ℕ} {ts : Symbols} → Room depth (Fixed Open ∷ ts) → Room depth ts
room-opened r = record { most = r.most; height = suc r.height; enough = omega (arith, r.enough); shallow = r.shallow.1 }

-- what stands in parentheses has one depth less
abbrev pub Inside : ℕ → Symbols → Type 0
Inside zero ts = ⊥
Inside (suc depth) ts = Room depth ts

pub inside-opened : (depth : ℕ) {ts : Symbols} → Room depth (Fixed Open ∷ ts) → Inside depth ts
inside-opened zero r = absurd (omega (arith, r.enough, r.shallow.0))
inside-opened (suc depth) r = record { most = r.most; height = suc r.height; enough = omega (arith, r.enough); shallow = r.shallow.1 }

pub inside-after : (depth : ℕ) {ts rest : Symbols} → Eats ts rest → Inside depth ts → Inside depth rest
inside-after zero e i = i
inside-after (suc depth) e i = room-after e i
