-- The days of DATE by their places, and where a function of them comes to a number. Nothing public cites these.
use Rattle.std.specs.Prelude.{◌≡◌, ℕ, ◌<◌, ◌≤◌, ℤ, pos, ◌-ℤ◌, ◌<ℤ◌, ◌≤ℤ◌}
use Rattle.pt_ast.specs.declared.tree.Func.{Func}
use Rattle.pt_expr.specs.Values.{part_of_day}

-- the day at a place: the first is 1000-01-01, and there are 3,287,182
unfoldable pub day_at : ℕ → ℤ
day_at place = pos place -ℤ pos 354_285

-- what a function of days comes to at a place
abbrev pub value_from : Func → ℕ → ℤ
value_from func place = part_of_day func (day_at place)

-- before the one place the numbers are below this one, and from the other on they aren't
pub record AreEnds (f : ℕ → ℤ) (number : ℤ) (low high : ℕ) : Type 0 where
  pub order : low ≤ high
  pub few : high ≤ 3_287_182
  pub below : (place : ℕ) → place < low → f place <ℤ number
  pub above : (place : ℕ) → high ≤ place → place < 3_287_182 → number ≤ℤ f place

-- the day at the first place where the function isn't below the number
abbrev pub IsFirstDay : Func → ℤ → ℤ → Type 0
IsFirstDay func number day = (place : ℕ) × AreEnds (value_from func) number place place × (day ≡ day_at place)
