-- Where a name stands among columns. Nothing public cites these.
use Rattle.std.specs.Prelude.{◌≡◌, ℕ, List, Option, Some, None, if◌then◌else◌}
use Rattle.std.specs.Option.{option_or}
use Rattle.std.specs.List.{position}
use Rattle.std.specs.Str.{bytes_eq}
use Rattle.pt_ast.specs.declared.table.Column.{Column}

-- each name is at the position of the first column of this name, and where there is none it is nowhere
abbrev pub ArePlaces : (List ℕ → Option ℕ) → List Column → Type 0
ArePlaces places columns = (name : List ℕ) → places name ≡ position (λ column. bytes_eq column.name name) columns

-- a name is at a place unless it was at one before; the others are where they were
abbrev pub placed_at : (List ℕ → Option ℕ) → List ℕ → ℕ → List ℕ → Option ℕ
placed_at before name place other = option_or (before other) (if bytes_eq name other then Some place else None)
