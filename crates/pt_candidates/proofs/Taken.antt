-- What holds of the rows that are taken, over every host.
use Rattle.std.proofs.Common.{◌≡◌, ℕ, List, Option, Some, sym, refl, subst}
use Rattle.std.specs.List.{All}
use Rattle.std.specs.Option.{IfSome, IsSome}
use Rattle.pt_ast.specs.declared.database.Row.{Row}
use Rattle.pt_ast.specs.declared.database.Spot.{Spot}
use Rattle.pt_ast.specs.declared.table.TableDef.{TableDef}
use Rattle.pt_place.specs.Valid.{IsValid}
use Rattle.pt_db.specs.Sound.{IsSoundRow}
use Rattle.pt_session.specs.declared.session.Session.{Session}
use Rattle.pt_session.specs.Session.{AreSpotRows, IsKept, IsOpen, def_of}

some_placed : (o : Option Spot) (spot : Spot) → o ≡ Some spot → IsSome o
some_placed o spot at = subst (λ (q : Option Spot). IsSome q) (sym at) refl

pub sound_in : (next : ℕ) (def : TableDef) (spot : Spot) (rows : List Row) → AreSpotRows next def spot rows → All (IsSoundRow next def) rows
sound_in next def spot rows are = λ k d below.
    let one = are.each k d below in
    record {
      fits = one.columns.cells;
      nulls = one.columns.nulls;
      placed = some_placed _ spot one.placed;
      least = are.least k d below;
      below = one.below;
    }

-- a session's definitions are valid
pub open_valid : (session : Session) (name : List ℕ) (def : TableDef) → IsOpen session → def_of session name ≡ Some def → IsValid def
open_valid session name def opened some = (subst (λ (o : Option TableDef). IfSome o (IsKept name)) some (opened.defs name)).valid
