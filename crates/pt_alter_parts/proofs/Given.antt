-- What a session can give spots without rows.
use Rattle.std.proofs.Common.{◌≡◌, ℕ, false, List, [], Option, Some, refl, sym, subst}
use Rattle.std.specs.List.{All}
use Rattle.std.proofs.lemmas.List.Elements.{All-filter, All-nil}
use Rattle.std.proofs.lemmas.List.Kept.{AllPairs-filter}
use Rattle.std.specs.Prelude.{IfSome, true}
use Rattle.pt_ast.specs.declared.database.Row.{Row}
use Rattle.pt_ast.specs.declared.database.Spot.{Spot}
use Rattle.pt_ast.specs.declared.table.TableDef.{TableDef}
use Rattle.pt_checks.specs.Wanted.{is_named_spot}
use Rattle.pt_db.specs.Rows.{is_spot}
use Rattle.pt_rowfile.specs.Rows.{is_serial}
use Rattle.pt_holds.specs.Fit.{FitsColumns}
use Rattle.pt_holds.specs.ShapeChanges.{AreFresh, IsAlter}
use Rattle.pt_session.specs.declared.session.Session.{Session}
use Rattle.pt_session.specs.Session.{IsKept, IsOpen, def_of}
use Rattle.pt_spread.specs.Spread.{rows_by_spot}
use Rattle.pt_spread.proofs.Given.{each_once, each_row, each_spot}
use Rattle.pt_alter_parts.specs.Emptied.{emptied}

module _ (def : TableDef) (parts : Option (List (List ℕ))) where
  each : All (AreFresh def) (rows_by_spot def [])
  each k d below = record {
    spot = each_spot def [] k d below;
    fit = each_row def [] (FitsColumns def) (All-nil (FitsColumns def)) k d below;
    serials = each_row def [] (λ (row : Row). is_serial row.serial ≡ true) (All-nil (λ (row : Row). is_serial row.serial ≡ true)) k d below;
  }

  none_given : (defs : List ℕ → Option TableDef) (name : List ℕ) → defs name ≡ Some def → IsKept name def → IsAlter defs name def (emptied def parts)
  none_given defs name held kept = record {
    old = def;
    held = held;
    storable = kept.storable;
    valid = kept.valid;
    given = All-filter (λ (given : Spot × List Row). is_named_spot def parts given.0) (AreFresh def) (rows_by_spot def []) each;
    once = AllPairs-filter (λ (a b : Spot × List Row). is_spot a.0 b.0 ≡ false) (λ (given : Spot × List Row). is_named_spot def parts given.0) (rows_by_spot def []) (each_once def []);
    others = λ spot is none. (spot, is, refl);
  }

-- a session's definitions are kept ones
pub kept_def : (session : Session) (name : List ℕ) (def : TableDef) → IsOpen session → def_of session name ≡ Some def → IsKept name def
kept_def session name def opened held = subst (λ (o : Option TableDef). IfSome o (IsKept name)) held (opened.defs name)

-- the spots of some partitions, without rows
pub empties : (session : Session) (name : List ℕ) (def : TableDef) (parts : Option (List (List ℕ))) (fresh : List (Spot × List Row)) → IsOpen session → def_of session name ≡ Some def
    → fresh ≡ emptied def parts → IsAlter (def_of session) name def fresh
empties session name def parts fresh opened held is =
    subst (λ (f : List (Spot × List Row)). IsAlter (def_of session) name def f) (sym is) (none_given def parts (def_of session) name held (kept_def session name def opened held))
