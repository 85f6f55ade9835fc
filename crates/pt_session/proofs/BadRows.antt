-- A spot's bad rows are a bad file of the map.
use Rattle.std.proofs.Common.{◌≡◌, ℕ, List, sym, ap, ◌∙◌}
use Rattle.std.specs.Prelude.{Some, IsSomeAnd, Result, Ok, Err}
use Rattle.std.specs.Option.{option_map}
use Rattle.pt_host.specs.Listed.{FileList, by_name}
use Rattle.pt_ast.specs.declared.database.Spot.{Spot}
use Rattle.pt_ast.specs.declared.table.TableDef.{TableDef}
use Rattle.pt_store.specs.declared.stop.Stop.{Stop}
use Rattle.pt_store.specs.declared.stop.Stop.TheVariants.{NoMemory, Fault, Bad}
use Rattle.pt_store.specs.Stops.{IfBad}
use Rattle.pt_db.specs.Spots.{IsSpotOf}
use Rattle.pt_holds.specs.Bad as bad
use Rattle.pt_holds.specs.Bad.{AreBadRows}
use Rattle.pt_holds.specs.Holds.{spot_file}
use Rattle.pt_session.specs.declared.session.Session.{Session}
use Rattle.pt_session.specs.Session.{IsKept, IsOpen, IsOver, def_of}
use Rattle.pt_session.proofs.Names.{if_some, some_and}

-- ---- by how a call ended

pub bad_then : {T : Type 0} (result : Result T Stop) (P Q : List ℕ → ℕ → Type 0) → ((name : List ℕ) (place : ℕ) → P name place → Q name place) → IfBad result P → IfBad result Q
bad_then (Ok x) P Q f h = tt
bad_then (Err NoMemory) P Q f h = tt
bad_then (Err (Bad name place)) P Q f h = f name place h
bad_then (Err Fault) P Q f h = tt

module _ (session : Session) (is_open : IsOpen session) (table : List ℕ) (def : TableDef) (held : def_of session table ≡ Some def) where
  kept : IsKept table def
  kept = if_some (def_of session table) def (IsKept table) held (is_open.defs table)

  -- where these are the bytes of the spot's file
  pub rows_bad : (spot : Spot) (map : FileList) (file items bytes name : List ℕ) (place : ℕ) → IsSomeAnd (def_of session table) (λ d. IsSpotOf d spot) → IsOver session (by_name map)
      → file ≡ spot_file table def spot → by_name map file ≡ Some items → bytes ≡ items → name ≡ file → AreBadRows session.next def spot bytes place → bad.Bad (by_name map) name place
  rows_bad spot map file items bytes name place may over is there same named are_bad =
      bad.Rows table bytes def spot session.next
      (kept.name_is, over.defs table kept.name_is ∙ ap (option_map Ok) held) (some_and (def_of session table) def (λ d. IsSpotOf d spot) held may) (named ∙ is) over.next
      (ap (by_name map) named ∙ there ∙ ap (λ (b : List ℕ). Some b) (sym same)) are_bad
