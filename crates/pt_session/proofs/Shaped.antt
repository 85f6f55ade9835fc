-- What a session is after a table has come or gone, or where that was not kept.
use Rattle.std.proofs.Common.{◌≡◌, inr, ℕ, cond, is_some, List, [], Some, None, refl, sym, ap, ◌∙◌, subst}
use Rattle.std.specs.Prelude.{IsTrue, Result, Ok, Err}
use Rattle.std.specs.Option.{option_map, option_or}
use Rattle.std.specs.Map.{lookup}
use Rattle.std.specs.Str.{bytes_eq}
use Rattle.indexmap.specs.IndexMap.{get}
use Rattle.std.specs.Cmp.Lexicographic.{pointwise}
use Rattle.std.specs.Prelude.{nat_eq}
use Rattle.pt_rowfile.proofs.Parts.{one_some}
use Rattle.pt_host.specs.Listed.{FileList}
use Rattle.pt_host.specs.Listed as listed
use Rattle.pt_ddl_log.specs.declared.chain.Chain.{Chain}
use Rattle.pt_ast.specs.declared.database.Db.{Db}
use Rattle.pt_ast.specs.declared.table.TableDef.{TableDef}
use Rattle.pt_store.specs.declared.store.Store.{Store}
use Rattle.pt_store.specs.declared.stop.Stop.{Stop}
use Rattle.pt_store.specs.Reshape.{IsReshape, IsReshaped, held, reshaped}
use Rattle.pt_store.specs.Store.{sizes}
use Rattle.pt_holds.specs.Holds.{Holds}
use Rattle.pt_holds.specs.ShapeChanges.{IsCreate, IsCreateOf, IsDropOf}
use Rattle.pt_session.specs.declared.session.Session.{Session}
use Rattle.pt_session.specs.declared.shaping.Coming.{Coming}
use Rattle.pt_session.specs.Leaves.{Leaves}
use Rattle.pt_session.specs.Session.{HasDefs, IsKept, IsOpen, IsOver, StandsIn, def_of, is_live, length_of}
use Rattle.pt_session.specs.Shaping.{IsCreating, IsDropping}
use Rattle.pt_session.proofs.Names.{if_some}
use Rattle.pt_session.proofs.Reshaping.{Reshapes, come_reshapes, go_reshapes, reshapes_same}
use Rattle.pt_session.proofs.Shapes.{Redefines, added_last, come_defs, come_holds, files_come, files_gone, go_defs, go_holds, reshaped_open, reshaped_over, taken_out}
use Rattle.pt_session.proofs.Writes.{def_in_table, stopped_defs}

-- the change was not kept, or a fault leaves open whether
pub unkept_leaves : (session : Session) (kept : Store) (map next : FileList) (db later : Db) (e : Stop) (result : Result (Unit {0}) Stop) → result ≡ Err e → HasDefs session db → Holds (listed.by_name next) later
    → Leaves (record session { store = kept }) map next db later result
unkept_leaves session kept map next db later e result stops had holds =
    subst (λ (r : Result (Unit {0}) Stop). Leaves (record session { store = kept }) map next db later r) (sym stops) (record { between = inr holds; holds = tt; defs = stopped_defs session kept e db later had })

-- # A table comes

module _ (session : Session) (name : List ℕ) (def : TableDef) (coming : Coming) (is_open : IsOpen session) (may : IsCreate (def_of session) name def) (of : IsCreating session name def coming)
    (asks : IsReshape (sizes session.store) coming.fresh coming.chain) where
  came : (map next : FileList) → IsReshaped coming.fresh coming.chain map next → Reshapes (listed.by_name map) (listed.by_name next) name def (Some of.fresh.bytes) (Some [])
  came map next is =
      reshapes_same (listed.by_name map) (reshaped coming.fresh coming.chain (listed.by_name map)) (listed.by_name next) name def (Some of.fresh.bytes) (Some []) is.files
      (come_reshapes (sizes session.store) coming.fresh coming.chain (listed.by_name map) asks name def of.fresh.bytes of.fresh.are of.acts)

  pub came_holds : (map next : FileList) (db later : Db) → IsReshaped coming.fresh coming.chain map next → StandsIn session map db → IsCreateOf name def db later → Holds (listed.by_name next) later
  came_holds map next db later is stands c =
      come_holds (listed.by_name map) (listed.by_name next) name def (Some of.fresh.bytes) (Some []) (came map next is) db later stands.holds c (ap (λ r. Some r) of.fresh.reads) refl

  module _ (after : Session) (each : (query : List ℕ) → def_of after query ≡ option_or (def_of session query) (get (pointwise nat_eq) coming.tables query)) (same : after.next ≡ session.next) where
    came_defines : Redefines session after name (Some def)
    came_defines =
        added_last session after name def may.free
        (λ query. each query ∙ ap (λ (entries : List (List ℕ × TableDef)). option_or (def_of session query) (lookup (pointwise nat_eq query) entries)) of.entry) same

    pub came_over : (map next : FileList) → IsReshaped coming.fresh coming.chain map next → IsOver session (listed.by_name map) → IsOver after (listed.by_name next)
    came_over map next is over =
        reshaped_over session after name def (Some def) (listed.by_name map) (listed.by_name next) (Some of.fresh.bytes) (Some []) came_defines (came map next is) (ap (λ r. Some r) of.fresh.reads) over

    pub came_leaves : (map next : FileList) (db later : Db) → IsReshaped coming.fresh coming.chain map next → StandsIn session map db → IsCreateOf name def db later → Leaves {T = Unit {0}} after map next db later (Ok tt)
    came_leaves map next db later is stands c =
        let holds = came_holds map next db later is stands c in
        record { between = inr holds; holds = holds; defs = come_defs session after name def db later came_defines stands.defs c }

    pub came_open : IsTrue (is_live after) × ((query : List ℕ) → is_some (length_of after.store query) ≡ is_some (reshaped coming.fresh coming.chain (held (sizes session.store)) query)) → IsOpen after
    came_open had =
        let made = reshaped coming.fresh coming.chain (held (sizes session.store)) in
        let r = come_reshapes (sizes session.store) coming.fresh coming.chain (held (sizes session.store)) asks name def of.fresh.bytes of.fresh.are of.acts in
        reshaped_open session after name def (Some def) made (Some of.fresh.bytes) (Some []) is_open of.name_is came_defines had.1 r had.0
        (record { name_is = of.name_is; storable = may.storable; valid = may.valid })
        (files_come session after name def (Some def) made (Some of.fresh.bytes) (Some []) is_open of.name_is came_defines had.1 r may.free refl refl)

-- # A table goes

module _ (session : Session) (name : List ℕ) (fresh : FileList) (chain : Chain) (is_open : IsOpen session) (of : IsDropping session name chain) (asks : IsReshape (sizes session.store) fresh chain) where
  kept : IsKept name of.def
  kept = if_some (def_of session name) of.def (IsKept name) of.held (is_open.defs name)

  went : (map next : FileList) → IsReshaped fresh chain map next → Reshapes (listed.by_name map) (listed.by_name next) name of.def None None
  went map next is =
      reshapes_same (listed.by_name map) (reshaped fresh chain (listed.by_name map)) (listed.by_name next) name of.def None None is.files
      (go_reshapes (sizes session.store) fresh chain (listed.by_name map) asks name of.def of.acts)

  pub went_holds : (map next : FileList) (db later : Db) → IsReshaped fresh chain map next → StandsIn session map db → IsDropOf name db later → Holds (listed.by_name next) later
  went_holds map next db later is stands c =
      let same : c.table.def ≡ of.def = one_some c.table.def of.def (sym (ap (option_map def_in_table) c.held) ∙ sym (stands.defs.defs name kept.name_is) ∙ of.held) in
      go_holds (listed.by_name map) (listed.by_name next) name of.def None None (went map next is) db later stands.holds c same refl refl

  module _ (after : Session) (each : (query : List ℕ) → def_of after query ≡ cond (bytes_eq name query) None (def_of session query)) (same : after.next ≡ session.next) where
    went_defines : Redefines session after name None
    went_defines = taken_out session after name each same

    pub went_over : (map next : FileList) → IsReshaped fresh chain map next → IsOver session (listed.by_name map) → IsOver after (listed.by_name next)
    went_over map next is over = reshaped_over session after name of.def None (listed.by_name map) (listed.by_name next) None None went_defines (went map next is) refl over

    pub went_leaves : (map next : FileList) (db later : Db) → IsReshaped fresh chain map next → StandsIn session map db → IsDropOf name db later → Leaves {T = Unit {0}} after map next db later (Ok tt)
    went_leaves map next db later is stands c =
        let holds = went_holds map next db later is stands c in
        record { between = inr holds; holds = holds; defs = go_defs session after name db later went_defines stands.defs c }

    pub went_open : IsTrue (is_live after) × ((query : List ℕ) → is_some (length_of after.store query) ≡ is_some (reshaped fresh chain (held (sizes session.store)) query)) → IsOpen after
    went_open had =
        let made = reshaped fresh chain (held (sizes session.store)) in
        let r = go_reshapes (sizes session.store) fresh chain (held (sizes session.store)) asks name of.def of.acts in
        reshaped_open session after name of.def None made None None is_open kept.name_is went_defines had.1 r had.0 tt
        (files_gone session after name of.def None made None None is_open kept.name_is went_defines had.1 r of.held refl refl)
