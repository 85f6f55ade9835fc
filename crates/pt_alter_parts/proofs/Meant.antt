-- What a statement tells that gives a table another definition.
use Rattle.std.proofs.Common.{◌≡◌, refl, sym, ap, ◌∙◌}
use Rattle.std.specs.Prelude.{ℕ, List, Option, Some, None, Result, Ok, Err}
use Rattle.std.specs.Option.{option_map}
use Rattle.pt_value.specs.Ident.{IsIdent}
use Rattle.pt_host.specs.Listed.{FileList}
use Rattle.pt_host.specs.World.{World}
use Rattle.pt_host.proofs.Runs.{looks_then}
use Rattle.pt_ast.specs.declared.database.Db.{Db}
use Rattle.pt_ast.specs.declared.database.Row.{Row}
use Rattle.pt_ast.specs.declared.database.Spot.{Spot}
use Rattle.pt_ast.specs.declared.database.Table.{Table}
use Rattle.pt_ast.specs.declared.refusal.Refusal.{Refusal}
use Rattle.pt_ast.specs.declared.refusal.Refusal.TheVariants as refusal
use Rattle.pt_ast.specs.declared.reply.Reply.{Reply}
use Rattle.pt_ast.specs.declared.table.TableDef.{TableDef}
use Rattle.pt_store.specs.declared.stop.Stop.{Stop}
use Rattle.pt_store.specs.Step.{IsLook}
use Rattle.pt_store.specs.Store.{IsStore}
use Rattle.pt_store.proofs.Steps.{look_step, step_then}
use Rattle.pt_written.specs.Complete.{refused_or}
use Rattle.pt_actions.specs.Dropped.{bad_truncated}
use Rattle.pt_db.specs.Lookup.{table_of}
use Rattle.pt_db.specs.Outcome.{Outcome, found, passed}
use Rattle.pt_db.specs.Texts.{ok_text}
use Rattle.pt_holds.specs.ShapeChanges.{IsAlterOf}
use Rattle.pt_session.specs.declared.session.Session.{Session}
use Rattle.pt_session.specs.Leaves.{TellsAlter}
use Rattle.pt_session.specs.Session.{StandsIn, def_of}
use Rattle.pt_session.proofs.TellingAlter.{MeansAlter}
use Rattle.pt_altered.specs.Actions.{truncate, truncated_of}
use Rattle.pt_altered.specs.Altered.{rows_out, with_altered}
use Rattle.pt_alter_parts.specs.Redefined.{Redefines}

-- it is an alteration
pub means : (name : List ℕ) (def : TableDef) (fresh : List (Spot × List Row)) (db : Db) (outcome : Outcome) → Redefines name def fresh db outcome
    → MeansAlter (IsAlterOf name def fresh) db ok_text outcome
means name def fresh db outcome meant = record { later = meant.later; is = meant.is; change = meant.change }

-- A statement that looked at files first tells as much.
pub looked_first : (meaning : Db → Outcome) (before after : Session) (map : FileList) (a b c : World) (result : Result Reply Stop) → IsStore before.store map a → IsLook before.store map a b
    → TellsAlter meaning before after map b c result → TellsAlter meaning before after map a c result
looked_first meaning before after map a b c result is look told = record {
  next = told.next;
  step = step_then before.store map (tt {0}) after.store told.next a b c result (look_step before.store map (Ok (tt {0})) a b is look.looks) told.step;
  over = told.over;
  executes = told.executes;
  refused = λ db stands refusal same. (looks_then a b c look.looks (told.refused db stands refusal same).0, (told.refused db stands refusal same).1);
  bad = told.bad;
}

-- ---- the table of a name

abbrev def_in : Table → TableDef
def_in table = table.def

mapped_some : (o : Option Table) (def : TableDef) → Some def ≡ option_map def_in o → (table : Table) × (o ≡ Some table) × (table.def ≡ def)
mapped_some None def e = let bad : Some def ≡ None = e in cc
mapped_some (Some table) def e = let same : def ≡ table.def = cc in (table, refl, sym same)

mapped_none : (o : Option Table) → None ≡ option_map def_in o → o ≡ None
mapped_none None e = refl
mapped_none (Some table) e = let bad : None ≡ Some table.def = e in cc

module _ (session : Session) (map : FileList) (db : Db) (stands : StandsIn session map db) (name : List ℕ) (ident : IsIdent name) where
  pub held : (def : TableDef) → Some def ≡ def_of session name → (table : Table) × (table_of db name ≡ Some table) × (table.def ≡ def)
  held def is = mapped_some (table_of db name) def (is ∙ stands.defs.defs name ident)

  pub absent : None ≡ def_of session name → table_of db name ≡ None
  absent is = mapped_none (table_of db name) (is ∙ stands.defs.defs name ident)

-- ---- TRUNCATE PARTITION, check by check

module _ (db : Db) (name : List ℕ) (parts : Option (List (List ℕ))) where
  abbrev of_table : Table → Outcome
  of_table table = passed (truncated_of name parts table.def) (λ def. with_altered db name def (rows_out parts table.def table.rows))

  pub truncate_absent : table_of db name ≡ None → truncate db name parts ≡ Err (refusal.NoSuchTable name)
  truncate_absent at = ap (λ (o : Option Table). found o (refusal.NoSuchTable name) of_table) at

  pub truncate_refused : (table : Table) (why : Refusal) (own : TableDef) → table_of db name ≡ Some table → table.def ≡ own → bad_truncated name parts own ≡ Some why → truncate db name parts ≡ Err why
  truncate_refused table why own at same bad =
      ap (λ (o : Option Table). found o (refusal.NoSuchTable name) of_table) at
      ∙ ap (λ (o : Option Refusal). passed (refused_or o table.def) (λ def. with_altered db name def (rows_out parts table.def table.rows))) (ap (bad_truncated name parts) same ∙ bad)

  one : (a b : Table) → Some a ≡ Some b → a ≡ b
  one a b e = cc

  pub truncate_done : (other table : Table) (own : TableDef) → table_of db name ≡ Some other → other.def ≡ own → bad_truncated name parts own ≡ None → table_of db name ≡ Some table
      → truncate db name parts ≡ with_altered db name table.def (rows_out parts table.def table.rows)
  truncate_done other table own was same none at =
      let is : table.def ≡ own = ap def_in (one table other (sym at ∙ was)) ∙ same in
      ap (λ (o : Option Table). found o (refusal.NoSuchTable name) of_table) at
      ∙ ap (λ (o : Option Refusal). passed (refused_or o table.def) (λ def. with_altered db name def (rows_out parts table.def table.rows))) (ap (bad_truncated name parts) is ∙ none)
