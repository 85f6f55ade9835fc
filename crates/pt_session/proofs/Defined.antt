-- The tables that the definitions among the store's names define.
use Rattle.std.proofs.Common.{◌≡◌, ℕ, ◌+◌, ◌-◌, ◌*◌, ◌/◌, ◌%◌, ◌<◌, ◌≤◌, ◌^◌, Bool, true, false, cond, ◌||◌, true≢false, List, [], length, take, is_some, refl, sym, ap, ap₂, ◌∙◌, subst, arith}
use Rattle.std.specs.Prelude.{Option, Some, None, Ok, Err, IfSome, nat_eq, nat_le, nat_lt, slice_get}
use Rattle.std.specs.Cmp.Lexicographic.{pointwise}
use Rattle.std.specs.Map.{lookup}
use Rattle.std.specs.Option.{option_map, unwrap_or}
use Rattle.std.specs.Str.{bytes_eq}
use Rattle.std.proofs.lemmas.Bool.{and_parts, leb-true, ltb-true}
use Rattle.std.proofs.lemmas.Slice.Eq.{bytes_eq-Decides}
use Rattle.indexmap.specs.IndexMap.{IndexMap, IsEmpty}
use Rattle.pt_value.specs.Ident.{IsIdent}
use Rattle.pt_host.specs.Disk.{Files}
use Rattle.pt_host.specs.World.{World}
use Rattle.pt_names.specs.declared.owner.Owner.{Owner}
use Rattle.pt_names.specs.declared.owner.Owner.TheVariants.{Def, Row}
use Rattle.pt_names.specs.Names.{IsDefOf, IsLeaf, IsOwner, IsRowsOf, def_name, lowered, serials_name}
use Rattle.pt_names.proofs.Owners.{def_owned, defs, row_owned}
use Rattle.pt_ast.specs.declared.table.TableDef.{TableDef}
use Rattle.pt_defs.specs.Reading.{def_at}
use Rattle.pt_rowfile.specs.Counter.{counter_of, is_next, last_number, last_serial}
use Rattle.pt_store.specs.declared.store.Store.{Store}
use Rattle.pt_store.specs.Entries.{length_in}
use Rattle.pt_holds.specs.Bad.{Bad, Counter, Defines, HasNext, Invalid, Unread}
use Rattle.pt_session.specs.Session.{IsKept}
use Rattle.pt_session.specs.Opening.{AddsDef, AreDefined, AreRead, IsBadDef, NoDef, NotValid, table_in}
use Rattle.pt_session.proofs.RowFiles.{there_more}

-- # Whose a name is

pub def_owner : (name table : List ℕ) (owner : Owner) → IsOwner name owner → IsDefOf name table → owner ≡ Def table
def_owner name table owner own is = def_owned table owner is.table (subst (λ n. IsOwner n owner) is.name own)

leaf_ident : (leaf : Option (List ℕ)) → IfSome leaf IsLeaf → IfSome leaf IsIdent
leaf_ident None is = tt
leaf_ident (Some leaf) is = is.ident

pub row_owner : (name table : List ℕ) (leaf : Option (List ℕ)) (owner : Owner) → IsOwner name owner → IsRowsOf name table leaf → owner ≡ Row table (option_map lowered leaf)
row_owner name table leaf owner own is = row_owned table leaf owner is.table (leaf_ident leaf is.leaf) (subst (λ n. IsOwner n owner) is.name own)

-- # The counter

-- a next serial that is read is from 1 to 2^62
pub next_range : (bytes : List ℕ) (next : ℕ) → counter_of bytes ≡ Ok next → (0 < next) × (next ≤ 2 ^ 62)
unfolding counter_of
next_range bytes next e = whole (nat_eq (length bytes % 8) 0) (8 * (length bytes / 8)) e
  where
    range : (n : ℕ) → is_next n ≡ true → (0 < n) × (n ≤ 2 ^ 62)
    range n h = let both = and_parts (nat_lt 0 n) (nat_le n (2 ^ 62)) h in (ltb-true 0 n both.0, leb-true n (2 ^ 62) both.1)

    tested : (t : Bool) (n place : ℕ) → is_next n ≡ t → cond t (Ok n) (Err place) ≡ Ok next → (0 < next) × (next ≤ 2 ^ 62)
    tested true n place h e = let same : n ≡ next = let f : Ok n ≡ Ok next = e in cc in subst (λ m. (0 < m) × (m ≤ 2 ^ 62)) same (range n h)
    tested false n place h e = let f : Err place ≡ Ok next = e in cc

    least : (0 < 1) × (1 ≤ 2 ^ 62)
    least = (omega arith, omega arith)

    any : (t : Bool) → cond t (Ok 1) (cond (is_next (last_number bytes)) (Ok (last_number bytes)) (Err (length bytes - 8))) ≡ Ok next → (0 < next) × (next ≤ 2 ^ 62)
    any true e = let same : 1 ≡ next = let f : Ok 1 ≡ Ok next = e in cc in subst (λ m. (0 < m) × (m ≤ 2 ^ 62)) same least
    any false e = tested (is_next (last_number bytes)) (last_number bytes) (length bytes - 8) refl e

    whole : (t : Bool) (place : ℕ) → cond t (last_serial bytes) (Err place) ≡ Ok next → (0 < next) × (next ≤ 2 ^ 62)
    whole true place e = any (nat_eq (length bytes) 0) e
    whole false place e = let f : Err place ≡ Ok next = e in cc

-- # One definition more

def_test : (a b : List ℕ) → bytes_eq a b ≡ bytes_eq (def_name a) (def_name b)
def_test a b = by (bytes_eq a b) (bytes_eq (def_name a) (def_name b)) refl refl
  where
    by : (s t : Bool) → bytes_eq a b ≡ s → bytes_eq (def_name a) (def_name b) ≡ t → bytes_eq a b ≡ bytes_eq (def_name a) (def_name b)
    by true t e f = e ∙ sym ((bytes_eq-Decides (def_name a) (def_name b)).1 (ap def_name ((bytes_eq-Decides a b).0 e)))
    by false false e f = e ∙ sym f
    by false true e f = absurd (true≢false (sym ((bytes_eq-Decides a b).1 (defs a b ((bytes_eq-Decides (def_name a) (def_name b)).0 f))) ∙ e))

module _ (sizes : List (List ℕ × ℕ)) (i : ℕ) (file : List ℕ) (at : option_map (λ (size : List ℕ × ℕ). size.0) (slice_get sizes i) ≡ Some file) where
  -- the i-th file is the definition of a table that was put among them
  pub defined_more : (tells : Type 0) (store : Store) (w : World) (old new : List ℕ → Option TableDef) (table : List ℕ) → IsDefOf file table → AddsDef tells store w old new table
      → AreDefined (take i sizes) old → AreDefined (take (i + 1) sizes) new
  defined_more tells store w old new table is added so = record { kept = kept; named = named }
    where
      kept : (name : List ℕ) → IfSome (new name) (IsKept name)
      kept name = subst (λ o. IfSome o (IsKept name)) (sym (added.put name)) (by (bytes_eq table name) refl)
        where
          by : (t : Bool) → bytes_eq table name ≡ t → IfSome (cond t (Some added.def) (old name)) (IsKept name)
          by true e = subst (λ n. IsKept n added.def) ((bytes_eq-Decides table name).0 e) added.kept
          by false e = so.kept name

      either : (t : Bool) (o : Option TableDef) → is_some (cond t (Some added.def) o) ≡ (is_some o || t)
      either true (Some def) = refl
      either true None = refl
      either false (Some def) = refl
      either false None = refl

      named : (name : List ℕ) → IsIdent name → is_some (new name) ≡ is_some (length_in (take (i + 1) sizes) (def_name name))
      named name ident =
          ap is_some (added.put name)
          ∙ either (bytes_eq table name) (old name)
          ∙ ap₂ (λ (s t : Bool). s || t) (so.named name ident) (def_test table name ∙ ap (λ n. bytes_eq n (def_name name)) (sym is.name))
          ∙ sym (there_more sizes i file (def_name name) at)

  -- it is no definition
  pub defined_still : (tables : List ℕ → Option TableDef) → ((table : List ℕ) → IsDefOf file table → ⊥) → AreDefined (take i sizes) tables → AreDefined (take (i + 1) sizes) tables
  defined_still tables none so = record { kept = so.kept; named = named }
    where
      or_none : (s t : Bool) → t ≡ false → (s || t) ≡ s
      or_none true t e = refl
      or_none false t e = e

      other : (name : List ℕ) → IsIdent name → (t : Bool) → bytes_eq file (def_name name) ≡ t → t ≡ false
      other name ident true e = absurd (none name (record { table = ident; name = (bytes_eq-Decides file (def_name name)).0 e }))
      other name ident false e = refl

      named : (name : List ℕ) → IsIdent name → is_some (tables name) ≡ is_some (length_in (take (i + 1) sizes) (def_name name))
      named name ident =
          so.named name ident
          ∙ sym (or_none (is_some (length_in (take i sizes) (def_name name))) (bytes_eq file (def_name name)) (other name ident (bytes_eq file (def_name name)) refl))
          ∙ sym (there_more sizes i file (def_name name) at)

pub read_more : (map : Files) (old new : List ℕ → Option TableDef) (table : List ℕ) (def : TableDef) → ((name : List ℕ) → new name ≡ cond (bytes_eq table name) (Some def) (old name))
    → Defines map table def → AreRead map old → AreRead map new
read_more map old new table def put defines so name = subst (λ o. IfSome o (Defines map name)) (sym (put name)) (by (bytes_eq table name) refl)
  where
    by : (t : Bool) → bytes_eq table name ≡ t → IfSome (cond t (Some def) (old name)) (Defines map name)
    by true e = subst (λ n. Defines map n def) ((bytes_eq-Decides table name).0 e) defines
    by false e = so name

-- none are found where there are none
pub none_found : {S : Type 0} (tables : IndexMap (List ℕ) TableDef S) → IsEmpty tables → (name : List ℕ) → table_in tables name ≡ None
none_found tables none name = ap (λ entries. lookup (pointwise nat_eq name) entries) none

pub none_defined : (tables : List ℕ → Option TableDef) → ((name : List ℕ) → tables name ≡ None) → AreDefined [] tables
none_defined tables none = record {
  kept = λ name. subst (λ o. IfSome o (IsKept name)) (sym (none name)) tt;
  named = λ name ident. ap is_some (none name);
}

pub none_read : (map : Files) (tables : List ℕ → Option TableDef) → ((name : List ℕ) → tables name ≡ None) → AreRead map tables
none_read map tables none name = subst (λ o. IfSome o (Defines map name)) (sym (none name)) tt

-- # One definition

pub def_read : (map : Files) (table bytes : List ℕ) (def : TableDef) → IsIdent table → map (def_name table) ≡ Some bytes → def_at bytes ≡ Ok def → Defines map table def
def_read map table bytes def ident there e = (ident, ap (λ o. option_map def_at o) there ∙ ap Some e)

pub def_bad : (map : Files) (table bytes : List ℕ) (place : ℕ) → IsIdent table → map (def_name table) ≡ Some bytes → IsBadDef bytes place → Bad map (def_name table) place
def_bad map table bytes place ident there (NoDef e) = Unread table ident refl (ap (λ o. option_map def_at o) there ∙ ap Some e)
def_bad map table bytes place ident there (NotValid def e invalid at) = Invalid table def (def_read map table bytes def ident there e) refl invalid at

-- # The counter's file

pub next_read : (map : Files) (bytes : List ℕ) (next : ℕ) → map serials_name ≡ Some bytes → counter_of bytes ≡ Ok next → HasNext map next
next_read map bytes next there e = ap (λ (o : Option (List ℕ)). counter_of (unwrap_or o [])) there ∙ e

pub next_bad : (map : Files) (bytes : List ℕ) (place : ℕ) → map serials_name ≡ Some bytes → counter_of bytes ≡ Err place → Bad map serials_name place
next_bad map bytes place there e = Counter refl (ap (λ (o : Option (List ℕ)). counter_of (unwrap_or o [])) there ∙ e)
