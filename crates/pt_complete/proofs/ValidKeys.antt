-- Keys that pass as a text pass as those of a definition.
use Rattle.std.proofs.Common.{◌≡◌, Bool, true, false, cond, List, [], ◌∷◌, ◌++◌, map, Option, Some, None, refl, ap, subst}
use Rattle.std.specs.Prelude.{IfSome, find}
use Rattle.std.specs.Option.{option_map_or, option_or}
use Rattle.std.proofs.lemmas.List.{map-append}
use Rattle.pt_ast.specs.declared.table.Column.{Column}
use Rattle.pt_ast.specs.declared.table.KeyDef.{KeyDef}
use Rattle.pt_ast.specs.declared.table.Rank.{Rank}
use Rattle.pt_place.specs.Checks.{is_primary_rank, second_primary, twice}
use Rattle.pt_place.specs.First.{in_turn, in_turn_from}
use Rattle.pt_place.specs.Names.{names_at}
use Rattle.pt_place.specs.Valid.{bad_key}
use Rattle.pt_place.proofs.Firsts.{none_first, none_next}
use Rattle.pt_written.specs.Complete.{bad_written_key}
use Rattle.pt_written.specs.Written.{KeyText, columns_for_rows, is_full_unique, key_of}
use Rattle.pt_complete.proofs.ValidNames.{Each, both_none, places_once}

pub ranks_same : (columns : List Column) (keys : List KeyText) → map (λ (key : KeyText). key.rank) keys ≡ map (λ (key : KeyDef). key.rank) (map (key_of columns) keys)
ranks_same columns [] = refl
ranks_same columns (key ∷ keys) = ap (λ l. key.rank ∷ l) (ranks_same columns keys)

pub keys_pass : (columns : List Column) (before keys : List KeyText) → in_turn_from (bad_written_key columns) before keys ≡ None
    → in_turn_from (bad_key columns) (map (key_of columns) before) (map (key_of columns) keys) ≡ None
keys_pass columns before [] none = refl
keys_pass columns before (key ∷ keys) none =
    let own = none_first _ _ none in
    let list = none_first _ _ own in
    both_none _ _
    (both_none _ _ (places_once columns key.columns (none_first _ _ list) (none_first _ _ (none_next _ _ list)))
    (both_none _ _ (subst (λ (ranks : List Rank). second_primary ranks key.rank ≡ None) (ranks_same columns before) (none_first _ _ (none_next _ _ own))) refl))
    (subst (λ l. in_turn_from (bad_key columns) l (map (key_of columns) keys) ≡ None) (map-append (key_of columns) before (key ∷ [])) (keys_pass columns (before ++ key ∷ []) keys (none_next _ _ none)))

pub keys_valid : (columns : List Column) (keys : List KeyText) → in_turn (bad_written_key columns) keys ≡ None → in_turn (bad_key columns) (map (key_of columns) keys) ≡ None
keys_valid columns keys none = keys_pass columns [] keys none

-- ---- the columns that KEY takes where it names none

abbrev pub IsOnce : List Column → KeyDef → Type 0
IsOnce columns key = in_turn twice (names_at columns key.columns) ≡ None

pub each_once : (columns : List Column) (before keys : List KeyDef) → in_turn_from (bad_key columns) before keys ≡ None → Each (IsOnce columns) keys
each_once columns before [] none = tt
each_once columns before (key ∷ keys) none = (none_first _ _ (none_first _ _ none), each_once columns (before ++ key ∷ []) keys (none_next _ _ none))

pub found_once : (columns : List Column) (test : KeyDef → Bool) (keys : List KeyDef) → Each (IsOnce columns) keys → IfSome (find test keys) (IsOnce columns)
found_once columns test [] once = tt
found_once columns test (key ∷ keys) once = by_test (test key) (found_once columns test keys once.1)
  where
    by_test : (t : Bool) → IfSome (find test keys) (IsOnce columns) → IfSome (cond t (Some key) (find test keys)) (IsOnce columns)
    by_test true rest = once.0
    by_test false rest = rest

pub either_once : (columns : List Column) (a b : Option KeyDef) → IfSome a (IsOnce columns) → IfSome b (IsOnce columns) → in_turn twice (names_at columns (option_map_or (λ (key : KeyDef). key.columns) (option_or a b) [])) ≡ None
either_once columns (Some key) b once more = once
either_once columns None (Some key) once more = more
either_once columns None None once more = refl

pub rows_once : (columns : List Column) (keys : List KeyDef) → in_turn (bad_key columns) keys ≡ None → in_turn twice (names_at columns (columns_for_rows columns keys)) ≡ None
rows_once columns keys none =
    let once = each_once columns [] keys none in
    either_once columns (find (λ (key : KeyDef). is_primary_rank key.rank) keys) (find (is_full_unique columns) keys)
    (found_once columns (λ (key : KeyDef). is_primary_rank key.rank) keys once) (found_once columns (is_full_unique columns) keys once)
