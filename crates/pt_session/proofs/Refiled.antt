-- What a table's files are once it has another definition, name by name.
use Rattle.std.proofs.Common.{◌≡◌, ◌≢◌, ◌⊎◌, inl, inr, ℕ, zero, suc, ◌<◌, ◌^◌, Bool, true, false, true≢false, cond, not, is_some, List, [], ◌∷◌, length, map, get_or, Option, Some, None, refl, sym, ap, ◌∙◌, subst, arith}
use Rattle.std.specs.Prelude.{Contains, IsSome}
use Rattle.std.specs.List.{All, AllPairs, find}
use Rattle.std.specs.Option.{option_map, option_or}
use Rattle.std.specs.Str.{bytes_eq}
use Rattle.std.proofs.lemmas.Bool.{not-true}
use Rattle.std.proofs.lemmas.List.Elements.{All-cons, All-contains, All-filter, All-head, All-map, All-tail, Contains-get_or, filter_passes}
use Rattle.std.proofs.lemmas.List.Kept.{AllPairs-cons, AllPairs-filter}
use Rattle.std.proofs.lemmas.Slice.Eq.{bytes_eq-Decides}
use Rattle.pt_plain.proofs.Pairs.{pairs_tail}
use Rattle.pt_value.specs.Ident.{IsIdent}
use Rattle.pt_host.specs.Disk.{Files}
use Rattle.pt_host.specs.Images.{AreSame}
use Rattle.pt_host.specs.Listed.{FileList, by_name}
use Rattle.pt_host.specs.Name.{is_extra}
use Rattle.pt_host.proofs.Lookups.{present_at}
use Rattle.pt_names.specs.Names.{def_name}
use Rattle.pt_ddl_log.specs.declared.chain.Chain.{Chain}
use Rattle.pt_ast.specs.declared.database.Row.{Row}
use Rattle.pt_ast.specs.declared.database.Spot.{Spot}
use Rattle.pt_ast.specs.declared.table.TableDef.{TableDef}
use Rattle.pt_place.specs.Place.{leaf_of}
use Rattle.pt_place.specs.Valid.{IsValid}
use Rattle.pt_defs.specs.Fitting.{FitsPart}
use Rattle.pt_store.specs.Entries.{length_in}
use Rattle.pt_store.specs.Reshape.{IsReshape, reshaped}
use Rattle.pt_db.specs.Rows.{is_spot}
use Rattle.pt_db.specs.Spots.{IsSpotOf, spots_of}
use Rattle.pt_db.proofs.SpotLists.{spots_each}
use Rattle.pt_db.proofs.Spots.{spot_itself, spot_same}
use Rattle.pt_holds.specs.Acts.{rows_text}
use Rattle.pt_holds.specs.Batch.{IsRowFileOf}
use Rattle.pt_holds.specs.Holds.{spot_file}
use Rattle.pt_holds.specs.ShapeChanges.{AreFresh, fresh_at}
use Rattle.pt_holds.proofs.FileNames.{def_not_rows, one_row_file}
use Rattle.pt_holds.proofs.Leaves.{one_leaf}
use Rattle.pt_session.specs.Shaping.{given_file, gone_files, is_listed, row_files}
use Rattle.pt_session.proofs.FileEnds.{IsOwn, def_own, row_own, row_plain}
use Rattle.pt_session.proofs.Renews.{alter_acts, alter_asks, filter_there, gone_away, is_there, left_alone, listed_is, renewed}
use Rattle.pt_session.proofs.Reshaping.{of_acts, other_test}
use Rattle.pt_session.proofs.RowFiles.{each_listed, file_listed}
use Rattle.pt_session.proofs.ShapeFiles.{files_apart, files_own, from_map, leaf_ident, listed_row, pairs_map}

-- The file of the definition becomes this; that of a spot whose rows are given has their puts, and that of another spot stays; a row
-- file that only the old definition has is gone; and all others that aren't extra stay.
pub record Refiles (before after : Files) (name : List ℕ) (old def : TableDef) (fresh : List (Spot × List Row)) (bytes : List ℕ) : Type 0 where
  pub at_def : after (def_name name) ≡ Some bytes
  pub rows : (spot : Spot) → IsSpotOf def spot → after (spot_file name def spot) ≡ option_or (option_map rows_text (fresh_at fresh spot)) (before (spot_file name def spot))
  pub gone : (file : List ℕ) → IsRowFileOf name old file → (IsRowFileOf name def file → ⊥) → after file ≡ None
  pub others : (file : List ℕ) → is_extra file ≡ false → file ≢ def_name name → (IsRowFileOf name old file → ⊥) → (IsRowFileOf name def file → ⊥) → after file ≡ before file

pub refiles_same : (before after other : Files) (name : List ℕ) (old def : TableDef) (fresh : List (Spot × List Row)) (bytes : List ℕ) → AreSame after other
    → Refiles before after name old def fresh bytes → Refiles before other name old def fresh bytes
refiles_same before after other name old def fresh bytes same is = record {
  at_def = same (def_name name) ∙ is.at_def;
  rows = λ spot of. same (spot_file name def spot) ∙ is.rows spot of;
  gone = λ file of none. same file ∙ is.gone file of none;
  others = λ file plain not_def not_old not_new. same file ∙ is.others file plain not_def not_old not_new;
}

module _ (name : List ℕ) (def : TableDef) (name_is : IsIdent name) (valid : IsValid def) where
  same_spot : (a b : Spot) → IsSpotOf def a → IsSpotOf def b → spot_file name def a ≡ spot_file name def b → a ≡ b
  same_spot a b is_a is_b same = one_leaf def valid a b is_a is_b (one_row_file name name (leaf_of def a) (leaf_of def b) name_is name_is same).1

  -- a file is a spot's where the spot is
  file_test : (a b : Spot) → IsSpotOf def a → IsSpotOf def b → bytes_eq (spot_file name def a) (spot_file name def b) ≡ is_spot a b
  file_test a b is_a is_b = go (is_spot a b) refl
    where
      go : (t : Bool) → is_spot a b ≡ t → bytes_eq (spot_file name def a) (spot_file name def b) ≡ t
      go true e = (bytes_eq-Decides (spot_file name def a) (spot_file name def b)).1 (ap (spot_file name def) (spot_same a b e))
      go false e = other_test (spot_file name def a) (spot_file name def b) (λ same. true≢false (sym (subst (λ s. is_spot a s ≡ true) (same_spot a b is_a is_b same) (spot_itself a)) ∙ e))

  given_there : (fresh : List (Spot × List Row)) (spot : Spot) → All (AreFresh def) fresh → IsSpotOf def spot → by_name (map (given_file name def) fresh) (spot_file name def spot) ≡ option_map rows_text (fresh_at fresh spot)
  given_there [] spot each is = refl
  given_there (g ∷ fresh) spot each is =
      ap (λ t. cond t (Some (rows_text g.1)) (by_name (map (given_file name def) fresh) (spot_file name def spot))) (file_test g.0 spot (All-head (AreFresh def) g fresh each).spot is)
      ∙ go (is_spot g.0 spot) (given_there fresh spot (All-tail (AreFresh def) g fresh each) is)
    where
      go : (t : Bool) → by_name (map (given_file name def) fresh) (spot_file name def spot) ≡ option_map rows_text (fresh_at fresh spot)
          → cond t (Some (rows_text g.1)) (by_name (map (given_file name def) fresh) (spot_file name def spot))
          ≡ option_map rows_text (option_map (λ (given : Spot × List Row). given.1) (cond t (Some g) (find (λ (given : Spot × List Row). is_spot given.0 spot) fresh)))
      go true rest = refl
      go false rest = rest

  -- ---- the files that are made anew, and those that go

  module _ (old : TableDef) (fresh : List (Spot × List Row)) (bytes : List ℕ) (given : All (AreFresh def) fresh) where
    abbrev pub new_files : FileList
    new_files = (def_name name, bytes) ∷ map (given_file name def) fresh

    abbrev pub gone : List (List ℕ)
    gone = gone_files name old def

    -- each is the definition's, or a row file of the definition
    new_file : (file : List ℕ × List ℕ) → Contains new_files file → (file.0 ≡ def_name name) ⊎ IsRowFileOf name def file.0
    new_file file (zero, within, is) = inl (sym (ap (λ (f : List ℕ × List ℕ). f.0) is))
    new_file file (suc k, within, is) =
        let one = from_map (given_file name def) fresh file (k, omega (arith, within), is) in
        inr (one.0.0, (All-contains (AreFresh def) fresh one.0 given one.1).spot, sym (ap (λ (f : List ℕ × List ℕ). f.0) one.2))

    -- one that goes is a row file of the old definition alone
    gone_old : (file : List ℕ) → Contains gone file → IsRowFileOf name old file
    gone_old file held =
        All-contains (IsRowFileOf name old) gone file
        (All-filter (λ f. not (is_listed (row_files name def) f)) (IsRowFileOf name old) (row_files name old) (each_listed name old)) held

    gone_not : (file : List ℕ) → Contains gone file → IsRowFileOf name def file → ⊥
    gone_not file held of =
        let out = All-contains (λ f. not (is_listed (row_files name def) f) ≡ true) gone file (filter_passes (λ f. not (is_listed (row_files name def) f)) (row_files name old)) held in
        true≢false (sym (listed_is (row_files name def) file (file_listed name def file of)) ∙ not-true (is_listed (row_files name def) file) out)

    gone_there : (file : List ℕ) → IsRowFileOf name old file → (IsRowFileOf name def file → ⊥) → Contains gone file
    gone_there file of none = filter_there (λ f. not (is_listed (row_files name def) f)) (row_files name old) file (file_listed name old file of) (ap not (go (is_listed (row_files name def) file) refl))
      where
        go : (t : Bool) → is_listed (row_files name def) file ≡ t → t ≡ false
        go true e = absurd (none (listed_row name def file (is_there (row_files name def) file e)))
        go false e = refl

    -- ---- what the store may be asked

    module _ (lengths : List (List ℕ × ℕ)) (fits : All FitsPart def.parts) (old_fits : All FitsPart old.parts) (old_valid : IsValid old)
        (once : AllPairs (λ (a b : Spot × List Row). is_spot a.0 b.0 ≡ false) fresh) (there : (spot : Spot) → IsSpotOf old spot → IsSome (length_in lengths (spot_file name old spot)))
        (few : length (alter_acts lengths new_files gone) < 2 ^ 32) where
      own : All (λ (file : List ℕ × List ℕ). IsOwn file.0) new_files
      own =
          All-cons (λ (file : List ℕ × List ℕ). IsOwn file.0) (def_name name, bytes) (map (given_file name def) fresh) (def_own name name_is)
          (All-map (λ (file : List ℕ × List ℕ). IsOwn file.0) (given_file name def) fresh (λ k d below. row_own name (leaf_of def (get_or fresh k d).0) name_is (leaf_ident def (get_or fresh k d).0 fits)))

      own_gone : All IsOwn gone
      own_gone = All-filter (λ f. not (is_listed (row_files name def) f)) IsOwn (row_files name old) (All-tail IsOwn (def_name name) (row_files name old) (files_own name old name_is old_fits))

      new_once : AllPairs (λ (a b : List ℕ × List ℕ). a.0 ≢ b.0) new_files
      new_once =
          AllPairs-cons (λ (a b : List ℕ × List ℕ). a.0 ≢ b.0) (def_name name, bytes) (map (given_file name def) fresh)
          (All-map (λ (file : List ℕ × List ℕ). def_name name ≢ file.0) (given_file name def) fresh (λ k d below. def_not_rows name name (leaf_of def (get_or fresh k d).0)))
          (pairs_map (λ (a b : Spot × List Row). is_spot a.0 b.0 ≡ false) (λ (a b : List ℕ × List ℕ). a.0 ≢ b.0) (AreFresh def) (given_file name def) fresh
          (λ a b fresh_a fresh_b other same. true≢false (sym (subst (λ s. is_spot a.0 s ≡ true) (same_spot a.0 b.0 fresh_a.spot fresh_b.spot same) (spot_itself a.0)) ∙ other)) given once)

      gone_once : AllPairs (λ (a b : List ℕ). a ≢ b) gone
      gone_once =
          AllPairs-filter (λ (a b : List ℕ). a ≢ b) (λ f. not (is_listed (row_files name def) f)) (row_files name old)
          (pairs_tail (λ (a b : List ℕ). a ≢ b) (def_name name) (row_files name old) (files_apart name old name_is old_valid))

      apart : All (λ (file : List ℕ × List ℕ). All (λ other. file.0 ≢ other) gone) new_files
      apart k d below j e under = go (new_file (get_or new_files k d) (Contains-get_or new_files k d below))
        where
          other : List ℕ
          other = get_or gone j e

          held : Contains gone other
          held = Contains-get_or gone j e under

          go : ((get_or new_files k d).0 ≡ def_name name) ⊎ IsRowFileOf name def (get_or new_files k d).0 → (get_or new_files k d).0 ≢ other
          go (inl is) same = let of = gone_old other held in def_not_rows name name (leaf_of old of.0) (sym is ∙ same ∙ of.2)
          go (inr of) same = gone_not other held (subst (IsRowFileOf name def) same of)

      gone_held : All (λ file. IsSome (length_in lengths file)) gone
      gone_held =
          All-filter (λ f. not (is_listed (row_files name def) f)) (λ file. IsSome (length_in lengths file)) (row_files name old)
          (All-map (λ file. IsSome (length_in lengths file)) (spot_file name old) (spots_of old) (λ k d below. there (get_or (spots_of old) k d) (spots_each old k d below)))

      pub refiling_asks : IsReshape lengths new_files (of_acts (alter_acts lengths new_files gone))
      refiling_asks = alter_asks lengths new_files gone own own_gone new_once gone_once apart gone_held few

    -- ---- name by name

    module _ (lengths : List (List ℕ × ℕ)) (chain : Chain) (before : Files) (asks : IsReshape lengths new_files chain) (are : chain.acts ≡ alter_acts lengths new_files gone) where
      abbrev made : Files
      made = reshaped new_files chain before

      at_row : (spot : Spot) → IsSpotOf def spot → (o : Option (List Row)) → fresh_at fresh spot ≡ o → made (spot_file name def spot) ≡ option_or (option_map rows_text o) (before (spot_file name def spot))
      at_row spot is (Some rows) at =
          let file = spot_file name def spot in
          renewed lengths new_files gone chain before asks are file (rows_text rows)
          (ap (λ t. cond t (Some bytes) (by_name (map (given_file name def) fresh) file)) (other_test (def_name name) file (def_not_rows name name (leaf_of def spot)))
          ∙ given_there fresh spot given is ∙ ap (option_map rows_text) at)
      at_row spot is None at =
          let file = spot_file name def spot in
          left_alone lengths new_files gone chain before asks are file (row_plain name (leaf_of def spot)) not_new (λ other held same. gone_not other held (spot, is, same))
        where
          none : by_name new_files (spot_file name def spot) ≡ None
          none =
              ap (λ t. cond t (Some bytes) (by_name (map (given_file name def) fresh) (spot_file name def spot))) (other_test (def_name name) (spot_file name def spot) (def_not_rows name name (leaf_of def spot)))
              ∙ given_there fresh spot given is ∙ ap (option_map rows_text) at

          not_new : (file : List ℕ × List ℕ) → Contains new_files file → file.0 ≢ spot_file name def spot
          not_new file (k, within, at_k) same =
              let some : IsSome (by_name new_files (get_or new_files k file).0) = present_at new_files k file within in
              let here : is_some (by_name new_files (spot_file name def spot)) ≡ true = subst (λ query. is_some (by_name new_files query) ≡ true) (ap (λ (f : List ℕ × List ℕ). f.0) at_k ∙ same) some in
              true≢false (sym here ∙ ap is_some none)

      pub refiled : Refiles before made name old def fresh bytes
      refiled = record {
        at_def = renewed lengths new_files gone chain before asks are (def_name name) bytes (ap (λ t. cond t (Some bytes) (by_name (map (given_file name def) fresh) (def_name name))) ((bytes_eq-Decides (def_name name) (def_name name)).1 refl));
        rows = λ spot is. at_row spot is (fresh_at fresh spot) refl;
        gone = λ file of none. gone_away lengths new_files gone chain before asks are file (gone_there file of none);
        others = λ file plain not_def not_old not_new.
            left_alone lengths new_files gone chain before asks are file plain (λ other held same. go other same (new_file other held) not_def not_new) (λ other held same. not_old (subst (IsRowFileOf name old) same (gone_old other held)));
      }
        where
          go : {file : List ℕ} (other : List ℕ × List ℕ) → other.0 ≡ file → (other.0 ≡ def_name name) ⊎ IsRowFileOf name def other.0 → file ≢ def_name name → (IsRowFileOf name def file → ⊥) → ⊥
          go other same (inl is) not_def not_new = not_def (sym same ∙ is)
          go other same (inr of) not_def not_new = not_new (subst (IsRowFileOf name def) same of)
