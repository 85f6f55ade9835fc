-- What the store is asked where a table's files come or go, and what that makes of files, name by name.
use Rattle.std.proofs.Common.{◌≡◌, ◌≢◌, ◌⊎◌, inl, inr, ℕ, zero, suc, ◌<◌, ◌≤◌, ◌^◌, Bool, true, false, true≢false, cond, List, [], ◌∷◌, ◌++◌, length, map, get_or, Option, Some, None, refl, sym, ap, ◌∙◌, subst, arith}
use Rattle.std.specs.Prelude.{Contains, IsSome}
use Rattle.std.specs.List.{All, AllPairs, list_any}
use Rattle.std.specs.Str.{bytes_eq}
use Rattle.std.proofs.lemmas.List.{get_or-map, length-map}
use Rattle.std.proofs.lemmas.List.Elements.{All-cons, All-map, All-nil, Contains-append_right}
use Rattle.std.proofs.lemmas.Slice.Eq.{bytes_eq-Decides}
use Rattle.pt_host.specs.Disk.{Files}
use Rattle.pt_host.specs.Images.{AreSame}
use Rattle.pt_host.specs.Listed.{FileList, by_name}
use Rattle.pt_host.specs.Name.{is_extra, shadow_end}
use Rattle.pt_host.proofs.Lookups.{present_at}
use Rattle.pt_names.specs.Names.{def_name}
use Rattle.pt_ddl_log.specs.declared.chain.Act.{Act}
use Rattle.pt_ddl_log.specs.declared.chain.Act.TheVariants.{Delete}
use Rattle.pt_ddl_log.specs.declared.chain.Chain.{Chain}
use Rattle.pt_ddl_log.specs.Chain.{names_of}
use Rattle.pt_ddl_log.specs.Clean.{AreApart, HasTwo, IsClean, IsLasting, is_exchange, names_but_from}
use Rattle.pt_ast.specs.declared.database.Spot.{Spot}
use Rattle.pt_ast.specs.declared.table.TableDef.{TableDef}
use Rattle.pt_place.specs.Place.{leaf_of}
use Rattle.pt_store.specs.Entries.{length_in}
use Rattle.pt_store.specs.Reshape.{Fits, Gives, IsReshape, ReshapesByName, fixed_names, reshaped}
use Rattle.pt_store.proofs.EachName.{each_name}
use Rattle.pt_db.specs.Spots.{IsSpotOf}
use Rattle.pt_holds.specs.Batch.{IsRowFileOf}
use Rattle.pt_holds.specs.Holds.{spot_file}
use Rattle.pt_holds.proofs.FileNames.{def_not_rows}
use Rattle.pt_session.specs.Shaping.{comes, empty_files, goes, row_files, table_files}
use Rattle.pt_session.proofs.FileEnds.{IsOwn, one_name, one_shadow, own_not_fixed, own_not_shadow, own_plain, shadow_extra, shadow_not_fixed, two_names}
use Rattle.pt_session.proofs.ShapeFiles.{from_map, listed_file, pairs_map, row_listed, to_map}

-- # Chains

abbrev pub of_acts : List Act → Chain
of_acts acts = record { acts = acts }

pub one_all : {X : Type 0} (P : X → Type 0) (x : X) → P x → All P (x ∷ [])
one_all P x h = All-cons P x [] h (All-nil P)

apart_comes : (a b : List ℕ) → IsOwn a → IsOwn b → a ≢ b → AreApart (comes a) (comes b)
apart_comes a b own_a own_b other name in_a in_b = go (two_names (a ++ shadow_end) a name in_a) (two_names (b ++ shadow_end) b name in_b)
  where
    go : (a ++ shadow_end ≡ name) ⊎ (a ≡ name) → (b ++ shadow_end ≡ name) ⊎ (b ≡ name) → ⊥
    go (inl x) (inl y) = other (one_shadow a b (x ∙ sym y))
    go (inl x) (inr y) = own_not_shadow b a own_b (y ∙ sym x)
    go (inr x) (inl y) = own_not_shadow a b own_a (x ∙ sym y)
    go (inr x) (inr y) = other (x ∙ sym y)

pub apart_goes : (a b : List ℕ) → a ≢ b → AreApart (goes a) (goes b)
apart_goes a b other name in_a in_b = other (one_name a name in_a ∙ sym (one_name b name in_b))

abbrev pub come : List ℕ × List ℕ → Act
come file = comes file.0

come_alone : (files : FileList) → list_any is_exchange (map come files) ≡ false
come_alone [] = refl
come_alone (file ∷ files) = come_alone files

pub go_alone : (files : List (List ℕ)) → list_any is_exchange (map goes files) ≡ false
go_alone [] = refl
go_alone (file ∷ files) = go_alone files

module _ (sizes : List (List ℕ × ℕ)) (fresh : FileList) (own : All (λ (file : List ℕ × List ℕ). IsOwn file.0) fresh) (once : AllPairs (λ (a b : List ℕ × List ℕ). a.0 ≢ b.0) fresh)
    (absent : All (λ (file : List ℕ × List ℕ). length_in sizes file.0 ≡ None) fresh) (few : length fresh < 2 ^ 32) where
  come_clean : IsClean (of_acts (map come fresh))
  come_clean = record {
    apart = pairs_map (λ (a b : List ℕ × List ℕ). a.0 ≢ b.0) AreApart (λ (file : List ℕ × List ℕ). IsOwn file.0) come fresh (λ a b own_a own_b other. apart_comes a.0 b.0 own_a own_b other) own once;
    lasting = All-map IsLasting come fresh (λ k d below. one_all (λ name. is_extra name ≡ false) (get_or fresh k d).0 (own_plain (get_or fresh k d).0 (own k d below)));
    two = All-map HasTwo come fresh (λ k d below. tt);
    alone = λ some. absurd (true≢false (sym some ∙ come_alone fresh));
  }

  pub come_asks : IsReshape sizes fresh (of_acts (map come fresh))
  come_asks = record {
    clean = come_clean;
    few = subst (λ n. n < 2 ^ 32) (sym (length-map fresh come)) few;
    fit = All-map (Fits sizes fresh) come fresh (λ k d below. (record { shadow = refl; bytes = present_at fresh k d below }, absent k d below));
    distinct = once;
    given = λ k d below. (come (get_or fresh k d), (k, omega (arith, below, length-map fresh come), get_or-map come fresh k d (come (get_or fresh k d)) below), refl);
    free = All-map (λ act. All (λ name. Contains fixed_names name → ⊥) (names_of act)) come fresh
        (λ k d below. let name = (get_or fresh k d).0 in
        All-cons (λ name. Contains fixed_names name → ⊥) (name ++ shadow_end) (name ∷ []) (shadow_not_fixed name) (one_all (λ name. Contains fixed_names name → ⊥) name (own_not_fixed name (own k d below))));
    short = All-map (λ act. All (λ name. length name ≤ 154) (names_but_from act)) come fresh (λ k d below. one_all (λ name. length name ≤ 154) (get_or fresh k d).0 (own k d below).short);
  }

module _ (sizes : List (List ℕ × ℕ)) (names : List (List ℕ)) (own : All IsOwn names) (once : AllPairs (λ (a b : List ℕ). a ≢ b) names) (held : All (λ name. IsSome (length_in sizes name)) names)
    (few : length names < 2 ^ 32) where
  go_clean : IsClean (of_acts (map goes names))
  go_clean = record {
    apart = pairs_map (λ (a b : List ℕ). a ≢ b) AreApart IsOwn goes names (λ a b own_a own_b other. apart_goes a b other) own once;
    lasting = All-map IsLasting goes names (λ k d below. one_all (λ name. is_extra name ≡ false) (get_or names k d) (own_plain (get_or names k d) (own k d below)));
    two = All-map HasTwo goes names (λ k d below. tt);
    alone = λ some. absurd (true≢false (sym some ∙ go_alone names));
  }

  pub go_asks : IsReshape sizes [] (of_acts (map goes names))
  go_asks = record {
    clean = go_clean;
    few = subst (λ n. n < 2 ^ 32) (sym (length-map names goes)) few;
    fit = All-map (Fits sizes []) goes names held;
    distinct = λ i j d before below. absurd (omega (arith, below));
    given = All-nil (λ (file : List ℕ × List ℕ). (act : Act) × Contains (map goes names) act × Gives file.0 act);
    free = All-map (λ act. All (λ name. Contains fixed_names name → ⊥) (names_of act)) goes names (λ k d below. one_all (λ name. Contains fixed_names name → ⊥) (get_or names k d) (own_not_fixed (get_or names k d) (own k d below)));
    short = All-map (λ act. All (λ name. length name ≤ 154) (names_but_from act)) goes names (λ k d below. one_all (λ name. length name ≤ 154) (get_or names k d) (own k d below).short);
  }

-- # Name by name

-- The file of a table's definition and those of its rows become these, and all that aren't extra and none of them stay.
pub record Reshapes (before after : Files) (name : List ℕ) (def : TableDef) (defined rows : Option (List ℕ)) : Type 0 where
  pub at_def : after (def_name name) ≡ defined
  pub at_row : (spot : Spot) → IsSpotOf def spot → after (spot_file name def spot) ≡ rows
  pub others : (file : List ℕ) → is_extra file ≡ false → file ≢ def_name name → (IsRowFileOf name def file → ⊥) → after file ≡ before file

-- read alike, it is so
pub reshapes_same : (before after other : Files) (name : List ℕ) (def : TableDef) (defined rows : Option (List ℕ)) → AreSame after other → Reshapes before after name def defined rows → Reshapes before other name def defined rows
reshapes_same before after other name def defined rows same is = record {
  at_def = same (def_name name) ∙ is.at_def;
  at_row = λ spot of. same (spot_file name def spot) ∙ is.at_row spot of;
  others = λ file plain not_def not_row. same file ∙ is.others file plain not_def not_row;
}

pub other_test : (a b : List ℕ) → a ≢ b → bytes_eq a b ≡ false
other_test a b other = go (bytes_eq a b) refl
  where
    go : (t : Bool) → bytes_eq a b ≡ t → t ≡ false
    go true e = absurd (other ((bytes_eq-Decides a b).0 e))
    go false e = refl

empty_there : (names : List (List ℕ)) (query : List ℕ) → Contains names query → by_name (empty_files names) query ≡ Some []
empty_there [] query held = absurd (let within = held.1 in omega (arith, within))
empty_there (name ∷ names) query (zero, within, is) = ap (λ t. cond t (Some []) (by_name (empty_files names) query)) ((bytes_eq-Decides name query).1 is)
empty_there (name ∷ names) query (suc k, within, is) = go (bytes_eq name query) (empty_there names query (k, omega (arith, within), is))
  where
    go : (t : Bool) → by_name (empty_files names) query ≡ Some [] → cond t (Some []) (by_name (empty_files names) query) ≡ Some []
    go true e = refl
    go false e = e

-- a fresh file is its definition's, or one of its rows
fresh_file : (name : List ℕ) (def : TableDef) (bytes : List ℕ) (file : List ℕ × List ℕ) → Contains ((def_name name, bytes) ∷ empty_files (row_files name def)) file → Contains (table_files name def) file.0
fresh_file name def bytes file (zero, within, is) = (0, omega arith, ap (λ (f : List ℕ × List ℕ). f.0) is)
fresh_file name def bytes file (suc k, within, is) =
    let one = from_map (λ (row : List ℕ). (row, [])) (row_files name def) file (k, omega (arith, within), is) in
    let same : one.0 ≡ file.0 = ap (λ (f : List ℕ × List ℕ). f.0) one.2 in
    subst (Contains (table_files name def)) same (Contains-append_right (def_name name ∷ []) (row_files name def) one.0 one.1)

module _ (sizes : List (List ℕ × ℕ)) (fresh : FileList) (chain : Chain) (files : Files) (asks : IsReshape sizes fresh chain) (name : List ℕ) (def : TableDef) where
  by : ReshapesByName fresh chain files
  by = each_name sizes fresh chain files asks

  -- no act names a file that is none of the table's
  none_of : (file : List ℕ) → file ≢ def_name name → (IsRowFileOf name def file → ⊥) → (other : List ℕ) → Contains (table_files name def) other → other ≢ file
  none_of file not_def not_row other held same = go (listed_file name def other held)
    where
      go : (other ≡ def_name name) ⊎ IsRowFileOf name def other → ⊥
      go (inl e) = not_def (sym same ∙ e)
      go (inr of) = not_row (subst (IsRowFileOf name def) same of)

  pub come_reshapes : (bytes : List ℕ) → fresh ≡ (def_name name, bytes) ∷ empty_files (row_files name def) → chain.acts ≡ map (λ (file : List ℕ × List ℕ). comes file.0) fresh
      → Reshapes files (reshaped fresh chain files) name def (Some bytes) (Some [])
  come_reshapes bytes are acts = record {
    at_def = by.given (def_name name) bytes
        (ap (λ (f : FileList). by_name f (def_name name)) are ∙ ap (λ t. cond t (Some bytes) (by_name (empty_files (row_files name def)) (def_name name))) ((bytes_eq-Decides (def_name name) (def_name name)).1 refl));
    at_row = λ spot is. let row = spot_file name def spot in
        by.given row []
        (ap (λ (f : FileList). by_name f row) are
        ∙ ap (λ t. cond t (Some bytes) (by_name (empty_files (row_files name def)) row)) (other_test (def_name name) row (def_not_rows name name (leaf_of def spot)))
        ∙ empty_there (row_files name def) row (row_listed name def spot is));
    others = λ file plain not_def not_row. by.others file plain (λ act there stands. none file plain not_def not_row act (subst (λ acts. Contains acts act) acts there) stands);
  }
    where
      none : (file : List ℕ) → is_extra file ≡ false → file ≢ def_name name → (IsRowFileOf name def file → ⊥) → (act : Act) → Contains (map (λ (f : List ℕ × List ℕ). comes f.0) fresh) act → Contains (names_of act) file → ⊥
      none file plain not_def not_row act there stands =
          let one = from_map (λ (f : List ℕ × List ℕ). comes f.0) fresh act there in
          let held = fresh_file name def bytes one.0 (subst (λ (f : FileList). Contains f one.0) are one.1) in
          go one.0.0 held (two_names (one.0.0 ++ shadow_end) one.0.0 file (subst (λ a. Contains (names_of a) file) (sym one.2) stands))
        where
          go : (other : List ℕ) → Contains (table_files name def) other → (other ++ shadow_end ≡ file) ⊎ (other ≡ file) → ⊥
          go other held (inl e) = true≢false (sym (shadow_extra other) ∙ ap is_extra e ∙ plain)
          go other held (inr e) = none_of file not_def not_row other held e

  pub go_reshapes : chain.acts ≡ map goes (table_files name def) → Reshapes files (reshaped fresh chain files) name def None None
  go_reshapes acts = record {
    at_def = by.deleted (def_name name) (subst (λ acts. Contains acts (Delete (def_name name))) (sym acts) (0, omega arith, refl));
    at_row = λ spot is.
        by.deleted (spot_file name def spot)
        (subst (λ acts. Contains acts (Delete (spot_file name def spot))) (sym acts)
        (to_map goes (table_files name def) (spot_file name def spot) (Contains-append_right (def_name name ∷ []) (row_files name def) (spot_file name def spot) (row_listed name def spot is))));
    others = λ file plain not_def not_row. by.others file plain (λ act there stands. none file not_def not_row act (subst (λ acts. Contains acts act) acts there) stands);
  }
    where
      none : (file : List ℕ) → file ≢ def_name name → (IsRowFileOf name def file → ⊥) → (act : Act) → Contains (map goes (table_files name def)) act → Contains (names_of act) file → ⊥
      none file not_def not_row act there stands =
          let one = from_map goes (table_files name def) act there in
          none_of file not_def not_row one.0 one.1 (one_name one.0 file (subst (λ a. Contains (names_of a) file) (sym one.2) stands))
