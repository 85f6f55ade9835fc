-- The names of a table's row files, one spot after the other.
use Rattle.std.proofs.Common.{◌≡◌, ℕ, ◌+◌, List, [], ◌∷◌, ◌++◌, map, sym, ap, ◌∙◌, arith}
use Rattle.std.specs.List.{flat_map, range_with_len}
use Rattle.std.proofs.lemmas.List.{append-nil, append_assoc, map-append, map-id}
use Rattle.std.proofs.lemmas.List.Concat.{flat_map-append}
use Rattle.std.proofs.lemmas.List.FromFn.{map-range_with_len_more}
use Rattle.pt_ast.specs.declared.table.TableDef.{TableDef}
use Rattle.pt_db.specs.Spots.{spot_at, spots_in}
use Rattle.pt_holds.specs.Holds.{spot_file}

one_more : (n : ℕ) → range_with_len 0 (n + 1) ≡ range_with_len 0 n ++ n ∷ []
one_more n = sym (map-id (range_with_len 0 (n + 1))) ∙ map-range_with_len_more (λ k. k) 0 n n (omega arith) ∙ ap (λ xs. xs ++ n ∷ []) (map-id (range_with_len 0 n))

module _ (name : List ℕ) (def : TableDef) where
  -- those of the partitions before this one
  abbrev pub files_before : ℕ → List (List ℕ)
  files_before part = map (spot_file name def) (flat_map (spots_in def) (range_with_len 0 part))

  pub files_more : (part : ℕ) → files_before (part + 1) ≡ files_before part ++ map (spot_file name def) (spots_in def part)
  files_more part =
      ap (λ parts. map (spot_file name def) (flat_map (spots_in def) parts)) (one_more part)
      ∙ ap (map (spot_file name def)) (flat_map-append (spots_in def) (range_with_len 0 part) (part ∷ []) ∙ ap (λ spots. flat_map (spots_in def) (range_with_len 0 part) ++ spots) (append-nil (spots_in def part)))
      ∙ map-append (spot_file name def) (flat_map (spots_in def) (range_with_len 0 part)) (spots_in def part)

  -- those of the subpartitions before this one
  abbrev pub sub_files : ℕ → ℕ → List (List ℕ)
  sub_files part sub = map (spot_file name def) (map (spot_at part) (range_with_len 0 sub))

  pub sub_files_more : (names : List (List ℕ)) (part sub : ℕ) → (names ++ sub_files part sub) ++ spot_file name def (spot_at part sub) ∷ [] ≡ names ++ sub_files part (sub + 1)
  sub_files_more names part sub =
      append_assoc names (sub_files part sub) (spot_file name def (spot_at part sub) ∷ [])
      ∙ ap (λ files. names ++ files)
      (sym (ap (map (spot_file name def)) (map-range_with_len_more (spot_at part) 0 sub sub (omega arith)) ∙ map-append (spot_file name def) (map (spot_at part) (range_with_len 0 sub)) (spot_at part sub ∷ [])))
