-- The batch of a change.
use Rattle.std.proofs.Common.{◌≡◌, ◌≢◌, ◌⊎◌, inl, inr, ℕ, ◌<◌, ◌^◌, Bool, true, false, cond, List, [], ◌∷◌, ◌++◌, length, map, get_or, Option, Some, None, refl, sym, ap, ap₂, ◌∙◌, subst, arith, append-nil, length-append, Less}
use Rattle.std.specs.Prelude.{codes}
use Rattle.std.specs.Cmp.Lexicographic.{slice_cmp}
use Rattle.std.specs.List.{All, AllPairs, AllByRecursion, flat_map}
use Rattle.std.specs.Option.{IsSome, is_some, option_map, unwrap_or}
use Rattle.std.specs.Ordering.{is_eq, nat_cmp}
use Rattle.std.specs.Str.{bytes_eq}
use Rattle.std.proofs.lemmas.Bool.{true≢false}
use Rattle.std.proofs.lemmas.Grind.{flat_map-append}
use Rattle.std.proofs.lemmas.List.Elements.{All-cons, All-filter, All-head, All-map, All-nil, All-tail, recursion_from_All}
use Rattle.std.proofs.lemmas.List.Kept.{AllPairs-cons}
use Rattle.std.proofs.lemmas.Map.Keys.{sorted_head, sorted_tail}
use Rattle.std.proofs.lemmas.Map.Text.{is_eq-slice_cmp}
use Rattle.std.proofs.lemmas.Slice.Eq.{bytes_eq-Decides}
use Rattle.pt_host.specs.Disk.{Files}
use Rattle.pt_host.specs.Images.{AreSame}
use Rattle.pt_host.specs.Listed.{AreRising, FileList, by_name}
use Rattle.pt_host.proofs.Lookups.{present_at}
use Rattle.pt_bytes.specs.Numbers.{le_bytes}
use Rattle.pt_names.specs.Names.{lowered, row_name, serials_name, spot_name}
use Rattle.pt_names.proofs.Spots.{same_ends, same_parts}
use Rattle.pt_ast.specs.declared.database.Row.{Row}
use Rattle.pt_ast.specs.declared.database.Spot.{Spot}
use Rattle.pt_ast.specs.declared.table.TableDef.{TableDef}
use Rattle.pt_place.specs.Place.{leaf_of}
use Rattle.pt_place.specs.Valid.{IsValid}
use Rattle.pt_rowfile.specs.declared.record.Record.{Record}
use Rattle.pt_rowfile.specs.declared.record.Record.TheVariants.{Put, Delete}
use Rattle.pt_rowfile.specs.Records.{IsRecord, record_bytes}
use Rattle.pt_store.specs.Batch.{added_to}
use Rattle.pt_db.specs.Rows.{is_spot}
use Rattle.pt_db.specs.Spots.{IsSpotOf}
use Rattle.pt_db.proofs.Spots.{spot_itself, spot_same}
use Rattle.pt_holds.specs.Batch.{IsBatchOf, IsRowFileOf, deletes_in, puts_in, records_in}
use Rattle.pt_holds.specs.Holds.{spot_file}
use Rattle.pt_holds.specs.RowChanges.{IsRowChange}
use Rattle.pt_holds.specs.Texts.{Adds, deletes_text, only_at, puts_text, text_at}
use Rattle.pt_holds.specs.declared.change.RowChange.{RowChange}
use Rattle.pt_holds.proofs.FileNames.{rows_not_serials}
use Rattle.pt_holds.proofs.Leaves.{one_leaf}
use Rattle.pt_holds.proofs.Left.{deletes_of, puts_of}
use Rattle.pt_holds.proofs.Texts.{other_text}

-- ---- rising files stand once each

less_other : (a b : List ℕ) → slice_cmp nat_cmp a b ≡ Less → a ≢ b
less_other a b less same =
    let tie : is_eq (slice_cmp nat_cmp a b) ≡ true = is_eq-slice_cmp a b ∙ (bytes_eq-Decides a b).1 same in
    true≢false (sym tie ∙ ap is_eq less)

others_differ : (name : List ℕ) (files : FileList) → AllByRecursion (λ y. slice_cmp nat_cmp name y ≡ Less) (map (λ (file : List ℕ × List ℕ). file.0) files) → All (λ (file : List ℕ × List ℕ). name ≢ file.0) files
others_differ name [] each = All-nil (λ (file : List ℕ × List ℕ). name ≢ file.0)
others_differ name (file ∷ files) each = All-cons (λ (f : List ℕ × List ℕ). name ≢ f.0) file files (less_other name file.0 each.0) (others_differ name files each.1)

head_differs : (file : List ℕ × List ℕ) (files : FileList) → AreRising (file ∷ files) → All (λ (other : List ℕ × List ℕ). file.0 ≢ other.0) files
head_differs file files up = others_differ file.0 files (sorted_head (slice_cmp nat_cmp) file.0 (map (λ (f : List ℕ × List ℕ). f.0) files) up)

behind : (file : List ℕ × List ℕ) (files : FileList) → AreRising (file ∷ files) → AreRising files
behind file files up = sorted_tail (slice_cmp nat_cmp) file.0 (map (λ (f : List ℕ × List ℕ). f.0) files) up

once : (files : FileList) → AreRising files → AllPairs (λ (a b : List ℕ × List ℕ). a.0 ≢ b.0) files
once [] up = λ i j d before below. absurd (omega (arith, below))
once (file ∷ files) up = AllPairs-cons (λ (a b : List ℕ × List ℕ). a.0 ≢ b.0) file files (head_differs file files up) (once files (behind file files up))

none_added : (files : FileList) (query : List ℕ) → All (λ (file : List ℕ × List ℕ). query ≢ file.0) files → added_to files query ≡ []
none_added [] query apart = refl
none_added (file ∷ files) query apart =
    ap₂ (λ (a b : List ℕ). a ++ b) (by_test (bytes_eq file.0 query) refl) (none_added files query (All-tail (λ (f : List ℕ × List ℕ). query ≢ f.0) file files apart))
  where
    by_test : (t : Bool) → bytes_eq file.0 query ≡ t → cond t file.1 [] ≡ []
    by_test true e = absurd (All-head (λ (f : List ℕ × List ℕ). query ≢ f.0) file files apart (sym ((bytes_eq-Decides file.0 query).0 e)))
    by_test false e = refl

-- so what they add to a name is what stands there
added_is : (files : FileList) (query : List ℕ) → AreRising files → added_to files query ≡ text_at (by_name files) query
added_is [] query up = refl
added_is (file ∷ files) query up = by_test (bytes_eq file.0 query) refl (added_is files query (behind file files up))
  where
    by_test : (t : Bool) → bytes_eq file.0 query ≡ t → added_to files query ≡ text_at (by_name files) query → cond t file.1 [] ++ added_to files query ≡ unwrap_or (cond t (Some file.1) (by_name files query)) []
    by_test true e rest =
        ap (λ (xs : List ℕ). file.1 ++ xs) (none_added files query (subst (λ (n : List ℕ). All (λ (f : List ℕ × List ℕ). n ≢ f.0) files) ((bytes_eq-Decides file.0 query).0 e) (head_differs file files up)))
        ∙ append-nil file.1
    by_test false e rest = rest

-- ---- the file of a spot is no other spot's

leaf_from_file : (name : List ℕ) (l m : Option (List ℕ)) → row_name name l ≡ row_name name m → option_map lowered l ≡ option_map lowered m
leaf_from_file name l m e = go l m (same_ends (spot_name name l) (spot_name name m) (codes ".rows") (codes ".rows") refl e).0
  where
    longer : (low : List ℕ) → name ≡ name ++ codes "#" ++ low → ⊥
    longer low same = omega (arith, ap (λ (xs : List ℕ). length xs) same, length-append (name ++ codes "#") low, length-append name (codes "#"))

    go : (l m : Option (List ℕ)) → spot_name name l ≡ spot_name name m → option_map lowered l ≡ option_map lowered m
    go None None same = refl
    go None (Some y) same = absurd (longer (lowered y) same)
    go (Some x) None same = absurd (longer (lowered x) (sym same))
    go (Some x) (Some y) same = ap (λ (low : List ℕ). Some low) (same_parts (name ++ codes "#") (name ++ codes "#") (lowered x) (lowered y) refl same).1

module _ (name : List ℕ) (def : TableDef) (valid : IsValid def) (spot : Spot) (of : IsSpotOf def spot) where
  file_test : (other : Spot) → IsSpotOf def other → bytes_eq (spot_file name def other) (spot_file name def spot) ≡ is_spot spot other
  file_test other is = go (bytes_eq (spot_file name def other) (spot_file name def spot)) (is_spot spot other) refl refl
    where
      go : (s t : Bool) → bytes_eq (spot_file name def other) (spot_file name def spot) ≡ s → is_spot spot other ≡ t → bytes_eq (spot_file name def other) (spot_file name def spot) ≡ is_spot spot other
      go true t e there =
          let file = (bytes_eq-Decides (spot_file name def other) (spot_file name def spot)).0 e in
          let same : other ≡ spot = one_leaf def valid other spot is of (leaf_from_file name (leaf_of def other) (leaf_of def spot) file) in
          e ∙ sym (subst (λ (s : Spot). is_spot spot s ≡ true) (sym same) (spot_itself spot))
      go false false e there = e ∙ sym there
      go false true e there =
          let same : spot ≡ other = spot_same spot other there in
          absurd (true≢false (sym ((bytes_eq-Decides (spot_file name def other) (spot_file name def spot)).1 (ap (spot_file name def) (sym same))) ∙ e))

  deletes_at : (deletes : List (Spot × ℕ)) → All (λ (d : Spot × ℕ). IsSpotOf def d.0) deletes → deletes_text name def deletes (spot_file name def spot) ≡ flat_map record_bytes (deletes_of (deletes_in spot deletes))
  deletes_at [] spots = refl
  deletes_at (d ∷ deletes) spots =
      ap (λ t. cond t (record_bytes (Delete d.1)) [] ++ deletes_text name def deletes (spot_file name def spot)) (file_test d.0 (All-head (λ (e : Spot × ℕ). IsSpotOf def e.0) d deletes spots))
      ∙ by_test (is_spot spot d.0) (deletes_at deletes (All-tail (λ (e : Spot × ℕ). IsSpotOf def e.0) d deletes spots))
    where
      by_test : (t : Bool) → deletes_text name def deletes (spot_file name def spot) ≡ flat_map record_bytes (deletes_of (deletes_in spot deletes))
          → cond t (record_bytes (Delete d.1)) [] ++ deletes_text name def deletes (spot_file name def spot) ≡ flat_map record_bytes (deletes_of (cond t (d ∷ deletes_in spot deletes) (deletes_in spot deletes)))
      by_test true rest = ap (λ (xs : List ℕ). record_bytes (Delete d.1) ++ xs) rest
      by_test false rest = rest

  puts_at : (puts : List (Spot × Row)) → All (λ (p : Spot × Row). IsSpotOf def p.0) puts → puts_text name def puts (spot_file name def spot) ≡ flat_map record_bytes (puts_of (puts_in spot puts))
  puts_at [] spots = refl
  puts_at (p ∷ puts) spots =
      ap (λ t. cond t (record_bytes (Put p.1)) [] ++ puts_text name def puts (spot_file name def spot)) (file_test p.0 (All-head (λ (q : Spot × Row). IsSpotOf def q.0) p puts spots))
      ∙ by_test (is_spot spot p.0) (puts_at puts (All-tail (λ (q : Spot × Row). IsSpotOf def q.0) p puts spots))
    where
      by_test : (t : Bool) → puts_text name def puts (spot_file name def spot) ≡ flat_map record_bytes (puts_of (puts_in spot puts))
          → cond t (record_bytes (Put p.1)) [] ++ puts_text name def puts (spot_file name def spot) ≡ flat_map record_bytes (puts_of (cond t (p ∷ puts_in spot puts) (puts_in spot puts)))
      by_test true rest = ap (λ (xs : List ℕ). record_bytes (Put p.1) ++ xs) rest
      by_test false rest = rest

-- ---- its records

each_both : (a b : List Record) → AllByRecursion IsRecord a → AllByRecursion IsRecord b → AllByRecursion IsRecord (a ++ b)
each_both [] b each_a each_b = each_b
each_both (entry ∷ a) b each_a each_b = (each_a.0, each_both a b each_a.1 each_b)

proper_records : (spot : Spot) (change : RowChange) → All (λ (d : Spot × ℕ). IsRecord (Delete d.1)) change.deletes → All (λ (p : Spot × Row). IsRecord (Put p.1)) change.puts → AllByRecursion IsRecord (records_in spot change)
proper_records spot change deletes puts =
    each_both (deletes_of (deletes_in spot change.deletes)) (puts_of (puts_in spot change.puts))
    (recursion_from_All IsRecord (deletes_of (deletes_in spot change.deletes)) (All-map IsRecord (λ (d : Spot × ℕ). Delete d.1) (deletes_in spot change.deletes)
    (All-filter (λ (d : Spot × ℕ). is_spot spot d.0) (λ (d : Spot × ℕ). IsRecord (Delete d.1)) change.deletes deletes)))
    (recursion_from_All IsRecord (puts_of (puts_in spot change.puts)) (All-map IsRecord (λ (p : Spot × Row). Put p.1) (puts_in spot change.puts)
    (All-filter (λ (p : Spot × Row). is_spot spot p.0) (λ (p : Spot × Row). IsRecord (Put p.1)) change.puts puts)))

-- ---- the whole

module _ (batch : FileList) (def : TableDef) (change : RowChange) (a b c d : Files) (valid : IsValid def) (is : IsRowChange def change) (up : AreRising batch) (empty : (query : List ℕ) → a query ≡ None)
    (deletes : Adds a b (deletes_text change.table def change.deletes) (IsRowFileOf change.table def)) (puts : Adds b c (puts_text change.table def change.puts) (IsRowFileOf change.table def))
    (next : Adds c d (only_at serials_name (le_bytes 8 change.next)) (λ query. serials_name ≡ query)) (all : AreSame d (by_name batch)) (few : length batch < 2 ^ 32) where
  whole_text : (query : List ℕ) → added_to batch query ≡ (deletes_text change.table def change.deletes query ++ puts_text change.table def change.puts query) ++ only_at serials_name (le_bytes 8 change.next) query
  whole_text query =
      added_is batch query up
      ∙ ap (λ (o : Option (List ℕ)). unwrap_or o []) (all query)
      ∙ next.text query
      ∙ ap (λ (xs : List ℕ). xs ++ only_at serials_name (le_bytes 8 change.next) query)
      (puts.text query ∙ ap (λ (xs : List ℕ). xs ++ puts_text change.table def change.puts query)
      (deletes.text query ∙ ap (λ (o : Option (List ℕ)). unwrap_or o [] ++ deletes_text change.table def change.deletes query) (empty query)))

  -- at another name than the counter's
  not_counter : (query : List ℕ) → query ≢ serials_name → added_to batch query ≡ deletes_text change.table def change.deletes query ++ puts_text change.table def change.puts query
  not_counter query apart =
      whole_text query
      ∙ ap (λ (xs : List ℕ). (deletes_text change.table def change.deletes query ++ puts_text change.table def change.puts query) ++ xs) (by_test (bytes_eq serials_name query) refl)
      ∙ append-nil (deletes_text change.table def change.deletes query ++ puts_text change.table def change.puts query)
    where
      by_test : (t : Bool) → bytes_eq serials_name query ≡ t → cond t (le_bytes 8 change.next) [] ≡ []
      by_test true e = absurd (apart (sym ((bytes_eq-Decides serials_name query).0 e)))
      by_test false e = refl

  none_of : (query : List ℕ) → (IsRowFileOf change.table def query → ⊥) → deletes_text change.table def change.deletes query ++ puts_text change.table def change.puts query ≡ []
  none_of query none =
      ap₂ (λ (xs ys : List ℕ). xs ++ ys)
      (other_text (λ (e : Spot × ℕ). e.0) (λ (e : Spot × ℕ). record_bytes (Delete e.1)) (λ (e : Spot × ℕ). IsRecord (Delete e.1)) change.table def change.deletes query is.deletes none)
      (other_text (λ (p : Spot × Row). p.0) (λ (p : Spot × Row). record_bytes (Put p.1)) (λ (p : Spot × Row). IsRecord (Put p.1)) change.table def change.puts query is.puts none)

  named : (query : List ℕ) → IsSome (by_name batch query) → (query ≡ serials_name) ⊎ IsRowFileOf change.table def query
  named query some = from_next (next.names query (subst (λ (o : Option (List ℕ)). IsSome o) (all query) some))
    where
      from_deletes : IsSome (a query) ⊎ IsRowFileOf change.table def query → (query ≡ serials_name) ⊎ IsRowFileOf change.table def query
      from_deletes (inl there) = absurd (true≢false (sym there ∙ ap (λ (o : Option (List ℕ)). is_some o) (empty query)))
      from_deletes (inr of) = inr of

      from_puts : IsSome (b query) ⊎ IsRowFileOf change.table def query → (query ≡ serials_name) ⊎ IsRowFileOf change.table def query
      from_puts (inl there) = from_deletes (deletes.names query there)
      from_puts (inr of) = inr of

      from_next : IsSome (c query) ⊎ (serials_name ≡ query) → (query ≡ serials_name) ⊎ IsRowFileOf change.table def query
      from_next (inl there) = from_puts (puts.names query there)
      from_next (inr same) = inl (sym same)

  pub batch_is : All (λ (e : Spot × ℕ). IsRecord (Delete e.1)) change.deletes → All (λ (p : Spot × Row). IsRecord (Put p.1)) change.puts → IsBatchOf batch def change
  batch_is proper_deletes proper_puts = record {
    rows = λ spot of.
        not_counter (spot_file change.table def spot) (rows_not_serials change.table (leaf_of def spot))
        ∙ ap₂ (λ (xs ys : List ℕ). xs ++ ys) (deletes_at change.table def valid spot of change.deletes is.deletes) (puts_at change.table def valid spot of change.puts is.puts)
        ∙ sym (flat_map-append record_bytes (deletes_of (deletes_in spot change.deletes)) (puts_of (puts_in spot change.puts)));
    proper = λ spot of. proper_records spot change proper_deletes proper_puts;
    counter =
        whole_text serials_name
        ∙ ap (λ (xs : List ℕ). xs ++ only_at serials_name (le_bytes 8 change.next) serials_name) (none_of serials_name (λ of. rows_not_serials change.table (leaf_of def of.0) (sym of.2)))
        ∙ ap (λ t. cond t (le_bytes 8 change.next) []) ((bytes_eq-Decides serials_name serials_name).1 refl);
    others = λ file apart none. not_counter file apart ∙ none_of file none;
    once = once batch up;
    each = λ k file within. named (get_or batch k file).0 (present_at batch k file within);
    few = few;
  }
