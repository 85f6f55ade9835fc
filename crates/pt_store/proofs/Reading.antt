-- Files read one after the other, as a loop does.
use Rattle.std.proofs.Common.{◌≡◌, ℕ, suc, ◌+◌, ◌-◌, ◌^◌, ◌<◌, ◌≤◌, List, [], ◌∷◌, ◌++◌, length, take, drop, All, refl, sym, ap, subst, ◌∙◌, append_assoc, append-nil, arith, length-append, Bool, true, false, eqb}
use Rattle.std.proofs.lemmas.Bool.{eqb-true}
use Rattle.std.specs.Prelude.{Some}
use Rattle.std.specs.List.{flat_map}
use Rattle.std.proofs.lemmas.List.{take_at, drop_at, nil_from_length, flat_map_more}
use Rattle.std.proofs.lemmas.List.Elements.{All-push, All-nil, All-head, All-tail}
use Rattle.std.proofs.lemmas.Grind.{common_steps}
use Rattle.pt_host.specs.Listed.{FileList}
use Rattle.pt_store.specs.declared.entry.Entry.{Entry}
use Rattle.pt_left.specs.Spelling.{number, spelled_name, spelled_file, spelling, IsFile, SpellsFiles}
use Rattle.pt_store.specs.Entries.{IsEntry, AreEntries, Parses}
use Rattle.pt_left.proofs.Fields.{one_number, one_file, file_ends}

-- # Entries

pub no_entries : (bytes : List ℕ) → AreEntries bytes [] []
unfolding AreEntries
no_entries bytes = tt

pub push_entry : (bytes : List ℕ) (entries : List Entry) (files : FileList) (entry : Entry) (file : List ℕ × List ℕ) → AreEntries bytes entries files → IsEntry bytes entry file
    → AreEntries bytes (entries ++ entry ∷ []) (files ++ file ∷ [])
unfolding AreEntries
push_entry bytes [] [] entry file are is = (is, tt)
push_entry bytes [] (f ∷ files) entry file are is = absurd are
push_entry bytes (e ∷ entries) [] entry file are is = absurd are
push_entry bytes (e ∷ entries) (f ∷ files) entry file are is = (are.0, push_entry bytes entries files entry file are.1 is)

pub entries_long : (bytes : List ℕ) (entries : List Entry) (files : FileList) → AreEntries bytes entries files → length entries ≡ length files
unfolding AreEntries
entries_long bytes [] [] are = refl
entries_long bytes [] (f ∷ files) are = absurd are
entries_long bytes (e ∷ entries) [] are = absurd are
entries_long bytes (e ∷ entries) (f ∷ files) are = ap suc (entries_long bytes entries files are.1)

-- the same over more bytes
pub entries_more : (bytes more : List ℕ) (entries : List Entry) (files : FileList) → AreEntries bytes entries files → AreEntries (bytes ++ more) entries files
unfolding AreEntries
entries_more bytes more [] [] are = tt
entries_more bytes more [] (f ∷ files) are = absurd are
entries_more bytes more (e ∷ entries) [] are = absurd are
entries_more bytes more (e ∷ entries) (f ∷ files) are = (entry_more are.0, entries_more bytes more entries files are.1)
  where
    entry_more : IsEntry bytes e f → IsEntry (bytes ++ more) e f
    entry_more is = record {
      named = is.named;
      long = is.long;
      within = omega (arith, is.within, length-append bytes more);
      here = (let w : e.place + e.length ≤ length bytes = is.within in grind (arith, common_steps)) ∙ is.here;
    }

All-after : {X : Type 0} (P : X → Type 0) (xs ys : List X) → All (λ x. P x) (xs ++ ys) → All (λ x. P x) ys
All-after P [] ys all = all
All-after P (x ∷ xs) ys all = All-after P xs ys (All-tail P x (xs ++ ys) all)

pub length-file : (file : List ℕ × List ℕ) → length file.1 ≤ length (spelled_file file)
length-file file = omega (arith, ap (λ (b : List ℕ). length b) (file_ends file), length-append (spelled_name file.0 ++ number (length file.1)) file.1)

-- a part of bytes, by its place from their end
pub part_here : (bytes before part after : List ℕ) (place : ℕ) → bytes ≡ before ++ (part ++ after) → place ≡ length bytes - length after - length part → take (length part) (drop place bytes) ≡ part
part_here bytes before part after place e p =
    let long : length bytes ≡ length before + (length part + length after) =
    ap (λ (b : List ℕ). length b) e ∙ length-append before (part ++ after) ∙ ap (λ n. length before + n) (length-append part after) in
    ap (λ (b : List ℕ). take (length part) (drop place b)) e
    ∙ ap (take (length part)) (drop_at before (part ++ after) place (omega (arith, long, p)))
    ∙ take_at part after (length part) refl

-- # The loop

-- `done` of `count` files are read, and these bytes are left.
pub record Reading (bytes : List ℕ) (count done : ℕ) (entries : List Entry) (rest : List ℕ) : Type 0 where
  pub files : FileList
  pub entries_are : AreEntries bytes entries files
  pub each : All IsFile files
  pub many : length files ≡ done
  pub few : count < 2 ^ 64
  pub split : bytes ≡ number count ++ flat_map spelled_file files ++ rest
  pub only : (all : FileList) → SpellsFiles bytes all → (length all ≡ count) × (more : FileList) × (all ≡ files ++ more) × (rest ≡ flat_map spelled_file more)

pub none_without_number : (bytes : List ℕ) → ((n : ℕ) (rest : List ℕ) → n < 2 ^ 64 → bytes ≡ number n ++ rest → ⊥) → (files : FileList) → SpellsFiles bytes files → ⊥
unfolding spelling
none_without_number bytes none files s = none (length files) (flat_map spelled_file files) s.few s.spelled

pub reading_starts : (bytes : List ℕ) (count : ℕ) (rest : List ℕ) → count < 2 ^ 64 → bytes ≡ number count ++ rest → Reading bytes count 0 [] rest
unfolding spelling
reading_starts bytes count rest few e = record {
  files = [];
  entries_are = no_entries bytes;
  each = All-nil IsFile;
  many = refl;
  few = few;
  split = e ∙ ap (λ (b : List ℕ). b ++ rest) (sym (append-nil (number count)));
  only = λ all s.
      let same = one_number (length all) count (flat_map spelled_file all) rest s.few few (sym s.spelled ∙ e) in
      (same.0, all, refl, sym same.1);
}

module _ (bytes : List ℕ) (count done : ℕ) (entries : List Entry) (rest : List ℕ) (r : Reading bytes count done entries rest) where
  -- where files are left, each map that is spelled has one more
  next : done < count → (all : FileList) → SpellsFiles bytes all → (file : List ℕ × List ℕ) × (more : FileList) × (all ≡ (r.files ++ file ∷ []) ++ more) × IsFile file × (rest ≡ spelled_file file ++ flat_map spelled_file more)
  next below all s = let o = r.only all s in go o.1 o.0 o.2 o.3
    where
      go : (more : FileList) → length all ≡ count → all ≡ r.files ++ more → rest ≡ flat_map spelled_file more
          → (file : List ℕ × List ℕ) × (after : FileList) × (all ≡ (r.files ++ file ∷ []) ++ after) × IsFile file × (rest ≡ spelled_file file ++ flat_map spelled_file after)
      go [] long parts left = absurd (omega (arith, long, r.many, ap (λ (fs : FileList). length fs) parts, length-append r.files []))
      go (file ∷ after) long parts left = (
        file,
        after,
        parts ∙ sym (append_assoc r.files (file ∷ []) after),
        All-head IsFile file after (All-after IsFile r.files (file ∷ after) (subst (λ (fs : FileList). All IsFile fs) parts s.each)),
        left,
      )

  pub none_without_file : done < count → ((file : List ℕ × List ℕ) (more : List ℕ) → IsFile file → rest ≡ spelled_file file ++ more → ⊥) → (all : FileList) → SpellsFiles bytes all → ⊥
  none_without_file below none all s = let n = next below all s in none n.0 (flat_map spelled_file n.1) n.3 n.4

  module _ (file : List ℕ × List ℕ) (after : List ℕ) (is : IsFile file) (found : rest ≡ spelled_file file ++ after) where
    abbrev front : List ℕ
    front = number count ++ flat_map spelled_file r.files

    longer : length bytes ≡ length (number count ++ flat_map spelled_file r.files) + (length (spelled_file file) + length after)
    longer = ap (λ (b : List ℕ). length b) r.split ∙ length-append (number count ++ flat_map spelled_file r.files) rest
        ∙ ap (λ n. length (number count ++ flat_map spelled_file r.files) + n) (ap (λ (b : List ℕ). length b) found ∙ length-append (spelled_file file) after)

    -- the places of the file's bytes, from the end
    pub after_fits : length after ≤ length bytes
    after_fits = omega (arith, longer)

    pub content_fits : length file.1 ≤ length bytes - length after
    content_fits = omega (arith, longer, length-file file)

    pub reads_file : (entry : Entry) → done < count → entry.name ≡ file.0 → entry.length ≡ length file.1 → entry.place ≡ length bytes - length after - length file.1
        → Reading bytes count (done + 1) (entries ++ entry ∷ []) after
    reads_file entry below name long place = record {
      files = r.files ++ file ∷ [];
      entries_are = push_entry bytes entries r.files entry file r.entries_are (record {
        named = name;
        long = long;
        within = omega (arith, place, long, longer, length-file file);
        here = ap (λ n. take n (drop entry.place bytes)) long
            ∙ part_here bytes (front ++ (spelled_name file.0 ++ number (length file.1))) file.1 after entry.place
            (r.split ∙ ap (λ (b : List ℕ). front ++ b) (found ∙ ap (λ (b : List ℕ). b ++ after) (file_ends file) ∙ append_assoc (spelled_name file.0 ++ number (length file.1)) file.1 after)
            ∙ sym (append_assoc front (spelled_name file.0 ++ number (length file.1)) (file.1 ++ after))) place;
      });
      each = All-push IsFile r.files file r.each is;
      many = length-append r.files (file ∷ []) ∙ ap (λ n. n + 1) r.many;
      few = r.few;
      split = r.split ∙ ap (λ (b : List ℕ). front ++ b) found ∙ sym (append_assoc front (spelled_file file) after)
          ∙ ap (λ (b : List ℕ). b ++ after) (flat_map_more spelled_file (number count) r.files file);
      only = λ all s.
          let n = next below all s in
          let same = one_file file n.0 after (flat_map spelled_file n.1) is n.3 (sym found ∙ n.4) in
          ((r.only all s).0, n.1, n.2 ∙ ap (λ f. (r.files ++ f ∷ []) ++ n.1) (sym same.0), same.1);
    }

  none_left : count ≤ done → (all : FileList) → SpellsFiles bytes all → rest ≡ []
  none_left above all s = let o = r.only all s in o.3 ∙ ap (flat_map spelled_file) (nil_from_length o.1 (omega (arith, o.0, r.many, ap (λ (fs : FileList). length fs) o.2, length-append r.files o.1)))

  pub none_with_more : count ≤ done → (rest ≡ [] → ⊥) → (all : FileList) → SpellsFiles bytes all → ⊥
  none_with_more above more all s = more (none_left above all s)

  pub reading_ends : done ≤ count → count ≤ done → rest ≡ [] → Parses SpellsFiles bytes (Some entries)
  unfolding spelling
  reading_ends within above none =
      let many : count ≡ length r.files = omega (arith, r.many) in
      let whole : bytes ≡ number count ++ flat_map spelled_file r.files =
      (r.split ∙ ap (λ (b : List ℕ). number count ++ flat_map spelled_file r.files ++ b) none ∙ append-nil (number count ++ flat_map spelled_file r.files)) in
      (r.files, record { each = r.each; few = omega (arith, r.few, r.many); spelled = whole ∙ ap (λ n. number n ++ flat_map spelled_file r.files) many }, r.entries_are)

-- a list is empty exactly where its length is 0
pub some_left : (rest : List ℕ) (b : Bool) → b ≡ false → b ≡ eqb (length rest) 0 → rest ≡ [] → ⊥
some_left rest b is e none = let bad : true ≡ false = (ap (λ (xs : List ℕ). eqb (length xs) 0) (sym none) ∙ sym e ∙ is) in cc

pub none_is_left : (rest : List ℕ) (b : Bool) → b ≡ true → b ≡ eqb (length rest) 0 → rest ≡ []
none_is_left rest b is e = nil_from_length rest (eqb-true (length rest) 0 (sym e ∙ is))
