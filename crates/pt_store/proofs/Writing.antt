-- Files spelled one after the other, as a loop does.
use Rattle.std.proofs.Common.{◌≡◌, ℕ, ◌-◌, ◌^◌, ◌<◌, ◌≤◌, List, [], ◌∷◌, ◌++◌, length, take, drop, All, sym, ap, ◌∙◌, append_assoc, append-nil, arith, length-append, subst}
use Rattle.std.specs.List.{flat_map}
use Rattle.std.proofs.lemmas.List.{flat_map_more, take_all}
use Rattle.std.proofs.lemmas.List.Elements.{All-push, All-nil}
use Rattle.pt_host.specs.Listed.{FileList}
use Rattle.pt_store.specs.declared.entry.Entry.{Entry}
use Rattle.pt_left.specs.Spelling.{number, spelled_name, spelled_bytes, spelled_file, spelling, IsFile, SpellsFiles}
use Rattle.pt_store.specs.Entries.{AreEntries}
use Rattle.pt_left.proofs.Fields.{file_ends}
use Rattle.pt_store.proofs.Reading.{no_entries, push_entry, entries_more, part_here, length-file}

-- the parts of a file's spelling, written behind one another
pub file_written : (out a b c d name bytes : List ℕ) → a ≡ out ++ length name ∷ [] → b ≡ a ++ name → c ≡ b ++ number (length bytes) → d ≡ c ++ bytes → d ≡ out ++ spelled_file (name, bytes)
unfolding spelled_file spelled_bytes spelled_name
file_written out a b c d name bytes e f g h = rw (h, g, f, e) (simp append_assoc)

-- What is written of `count` files, once these are.
pub record Writing (count : ℕ) (out : List ℕ) (entries : List Entry) (done : FileList) : Type 0 where
  pub bytes : out ≡ number count ++ flat_map spelled_file done
  pub entries_are : AreEntries out entries done
  pub each : All IsFile done

pub writing_starts : (count : ℕ) → Writing count (number count) [] []
writing_starts count = record { bytes = sym (append-nil (number count)); entries_are = no_entries (number count); each = All-nil IsFile }

module _ (out longer : List ℕ) (file : List ℕ × List ℕ) (e : longer ≡ out ++ spelled_file file) where
  pub content_written : length file.1 ≤ length longer
  content_written = omega (arith, ap (λ (b : List ℕ). length b) e, length-append out (spelled_file file), length-file file)

  pub writes_file : (count : ℕ) (entries : List Entry) (done : FileList) (entry : Entry) → Writing count out entries done → IsFile file
      → entry.name ≡ file.0 → entry.length ≡ length file.1 → entry.place ≡ length longer - length file.1 → Writing count longer (entries ++ entry ∷ []) (done ++ file ∷ [])
  writes_file count entries done entry w is name long place = record {
    bytes = e ∙ ap (λ (b : List ℕ). b ++ spelled_file file) w.bytes ∙ flat_map_more spelled_file (number count) done file;
    entries_are = push_entry longer entries done entry file
        (subst (λ (b : List ℕ). AreEntries b entries done) (sym e) (entries_more out (spelled_file file) entries done w.entries_are))
        (record {
          named = name;
          long = long;
          within = omega (arith, place, long, content_written);
          here = ap (λ n. take n (drop entry.place longer)) long
              ∙ part_here longer (out ++ (spelled_name file.0 ++ number (length file.1))) file.1 [] entry.place
              (e ∙ ap (λ (b : List ℕ). out ++ b) (file_ends file) ∙ sym (append_assoc out (spelled_name file.0 ++ number (length file.1)) file.1)
              ∙ ap (λ (b : List ℕ). (out ++ (spelled_name file.0 ++ number (length file.1))) ++ b) (sym (append-nil file.1)))
              (place ∙ ap (λ n. n - length file.1) (let none : length longer ≡ length longer - 0 = omega arith in none));
        });
    each = All-push IsFile done file w.each is;
  }

-- the loop is through
pub writing_through : (files : FileList) (i : ℕ) (out : List ℕ) (entries : List Entry) → length files ≤ i → Writing (length files) out entries (take i files) → Writing (length files) out entries files
writing_through files i out entries above w = subst (λ done. Writing (length files) out entries done) (take_all i files above) w

pub writing_ends : (out : List ℕ) (entries : List Entry) (files : FileList) → length files < 2 ^ 64 → Writing (length files) out entries files → SpellsFiles out files
unfolding spelling
writing_ends out entries files few w = record { each = w.each; few = few; spelled = w.bytes }
