-- The places of files by their names.
use Rattle.std.proofs.Common.{◌≡◌, ◌∙◌, ℕ, suc, ◌+◌, ◌<◌, Bool, true, false, cond, List, [], ◌∷◌, length, drop, get_or, add-one, refl, sym, ap, arith}
use Rattle.std.specs.Prelude.{Some}
use Rattle.std.specs.Option.{option_map}
use Rattle.std.specs.Str.{bytes_eq}
use Rattle.std.proofs.Math.Seq.{drop-cons}
use Rattle.pt_host.specs.Disk.{Names, Object, put, shown, IsAtRest}
use Rattle.pt_host.specs.Listed.{FileList, by_name}
use Rattle.pt_memhost.specs.Law.{counted_from, start_object}
use Rattle.pt_memhost.specs.Story.{start_fs}

-- the places of the files from one of them on
abbrev pub places_from : ℕ → FileList → Names
places_from first files = counted_from first (drop first files)

pub places_step : (i first : ℕ) (files : FileList) (file : List ℕ × List ℕ) → first ≡ i + 1 → i < length files → file ≡ get_or files i file
    → put (places_from first files) file.0 (Some i) ≡ places_from i files
places_step i first files file e below is = rw (e, cons) refl
  where
    cons : drop i files ≡ file ∷ drop (i + 1) files
    cons = drop-cons files i file below ∙ ap (λ f. f ∷ drop (suc i) files) (sym is) ∙ ap (λ n. file ∷ drop n files) (sym (add-one i))

-- what is read at the places of files, by their names
read_by_name : (files : FileList) (first : ℕ) (read : ℕ → List ℕ) (name : List ℕ) → ((k : ℕ) → k < length files → read (first + k) ≡ (get_or files k ([], [])).1)
    → option_map read (counted_from first files name) ≡ by_name files name
read_by_name [] first read name each = refl
read_by_name (file ∷ files) first read name each = go (bytes_eq file.0 name) (read_by_name files (first + 1) read name after)
  where
    here : read first ≡ file.1
    here = ap read (let e : first ≡ first + 0 = omega arith in e) ∙ each 0 (omega arith)

    after : (k : ℕ) → k < length files → read (first + 1 + k) ≡ (get_or files k ([], [])).1
    after k below = ap read (let e : first + 1 + k ≡ first + suc k = omega arith in e) ∙ each (suc k) (omega arith)

    go : (b : Bool) → option_map read (counted_from (first + 1) files name) ≡ by_name files name → option_map read (cond b (Some first) (counted_from (first + 1) files name)) ≡ cond b (Some file.1) (by_name files name)
    go true rest = ap Some here
    go false rest = rest

pub start_shown : (files : FileList) (name : List ℕ) → shown (start_fs files) name ≡ by_name files name
start_shown files name = read_by_name files 0 _ name (λ k below. ap (λ (o : Object). o.bytes) (start_object files (0 + k)) ∙ ap (λ i. (get_or files i ([], [])).1) (let e : 0 + k ≡ k = omega arith in e))

pub start_rests : (files : FileList) → IsAtRest (start_fs files)
start_rests files = record {
  settled = refl;
  whole = λ object. rw (start_object files object) (omega arith);
  firm = λ object. rw (start_object files object) refl;
}
