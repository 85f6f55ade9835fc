-- Bytes spell one map at most, and a directory stands for one at most.
use Rattle.std.proofs.Common.{◌≡◌, ℕ, zero, suc, List, [], ◌∷◌, length, map, All, IsTrue, Ordering, Less, Equal, Greater, refl, sym, ap, ap₂, ◌∙◌, arith}
use Rattle.std.specs.Prelude.{Option, Some, None, Contains}
use Rattle.std.specs.List.{flat_map, AllByRecursion}
use Rattle.std.specs.Cmp.Lexicographic.{slice_cmp}
use Rattle.std.specs.Ordering.{nat_cmp, ordering_reverse, is_eq}
use Rattle.std.proofs.lemmas.List.Elements.{All-head, All-tail, All-cons, All-nil, All-from_recursion}
use Rattle.std.proofs.lemmas.Cmp.{nat_list_cmp_total}
use Rattle.std.proofs.lemmas.Map.Keys.{sorted_head, sorted_tail}
use Rattle.std.proofs.lemmas.Map.Text.{is_eq-slice_cmp}
use Rattle.std.proofs.lemmas.Slice.Eq.{bytes_eq-Decides}
use Rattle.pt_host.specs.Disk.{Files}
use Rattle.pt_plain.proofs.Rising.{sorted_cons, sorted_nil}
use Rattle.pt_host.specs.Name.{is_name_byte}
use Rattle.pt_host.specs.Listed.{FileList, AreRising}
use Rattle.pt_left.specs.Spelling.{spelled_file, spelling, IsFile, IsMap, SpellsFiles, Spells}
use Rattle.pt_left.specs.Left.{whole_name, with_serials, SpelledIn, GivesMap, Left, placed, serials_name}
use Rattle.pt_left.proofs.Fields.{one_number, one_file}

same_files : (a b : FileList) → length a ≡ length b → All IsFile a → All IsFile b → flat_map spelled_file a ≡ flat_map spelled_file b → a ≡ b
same_files [] [] long is_a is_b e = refl
same_files [] (g ∷ b) long is_a is_b e = let bad : zero ≡ suc (length b) = long in cc
same_files (f ∷ a) [] long is_a is_b e = let bad : suc (length a) ≡ zero = long in cc
same_files (f ∷ a) (g ∷ b) long is_a is_b e =
    let one = one_file f g (flat_map spelled_file a) (flat_map spelled_file b) (All-head IsFile f a is_a) (All-head IsFile g b is_b) e in
    ap₂ (λ (x : List ℕ × List ℕ) (xs : FileList). x ∷ xs) one.0
    (same_files a b (let h : suc (length a) ≡ suc (length b) = long in cc) (All-tail IsFile f a is_a) (All-tail IsFile g b is_b) one.1)

pub spells_once : (bytes : List ℕ) (a b : FileList) → SpellsFiles bytes a → SpellsFiles bytes b → a ≡ b
unfolding spelling
spells_once bytes a b s t =
    let one = one_number (length a) (length b) (flat_map spelled_file a) (flat_map spelled_file b) s.few t.few (sym s.spelled ∙ t.spelled) in
    same_files a b one.0 s.each t.each one.1

pub files_spelled : (bytes : List ℕ) (files : FileList) → Spells bytes files → SpellsFiles bytes files
files_spelled bytes files s = record { each = s.map.each; few = s.few; spelled = s.spelled }

pub map_once : (bytes : List ℕ) (a b : FileList) → Spells bytes a → Spells bytes b → a ≡ b
map_once bytes a b s t = spells_once bytes a b (files_spelled bytes a s) (files_spelled bytes b t)

pub spelled_once : (whole : Option (List ℕ)) (a b : FileList) → SpelledIn whole a → SpelledIn whole b → a ≡ b
spelled_once None a b s t = s ∙ sym t
spelled_once (Some bytes) a b s t = map_once bytes a b s t

pub stands_once : (whole : Option (List ℕ)) (a b : FileList) → GivesMap whole a → GivesMap whole b → a ≡ b
stands_once whole a b s t = s.complete ∙ ap with_serials (spelled_once whole s.spelled t.spelled s.is t.is) ∙ sym t.complete

pub left_once : (files : Files) (a b : FileList) → Left files a → Left files b → a ≡ b
left_once files = stands_once (files whole_name)

-- # The map that a directory stands for

serials_file : IsFile (serials_name, [])
serials_file = record { named = record { some = omega arith; fits = omega arith; each = All-from_recursion (λ b. IsTrue (is_name_byte b)) serials_name (refl, (refl, (refl, (refl, (refl, (refl, (refl, (refl, (refl, (refl, (refl, tt))))))))))); first = λ e. omega (arith, e) }; fits = omega arith }

with_each : (o : Ordering) (f : List ℕ × List ℕ) (files rest : FileList) → All IsFile (f ∷ files) → All IsFile rest → All IsFile (placed o f files rest)
with_each Less f files rest each more = All-cons IsFile f rest (All-head IsFile f files each) more
with_each Equal f files rest each more = each
with_each Greater f files rest each more = All-cons IsFile (serials_name, []) (f ∷ files) serials_file each

complete_each : (files : FileList) → All IsFile files → All IsFile (with_serials files)
unfolding with_serials
complete_each [] each = All-cons IsFile (serials_name, []) [] serials_file (All-nil IsFile)
complete_each (f ∷ files) each = with_each (slice_cmp nat_cmp f.0 serials_name) f files (with_serials files) each (complete_each files (All-tail IsFile f files each))

-- what holds of each name, and of `serials.cnt`
complete_names : (P : List ℕ → Type 0) (files : FileList) → AllByRecursion P (map (λ f. f.0) files) → P serials_name → AllByRecursion P (map (λ f. f.0) (with_serials files))
unfolding with_serials
complete_names P [] each here = (here, tt)
complete_names P (f ∷ files) each here = go (slice_cmp nat_cmp f.0 serials_name) (complete_names P files each.1 here)
  where
    go : (o : Ordering) → AllByRecursion P (map (λ f. f.0) (with_serials files)) → AllByRecursion P (map (λ f. f.0) (placed o f files (with_serials files)))
    go Less rest = (each.0, rest)
    go Equal rest = each
    go Greater rest = (here, each)

less_back : (a b : List ℕ) → slice_cmp nat_cmp a b ≡ Greater → slice_cmp nat_cmp b a ≡ Less
less_back a b e = nat_list_cmp_total.antisymm b a ∙ ap ordering_reverse e

all_later : (low name : List ℕ) (names : List (List ℕ)) → slice_cmp nat_cmp low name ≡ Less → AllByRecursion (λ y. slice_cmp nat_cmp name y ≡ Less) names → AllByRecursion (λ y. slice_cmp nat_cmp low y ≡ Less) names
all_later low name [] less each = tt
all_later low name (y ∷ names) less each = (nat_list_cmp_total.trans low name y less each.0, all_later low name names less each.1)

complete_rising : (files : FileList) → AreRising files → AreRising (with_serials files)
unfolding with_serials
complete_rising [] rising = sorted_cons (slice_cmp nat_cmp) serials_name [] tt (sorted_nil (slice_cmp nat_cmp))
complete_rising (f ∷ files) rising = go (slice_cmp nat_cmp f.0 serials_name) refl (complete_rising files (sorted_tail (slice_cmp nat_cmp) f.0 (map (λ g. g.0) files) rising))
  where
    head : AllByRecursion (λ y. slice_cmp nat_cmp f.0 y ≡ Less) (map (λ g. g.0) files)
    head = sorted_head (slice_cmp nat_cmp) f.0 (map (λ g. g.0) files) rising

    go : (o : Ordering) → slice_cmp nat_cmp f.0 serials_name ≡ o → AreRising (with_serials files) → AreRising (placed o f files (with_serials files))
    go Less at rest = sorted_cons (slice_cmp nat_cmp) f.0 (map (λ g. g.0) (with_serials files)) (complete_names (λ y. slice_cmp nat_cmp f.0 y ≡ Less) files head at) rest
    go Equal at rest = rising
    go Greater at rest =
        sorted_cons (slice_cmp nat_cmp) serials_name (map (λ g. g.0) (f ∷ files))
        (less_back f.0 serials_name at, all_later serials_name f.0 (map (λ g. g.0) files) (less_back f.0 serials_name at) head) rising

nat_list_equal : (a b : List ℕ) → slice_cmp nat_cmp a b ≡ Equal → a ≡ b
nat_list_equal a b e = (bytes_eq-Decides a b).0 (sym (is_eq-slice_cmp a b) ∙ ap is_eq e)

complete_has : (files : FileList) → Contains (map (λ f. f.0) (with_serials files)) serials_name
unfolding with_serials
complete_has [] = (0, omega arith, refl)
complete_has (f ∷ files) = go (slice_cmp nat_cmp f.0 serials_name) refl (complete_has files)
  where
    go : (o : Ordering) → slice_cmp nat_cmp f.0 serials_name ≡ o → Contains (map (λ g. g.0) (with_serials files)) serials_name → Contains (map (λ g. g.0) (placed o f files (with_serials files))) serials_name
    go Less at has = (suc has.0, omega (arith, has.1), has.2)
    go Equal at has = (0, omega arith, nat_list_equal f.0 serials_name at)
    go Greater at has = (0, omega arith, refl)

pub left_map : (directory : Files) (files : FileList) → Left directory files → IsMap files
left_map directory files left = rw left.complete (go (directory whole_name) left.spelled left.is)
  where
    go : (whole : Option (List ℕ)) (spelled : FileList) → SpelledIn whole spelled → IsMap (with_serials spelled)
    go None spelled is = rw is (record { each = complete_each [] (All-nil IsFile); rising = complete_rising [] (sorted_nil (slice_cmp nat_cmp)) })
    go (Some bytes) spelled is = record { each = complete_each spelled is.map.each; rising = complete_rising spelled is.map.rising }

pub left_has : (directory : Files) (files : FileList) → Left directory files → Contains (map (λ f. f.0) files) serials_name
left_has directory files left = rw left.complete (complete_has left.spelled)
