-- What a directory stands for, by its `whole.map`.
use Rattle.std.proofs.Common.{◌≡◌, ◌≢◌, ℕ, zero, suc, ◌<◌, List, [], ◌∷◌, length, map, get_or, All, refl, sym, ap, subst, ◌∙◌, arith, Ordering, Less, Equal, Greater}
use Rattle.std.specs.Prelude.{Some, Contains}
use Rattle.std.specs.Cmp.Lexicographic.{slice_cmp}
use Rattle.std.specs.Ordering.{nat_cmp}
use Rattle.std.proofs.lemmas.List.Elements.{All-from_recursion}
use Rattle.std.proofs.lemmas.Map.Keys.{sorted_head, sorted_tail}
use Rattle.pt_host.specs.Disk.{Fs, Files, EachImage, IsAtRest, shown}
use Rattle.pt_host.specs.Listed.{FileList, AreRising}
use Rattle.pt_host.proofs.Shown.{at_rest_images}
use Rattle.pt_left.specs.Spelling.{SpellsFiles}
use Rattle.pt_left.specs.Left.{whole_name, shadow_name, serials_name, placed, with_serials, GivesMap, Left, IsLeft}

pub apart : whole_name ≢ shadow_name
apart e = omega (arith, ap (λ (b : List ℕ). length b) e)

pub apart_back : shadow_name ≢ whole_name
apart_back e = apart (sym e)

-- a directory is told by `whole.map` alone
pub left_same : (map : FileList) (x y : Files) → y whole_name ≡ x whole_name → Left x map → Left y map
left_same map x y same left = subst (λ whole. GivesMap whole map) (sym same) left

-- at rest it is what is read
pub at_rest_left : (fs : Fs) (map : FileList) → IsAtRest fs → Left (shown fs) map → EachImage fs (IsLeft map)
at_rest_left fs map rest left files image = left_same map (shown fs) files (at_rest_images fs rest files image whole_name) left

serials_is : (name : List ℕ) (o : Ordering) → slice_cmp nat_cmp name serials_name ≡ o → name ≡ serials_name → o ≡ Equal
serials_is name o at is = sym at ∙ ap (λ (n : List ℕ). slice_cmp nat_cmp n serials_name) is

-- a map that has a `serials.cnt` is complete
pub with_serials_same : (files : FileList) → AreRising files → Contains (map (λ f. f.0) files) serials_name → with_serials files ≡ files
unfolding with_serials
with_serials_same [] rising has = absurd (omega (arith, has.1))
with_serials_same (f ∷ files) rising has =
    go (slice_cmp nat_cmp f.0 serials_name) refl has.0 has.1 has.2
    (λ k within here. with_serials_same files (sorted_tail (slice_cmp nat_cmp) f.0 (map (λ g. g.0) files) rising) (k, within, here))
  where
    head : All (λ name. slice_cmp nat_cmp f.0 name ≡ Less) (map (λ g. g.0) files)
    head = All-from_recursion (λ name. slice_cmp nat_cmp f.0 name ≡ Less) (map (λ g. g.0) files) (sorted_head (slice_cmp nat_cmp) f.0 (map (λ g. g.0) files) rising)

    go : (o : Ordering) → slice_cmp nat_cmp f.0 serials_name ≡ o → (k : ℕ) → k < length (map (λ g. g.0) (f ∷ files)) → get_or (map (λ g. g.0) (f ∷ files)) k serials_name ≡ serials_name
        → ((j : ℕ) → j < length (map (λ g. g.0) files) → get_or (map (λ g. g.0) files) j serials_name ≡ serials_name → with_serials files ≡ files)
        → placed o f files (with_serials files) ≡ f ∷ files
    go Equal at k within here rest = refl
    go Less at zero within here rest = let bad : Less ≡ Equal = serials_is f.0 Less at here in cc
    go Less at (suc k) within here rest = ap (λ fs. f ∷ fs) (rest k (omega arith) here)
    go Greater at zero within here rest = let bad : Greater ≡ Equal = serials_is f.0 Greater at here in cc
    go Greater at (suc k) within here rest =
        let less : slice_cmp nat_cmp f.0 (get_or (map (λ g. g.0) files) k serials_name) ≡ Less = head k serials_name (omega arith) in
        let bad : Greater ≡ Less = (sym at ∙ ap (slice_cmp nat_cmp f.0) (sym here) ∙ less) in cc

pub spelled_stands : (bytes : List ℕ) (files : FileList) → SpellsFiles bytes files → AreRising files → Contains (map (λ f. f.0) files) serials_name → GivesMap (Some bytes) files
spelled_stands bytes files s rising has = record {
  spelled = files;
  is = record { map = record { each = s.each; rising = rising }; few = s.few; spelled = s.spelled };
  complete = sym (with_serials_same files rising has);
}
