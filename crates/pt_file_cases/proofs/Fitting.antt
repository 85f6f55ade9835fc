-- A batch whose names rise names each file once, and what is tested of a reshape is what it asks.
use Rattle.std.proofs.Common.{◌≡◌, ◌≢◌, ℕ, ◌<◌, ◌≤◌, ◌^◌, true, false, List, [], length, get_or, map, All, Contains, sym, ap, ap₂, ◌∙◌, subst, refl, arith, Less}
use Rattle.std.specs.Prelude.{IsSome, AllPairs, Bool, ◌||◌, cond, Option, Some, ◌∷◌}
use Rattle.std.specs.Str.{bytes_eq}
use Rattle.std.specs.Cmp.Lexicographic.{slice_cmp}
use Rattle.std.specs.Ordering.{nat_cmp, is_eq}
use Rattle.std.proofs.lemmas.Bool.{false≢true}
use Rattle.std.proofs.lemmas.Cmp.{nat_list_eq_equiv}
use Rattle.std.proofs.lemmas.List.{get_or-map, length-map}
use Rattle.std.proofs.lemmas.List.Folds.{Any-from_list_any}
use Rattle.std.proofs.lemmas.Map.Views.{list_any-from_Contains}
use Rattle.std.proofs.lemmas.Map.Keys.{Less-from_sorted}
use Rattle.std.proofs.lemmas.Map.Text.{is_eq-slice_cmp}
use Rattle.std.proofs.lemmas.Slice.Eq.{bytes_eq-Decides}
use Rattle.pt_host.specs.Listed.{FileList, AreRising, by_name}
use Rattle.pt_ddl_log.specs.declared.chain.Act.{Act}
use Rattle.pt_ddl_log.specs.declared.chain.Act.TheVariants.{Delete, Rename, Replace, Exchange}
use Rattle.pt_ddl_log.specs.declared.chain.Chain.{Chain}
use Rattle.pt_ddl_log.specs.Clean.{IsClean}
use Rattle.pt_store.specs.Batch.{IsBatch}
use Rattle.pt_store.specs.Entries.{length_in}
use Rattle.pt_store.specs.Reshape.{Gives, IsReshape, fixed_names}
use Rattle.pt_file_cases.specs.Tests.{IsGiven, MayBeDone, any_gives, gives, has_file, is_fixed}

not_less : (a b : List ℕ) → slice_cmp nat_cmp a b ≡ Less → a ≢ b
not_less a b less same = let bad : true ≡ false = (sym ((bytes_eq-Decides a b).1 same) ∙ sym (is_eq-slice_cmp a b) ∙ ap is_eq less) in cc

distinct : (files : FileList) → AreRising files → AllPairs (λ (a b : List ℕ × List ℕ). a.0 ≢ b.0) files
distinct files rising i j d less within =
    not_less (get_or files i d).0 (get_or files j d).0
    (ap₂ (slice_cmp nat_cmp) (sym (get_or-map (λ (f : List ℕ × List ℕ). f.0) files i d [] (omega arith))) (sym (get_or-map (λ (f : List ℕ × List ℕ). f.0) files j d [] within))
    ∙ Less-from_sorted (slice_cmp nat_cmp) (map (λ (f : List ℕ × List ℕ). f.0) files) i j [] rising less (subst (λ n. j < n) (sym (length-map files (λ (f : List ℕ × List ℕ). f.0))) within))

pub batch_is : (sizes : List (List ℕ × ℕ)) (batch : FileList) → AreRising batch → length batch ≤ 1000 → All (λ (part : List ℕ × List ℕ). IsSome (length_in sizes part.0)) batch → IsBatch sizes batch
batch_is sizes batch rising few each = record { distinct = distinct batch rising; held = each; few = omega arith }

-- # A reshape

this_or_later : (this later : Bool) (bytes : List ℕ) (others : Option (List ℕ)) → (later ≡ true → IsSome others) → (this || later) ≡ true → IsSome (cond this (Some bytes) others)
this_or_later true later bytes others behind found = refl
this_or_later false later bytes others behind found = behind found

-- a file of that name has bytes
pub has_bytes : (files : FileList) (name : List ℕ) → has_file files name ≡ true → IsSome (by_name files name)
has_bytes [] name bad = absurd (false≢true bad)
has_bytes (file ∷ files) name found = this_or_later (bytes_eq file.0 name) (has_file files name) file.1 (by_name files name) (has_bytes files name) found

gives_it : (name : List ℕ) (act : Act) → gives name act ≡ true → Gives name act
gives_it name (Delete other) bad = absurd (false≢true bad)
gives_it name (Rename from to) same = (bytes_eq-Decides to name).0 same
gives_it name (Replace from to) same = (bytes_eq-Decides to name).0 same
gives_it name (Exchange a b) bad = absurd (false≢true bad)

pub giver : (acts : List Act) (name : List ℕ) → any_gives acts name ≡ true → IsGiven acts name
giver acts name found =
    let one = Any-from_list_any (gives name) acts found in
    record { act = one.1; there = (one.0, one.2, one.3); is = gives_it name one.1 one.4 }

is_free : (name : List ℕ) → is_fixed name ≡ false → Contains fixed_names name → ⊥
is_free name free has = false≢true (sym free ∙ list_any-from_Contains {eq = bytes_eq} nat_list_eq_equiv name fixed_names has)

pub reshape_is : (sizes : List (List ℕ × ℕ)) (fresh : FileList) (chain : Chain) → AreRising fresh → IsClean chain → MayBeDone sizes fresh chain.acts → IsReshape sizes fresh chain
reshape_is sizes fresh chain rising clean may = record {
  clean = clean;
  few = omega (arith, may.few);
  fit = may.fit;
  distinct = distinct fresh rising;
  given = λ i d within. let one = may.given i d within in (one.act, one.there, one.is);
  free = λ i d within j e inside. is_free _ (may.free i d within j e inside);
  short = may.short;
}
