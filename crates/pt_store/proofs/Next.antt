-- The files of the next map, as the code makes them.
use Rattle.std.proofs.Common.{◌≡◌, ℕ, Bool, true, false, cond, not, is_some, List, [], ◌∷◌, ◌++◌, map, refl, sym, ap, ◌∙◌, subst}
use Rattle.std.specs.Prelude.{Option, Some, None}
use Rattle.std.specs.Option.{option_map}
use Rattle.std.specs.List.{filter}
use Rattle.std.specs.List.Sorted.{IsStrictlySortedBy}
use Rattle.std.specs.BTreeMap.{BTreeMap}
use Rattle.std.specs.Cmp.Lexicographic.{slice_cmp}
use Rattle.std.specs.Ordering.{nat_cmp}
use Rattle.std.specs.Str.{bytes_eq}
use Rattle.pt_host.specs.Disk.{Files, put, moved}
use Rattle.pt_host.specs.Images.{AreSame}
use Rattle.pt_host.specs.Listed.{AreRising, by_name}
use Rattle.pt_host.specs.Name.{is_extra, shadow_end}
use Rattle.pt_ddl_log.specs.declared.chain.Act.{Act}
use Rattle.pt_ddl_log.specs.declared.chain.Act.TheVariants.{Delete, Rename, Replace, Exchange}
use Rattle.pt_ddl_log.specs.declared.chain.Chain.{Chain}
use Rattle.pt_ddl_log.specs.Chain.{act_on, after_act}
use Rattle.pt_store.specs.declared.entry.Entry.{Entry}
use Rattle.pt_store.specs.Batch.{added, appended}
use Rattle.pt_store.specs.Contents.{files_in}
use Rattle.pt_store.specs.Entries.{AreInOrder, length_in, size_of}
use Rattle.pt_store.specs.Reshape.{with_shadows, without_extra, reshaped, IsReshaped, held, HasNames}
use Rattle.pt_store.proofs.Maps.{added_alike, put_alike, act_alike, same_then}
use Rattle.pt_store.proofs.Listing.{one_list, appended_read, appended_rising, appended_names, tree_read, lasting_read, listed_acts, listed_shadows, listed_lasting}

-- # Sameness through a reshape

pub shadows_alike : (fresh : List (List ℕ × List ℕ)) (f g : Files) → AreSame f g → AreSame (with_shadows fresh f) (with_shadows fresh g)
shadows_alike [] f g same = same
shadows_alike (file ∷ fresh) f g same = shadows_alike fresh (put f (file.0 ++ shadow_end) (Some file.1)) (put g (file.0 ++ shadow_end) (Some file.1)) (put_alike f g (file.0 ++ shadow_end) (Some file.1) same)

pub acts_alike : (acts : List Act) (f g : Files) → AreSame f g → AreSame (act_on acts f) (act_on acts g)
acts_alike [] f g same = same
acts_alike (act ∷ acts) f g same = acts_alike acts (after_act act f) (after_act act g) (act_alike act f g same)

lasting_alike : (f g : Files) → AreSame f g → AreSame (without_extra f) (without_extra g)
lasting_alike f g same query = ap (λ file. cond (is_extra query) None file) (same query)

reshaped_alike : (fresh : List (List ℕ × List ℕ)) (chain : Chain) (f g : Files) → AreSame f g → AreSame (reshaped fresh chain f) (reshaped fresh chain g)
reshaped_alike fresh chain f g same = lasting_alike (act_on chain.acts (with_shadows fresh f)) (act_on chain.acts (with_shadows fresh g)) (acts_alike chain.acts (with_shadows fresh f) (with_shadows fresh g) (shadows_alike fresh f g same))

back : (f g : Files) → AreSame f g → AreSame g f
back f g same query = sym (same query)

-- # What the code makes

module _ (entries : List Entry) (first : BTreeMap (List ℕ) (List ℕ)) (order : AreInOrder entries) (named : map (λ (file : List ℕ × List ℕ). file.0) first.entries ≡ map (λ (entry : Entry). entry.name) entries) where
  pub first_rising : AreRising first.entries
  first_rising = subst (IsStrictlySortedBy (slice_cmp nat_cmp)) (sym named) order

  module _ (batch : List (List ℕ × List ℕ)) (later : BTreeMap (List ℕ) (List ℕ)) (files : List (List ℕ × List ℕ)) (rising : AreRising files) (is : files ≡ later.entries) (does : AreSame (added batch (files_in first)) (files_in later)) where
    pub appended_is : files ≡ appended batch first.entries
    appended_is = one_list files (appended batch first.entries) rising (appended_rising batch first.entries first_rising) (λ query.
        appended_read batch first.entries query
        ∙ added_alike batch (files_in first) (by_name first.entries) (tree_read first) query
        ∙ sym (does query) ∙ sym (tree_read later query)
        ∙ ap (λ fs. by_name fs query) (sym is))

    pub appended_named : map (λ (file : List ℕ × List ℕ). file.0) files ≡ map (λ (entry : Entry). entry.name) entries
    appended_named = ap (map (λ (file : List ℕ × List ℕ). file.0)) appended_is ∙ appended_names batch first.entries ∙ named

  module _ (fresh : List (List ℕ × List ℕ)) (chain : Chain) (shadowed acted : BTreeMap (List ℕ) (List ℕ)) (files : List (List ℕ × List ℕ)) (rising : AreRising files) (is : files ≡ filter (λ file. not (is_extra file.0)) acted.entries)
      (puts : AreSame (with_shadows fresh (files_in first)) (files_in shadowed)) (does : AreSame (act_on chain.acts (files_in shadowed)) (files_in acted)) where
    pub reshaped_is : IsReshaped fresh chain first.entries files
    reshaped_is = record {
      rising = rising;
      files = λ query.
          ap (λ fs. by_name fs query) is ∙ lasting_read acted.entries query
          ∙ ap (λ file. cond (is_extra query) None file)
          (tree_read acted query ∙ does query
          ∙ acts_alike chain.acts (with_shadows fresh (by_name first.entries)) (files_in shadowed)
          (same_then (with_shadows fresh (by_name first.entries)) (with_shadows fresh (files_in first)) (files_in shadowed)
          (shadows_alike fresh (by_name first.entries) (files_in first) (back (files_in first) (by_name first.entries) (tree_read first))) puts) query);
    }

-- # Names alone

-- the same names are there
abbrev pub AreThere : Files → Files → Type 0
AreThere f g = (query : List ℕ) → is_some (f query) ≡ is_some (g query)

there_cond : (t : Bool) (a b x y : Option (List ℕ)) → is_some a ≡ is_some b → is_some x ≡ is_some y → is_some (cond t a x) ≡ is_some (cond t b y)
there_cond true a b x y same rest = same
there_cond false a b x y same rest = rest

put_there : (f g : Files) (name : List ℕ) (a b : Option (List ℕ)) → is_some a ≡ is_some b → AreThere f g → AreThere (put f name a) (put g name b)
put_there f g name a b same rest query = there_cond (bytes_eq name query) a b (f query) (g query) same (rest query)

moved_there : (f g : Files) (from to : List ℕ) (a b : Option (List ℕ)) → is_some a ≡ is_some b → AreThere f g → AreThere (moved f from to a) (moved g from to b)
moved_there f g from to None None same rest = rest
moved_there f g from to None (Some y) same rest = let bad : false ≡ true = same in cc
moved_there f g from to (Some x) None same rest = let bad : true ≡ false = same in cc
moved_there f g from to (Some x) (Some y) same rest = put_there (put f from None) (put g from None) to (Some x) (Some y) refl (put_there f g from None None refl rest)

act_there : (act : Act) (f g : Files) → AreThere f g → AreThere (after_act act f) (after_act act g)
act_there (Delete name) f g rest = put_there f g name None None refl rest
act_there (Rename from to) f g rest = moved_there f g from to (f from) (g from) (rest from) rest
act_there (Replace from to) f g rest = moved_there f g from to (f from) (g from) (rest from) rest
act_there (Exchange a b) f g rest = put_there (put f a (f b)) (put g a (g b)) b (f a) (g a) (rest a) (put_there f g a (f b) (g b) (rest b) rest)

acts_there : (acts : List Act) (f g : Files) → AreThere f g → AreThere (act_on acts f) (act_on acts g)
acts_there [] f g rest = rest
acts_there (act ∷ acts) f g rest = acts_there acts (after_act act f) (after_act act g) (act_there act f g rest)

shadows_there : (fresh : List (List ℕ × List ℕ)) (f g : Files) → AreThere f g → AreThere (with_shadows fresh f) (with_shadows fresh g)
shadows_there [] f g rest = rest
shadows_there (file ∷ fresh) f g rest = shadows_there fresh (put f (file.0 ++ shadow_end) (Some file.1)) (put g (file.0 ++ shadow_end) (Some file.1)) (put_there f g (file.0 ++ shadow_end) (Some file.1) (Some file.1) refl rest)

pub reshaped_there : (fresh : List (List ℕ × List ℕ)) (chain : Chain) (f g : Files) → AreThere f g → AreThere (reshaped fresh chain f) (reshaped fresh chain g)
reshaped_there fresh chain f g rest query = there_cond (is_extra query) None None (act_on chain.acts (with_shadows fresh f) query) (act_on chain.acts (with_shadows fresh g) query) refl (acts_there chain.acts (with_shadows fresh f) (with_shadows fresh g) (shadows_there fresh f g rest) query)

-- files of these names are there where an entry holds the name
pub held_there : (files : List (List ℕ × List ℕ)) (entries : List Entry) → map (λ (file : List ℕ × List ℕ). file.0) files ≡ map (λ (entry : Entry). entry.name) entries → AreThere (by_name files) (held (map size_of entries))
held_there [] [] named query = refl
held_there [] (e ∷ entries) named query = let bad : [] ≡ e.name ∷ map (λ (entry : Entry). entry.name) entries = named in cc
held_there (file ∷ files) [] named query = let bad : file.0 ∷ map (λ (f : List ℕ × List ℕ). f.0) files ≡ [] = named in cc
held_there (file ∷ files) (e ∷ entries) named query = go (bytes_eq e.name query) first refl (held_there files entries rest query)
  where
    both : file.0 ∷ map (λ (f : List ℕ × List ℕ). f.0) files ≡ e.name ∷ map (λ (entry : Entry). entry.name) entries
    both = named

    first : file.0 ≡ e.name
    first = cc

    rest : map (λ (f : List ℕ × List ℕ). f.0) files ≡ map (λ (entry : Entry). entry.name) entries
    rest = cc

    go : (t : Bool) → file.0 ≡ e.name → bytes_eq e.name query ≡ t → is_some (by_name files query) ≡ is_some (held (map size_of entries) query)
        → is_some (cond (bytes_eq file.0 query) (Some file.1) (by_name files query)) ≡ is_some (option_map {U = List ℕ} (λ size. []) (cond t (Some e.length) (length_in (map size_of entries) query)))
    go true same e_is later = ap (λ b. is_some (cond b (Some file.1) (by_name files query))) (ap (λ n. bytes_eq n query) same ∙ e_is)
    go false same e_is later = ap (λ b. is_some (cond b (Some file.1) (by_name files query))) (ap (λ n. bytes_eq n query) same ∙ e_is) ∙ later

pub reshaped_names : (entries : List Entry) (before files fresh : List (List ℕ × List ℕ)) (chain : Chain) → map (λ (file : List ℕ × List ℕ). file.0) before ≡ map (λ (entry : Entry). entry.name) entries → IsReshaped fresh chain before files → HasNames (map size_of entries) fresh chain files
reshaped_names entries before files fresh chain named is = record {
  rising = is.rising;
  names = λ name. ap (λ file. is_some file) (is.files name) ∙ reshaped_there fresh chain (by_name before) (held (map size_of entries)) (held_there before entries named) name;
}

-- # There is such a list

pub reshaped_listed : (fresh : List (List ℕ × List ℕ)) (chain : Chain) (files : List (List ℕ × List ℕ)) → AreRising files → (next : List (List ℕ × List ℕ)) × IsReshaped fresh chain files next
reshaped_listed fresh chain files rising =
    let made = listed_lasting (act_on chain.acts (with_shadows fresh (by_name files))) (listed_acts chain.acts (with_shadows fresh (by_name files)) (listed_shadows fresh (by_name files) (record { list = files; rising = rising; same = λ query. refl }))) in
    (made.list, record { rising = made.rising; files = made.same })
