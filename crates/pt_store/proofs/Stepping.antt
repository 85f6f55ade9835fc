-- Calls that change the map: what was read first changes nothing, and what stopped them is told by the store.
use Rattle.std.proofs.Common.{◌≡◌, ◌≢◌, ℕ, ◌+◌, ◌-◌, ◌<◌, ◌≤◌, Bool, true, false, cond, ◌||◌, is_some, List, [], ◌∷◌, ◌++◌, length, drop, map, get_or, refl, sym, ap, ◌∙◌, subst, inl, arith, length-append, All}
use Rattle.std.specs.Prelude.{Option, Some, None, Result, Ok, Err, Contains, IsSome, IsTrue, nat_eq}
use Rattle.std.specs.Option.{option_map}
use Rattle.std.specs.Str.{bytes_eq}
use Rattle.std.specs.List.{ends_with}
use Rattle.std.specs.Cmp.Lexicographic.{pointwise}
use Rattle.std.proofs.Math.Seq.{drop-append_seam}
use Rattle.std.proofs.lemmas.List.{get_or-map, length-map}
use Rattle.std.proofs.lemmas.List.Elements.{All-contains}
use Rattle.std.proofs.lemmas.Slice.Eq.{bytes_eq-Decides}
use Rattle.pt_host.specs.Counts.{Counts}
use Rattle.pt_host.specs.Disk.{Fs, Files, put, IsSound, shown}
use Rattle.pt_host.specs.Listed.{FileList, AreRising, by_name}
use Rattle.pt_host.specs.Name.{is_extra, shadow_end, temp_end}
use Rattle.pt_host.specs.World.{World, IsQuiet, OnlyLooks}
use Rattle.pt_host.proofs.Lookups.{present_at, contains_present}
use Rattle.pt_host.proofs.Runs.{follows_here, looks_quiet, quiet_then}
use Rattle.pt_host.proofs.Shown.{shown_has}
use Rattle.pt_left.specs.Left.{serials_name, whole_name, IsLeft, IsEither, OnlyOwn, AsBeforeButOwn}
use Rattle.pt_left.proofs.Once.{left_map, left_has}
use Rattle.pt_ddl_log.specs.declared.chain.Act.{Act}
use Rattle.pt_ddl_log.specs.declared.chain.Act.TheVariants.{Delete, Rename, Replace, Exchange}
use Rattle.pt_ddl_log.specs.declared.chain.Chain.{Chain}
use Rattle.pt_ddl_log.specs.Chain.{names_of}
use Rattle.pt_ddl_log.specs.Clean.{names_but_from}
use Rattle.pt_ddl_log.proofs.ByName.{on_others}
use Rattle.pt_store.specs.declared.entry.Entry.{Entry}
use Rattle.pt_store.specs.declared.stop.Stop.{Stop}
use Rattle.pt_store.specs.declared.stop.Stop.TheVariants.{NoMemory, Fault, Bad}
use Rattle.pt_store.specs.declared.store.Store.{Store}
use Rattle.pt_store.specs.Entries.{bytes_of, files_at, length_in, size_of}
use Rattle.pt_store.specs.Reshape.{with_shadows, fixed_names, Gives, IsReshape, IsReshaped, HasNames, held, reshaped}
use Rattle.pt_store.specs.Step.{IsStep, HasSizes}
use Rattle.pt_store.specs.Stops.{ByStop, IfBad, IsCounted}
use Rattle.pt_store.specs.Store.{IsStore, is_live, sizes, sizes_of}
use Rattle.pt_store.proofs.Fetched.{are_files}
use Rattle.pt_store.proofs.Kept.{file_length}
use Rattle.pt_store.proofs.Moments.{looks_kept}
use Rattle.pt_store.proofs.Parsed.{entry_names}
use Rattle.pt_store.proofs.Steps.{look_step, step_then}

-- # Behind a run that only looked

pub step_behind : {T : Type 0} (before after : Store) (map next : FileList) (a b c : World) (result : Result T Stop) → IsStore before map a → OnlyLooks a b → IsStep after map next b c result → IsStep after map next a c result
step_behind before after map next a b c result is looks then = step_then before map {T = Unit {0}} tt after next a b c result (look_step before map (Ok tt) a b is looks) then

pub own_looks : (a b : World) → OnlyLooks a b → IsQuiet a b (AsBeforeButOwn a.now.fs)
own_looks a b looks = looks_quiet a b (AsBeforeButOwn a.now.fs) (follows_here a.now.fs OnlyOwn (λ files query own shadow. refl)) looks

pub own_behind : (a b c : World) → OnlyLooks a b → IsQuiet b c (AsBeforeButOwn b.now.fs) → IsQuiet a c (AsBeforeButOwn a.now.fs)
own_behind a b c looks then = quiet_then a b c (AsBeforeButOwn a.now.fs) (own_looks a b looks) (subst (λ (fs : Fs). IsQuiet b c (AsBeforeButOwn fs)) looks.now.fs then)

-- # Why it stopped

-- a call that stopped while it looked
pub stopped_look : (before after : Store) (map next : FileList) (e : Stop) (a b : World) → OnlyLooks a b → IsStore before map a → ByStop {T = Unit {0}} (Err e) (Unit {0}) (after ≡ before) (is_live after ≡ false) → IsStep {T = Unit {0}} after map next a b (Err e)
stopped_look before after map next e a b looks is left = record {
  moments = looks_quiet a b (IsEither map next) (λ files image. inl (is.left files image)) looks;
  stands = go e left;
}
  where
    same : after ≡ before → IsStore after map b
    same e = subst (λ store. IsStore store map b) (sym e) (looks_kept a b before map looks is)

    go : (s : Stop) → ByStop {T = Unit {0}} (Err s) (Unit {0}) (after ≡ before) (is_live after ≡ false) → ByStop {T = Unit {0}} (Err s) (IsStore after next b) (IsStore after map b) (Unit {0})
    go NoMemory left = same left
    go (Bad name place) left = same left
    go Fault left = tt

pub stopped_by : (T U : Type 0) (e : Stop) (A A' B C : Type 0) → ByStop {T = T} (Err e) A B C → ByStop {T = U} (Err e) A' B C
stopped_by T U NoMemory A A' B C by = by
stopped_by T U (Bad name place) A A' B C by = by
stopped_by T U Fault A A' B C by = by

-- each way of ending leads to a way of ending
pub each_stop : {T : Type 0} (result : Result T Stop) (A A' B B' C : Type 0) → (A → A') → (B → B') → ByStop result A B C → ByStop result A' B' C
each_stop (Ok x) A A' B B' C done stopped by = done by
each_stop (Err NoMemory) A A' B B' C done stopped by = stopped by
each_stop (Err (Bad name place)) A A' B B' C done stopped by = stopped by
each_stop (Err Fault) A A' B B' C done stopped by = by

pub never_bad : {T : Type 0} (result : Result T Stop) (P : List ℕ → ℕ → Type 0) → IfBad result (λ name place. ⊥) → IfBad result P
never_bad (Ok x) P bad = tt
never_bad (Err NoMemory) P bad = tt
never_bad (Err (Bad name place)) P bad = absurd bad
never_bad (Err Fault) P bad = tt

pub counted_behind : {T : Type 0} (a b c : Counts) (result : Result T Stop) → b ≡ a → IsCounted b c result → IsCounted a c result
counted_behind a b c result same counts = subst (λ (n : Counts). IsCounted n c result) same counts

-- # Names

names_of_sizes : (files : FileList) → map (λ (size : List ℕ × ℕ). size.0) (sizes_of files) ≡ map (λ (file : List ℕ × List ℕ). file.0) files
names_of_sizes [] = refl
names_of_sizes (file ∷ files) = ap (λ ns. file.0 ∷ ns) (names_of_sizes files)

names_of_entries : (entries : List Entry) → map (λ (size : List ℕ × ℕ). size.0) (map size_of entries) ≡ map (λ (entry : Entry). entry.name) entries
names_of_entries [] = refl
names_of_entries (e ∷ entries) = ap (λ ns. e.name ∷ ns) (names_of_entries entries)

pub same_names : (before after : Store) (files : FileList) → map (λ (file : List ℕ × List ℕ). file.0) files ≡ map (λ (entry : Entry). entry.name) before.entries → HasSizes after files
    → IsTrue (is_live after) × (map (λ (size : List ℕ × ℕ). size.0) (sizes after) ≡ map (λ (size : List ℕ × ℕ). size.0) (sizes before))
same_names before after files named has = (has.live, ap (map (λ (size : List ℕ × ℕ). size.0)) has.sizes_are ∙ names_of_sizes files ∙ named ∙ sym (names_of_entries before.entries))

length_there : (file : Option (List ℕ)) → is_some (option_map (λ b. length b) file) ≡ is_some file
length_there None = refl
length_there (Some bytes) = refl

pub new_names : (before after : Store) (files fresh : FileList) (chain : Chain) → HasNames (map size_of before.entries) fresh chain files → HasSizes after files
    → IsTrue (is_live after) × ((name : List ℕ) → is_some (length_in (sizes after) name) ≡ is_some (reshaped fresh chain (held (sizes before)) name))
new_names before after files fresh chain named has = (
  has.live,
  λ name. ap (λ all. is_some (length_in all name)) has.sizes_are ∙ ap (λ o. is_some o) (file_length files name) ∙ length_there (by_name files name) ∙ named.names name,
)

-- # What the store stands for has a `serials.cnt`

module _ (store : Store) (map : FileList) (w : World) (sound : IsSound w.now.fs) (is : IsStore store map w) where
  pub store_rising : AreRising map
  store_rising = (left_map (shown w.now.fs) map (shown_has w.now.fs (IsLeft map) sound is.left)).rising

  pub store_serials : Contains (Rattle.std.proofs.Common.map (λ (file : List ℕ × List ℕ). file.0) map) serials_name
  store_serials = left_has (shown w.now.fs) map (shown_has w.now.fs (IsLeft map) sound is.left)

  pub store_names : Rattle.std.proofs.Common.map (λ (entry : Entry). entry.name) store.entries ≡ Rattle.std.proofs.Common.map (λ (file : List ℕ × List ℕ). file.0) map
  store_names = entry_names (bytes_of (shown w.now.fs whole_name)) store.entries map is.here

  pub store_files : files_at (bytes_of (shown w.now.fs whole_name)) store.entries ≡ map
  store_files = are_files (bytes_of (shown w.now.fs whole_name)) store.entries map is.here

-- # A chain leaves it there

shadow_extra : (name : List ℕ) → is_extra (name ++ shadow_end) ≡ true
shadow_extra name = ap (λ tail. pointwise nat_eq shadow_end tail || ends_with nat_eq (name ++ shadow_end) temp_end) tail
  where
    long : length (name ++ shadow_end) - 4 ≡ length name
    long = omega (arith, length-append name shadow_end)

    tail : drop (length (name ++ shadow_end) - 4) (name ++ shadow_end) ≡ shadow_end
    tail = ap (λ n. drop n (name ++ shadow_end)) long ∙ drop-append_seam name shadow_end

pub shadows_other : (fresh : FileList) (files : Files) (query : List ℕ) → is_extra query ≡ false → with_shadows fresh files query ≡ files query
shadows_other [] files query lasts = refl
shadows_other (file ∷ fresh) files query lasts = shadows_other fresh (put files (file.0 ++ shadow_end) (Some file.1)) query lasts ∙ by_test (bytes_eq (file.0 ++ shadow_end) query) refl
  where
    by_test : (t : Bool) → bytes_eq (file.0 ++ shadow_end) query ≡ t → cond t (Some file.1) (files query) ≡ files query
    by_test true e = let bad : false ≡ true = (sym lasts ∙ ap is_extra (sym ((bytes_eq-Decides (file.0 ++ shadow_end) query).0 e)) ∙ shadow_extra file.0) in cc
    by_test false e = refl

there_from : (files : FileList) (name : List ℕ) → Contains (map (λ (file : List ℕ × List ℕ). file.0) files) name → IsSome (by_name files name)
there_from files name has = go files has.0 has.1 has.2
  where
    go : (files : FileList) (k : ℕ) → k < length (map (λ (file : List ℕ × List ℕ). file.0) files) → get_or (map (λ (file : List ℕ × List ℕ). file.0) files) k name ≡ name → IsSome (by_name files name)
    go files k within is =
        let d : List ℕ × List ℕ = (name, []) in
        let below : k < length files = subst (λ n. k < n) (length-map files (λ (file : List ℕ × List ℕ). file.0)) within in
        subst (λ n. IsSome (by_name files n)) (sym (get_or-map (λ (file : List ℕ × List ℕ). file.0) files k d name below) ∙ is) (present_at files k d below)

module _ (sizes_are : List (List ℕ × ℕ)) (fresh : FileList) (chain : Chain) (is : IsReshape sizes_are fresh chain) where
  pub fresh_short : All (λ (file : List ℕ × List ℕ). length file.0 ≤ 154) fresh
  fresh_short k d below =
      let given = is.given k d below in
      go given.0 (All-contains (λ act. All (λ name. length name ≤ 154) (names_but_from act)) chain.acts given.0 is.short given.1) given.2
    where
      go : (act : Act) → All (λ name. length name ≤ 154) (names_but_from act) → Gives (get_or fresh k d).0 act → length (get_or fresh k d).0 ≤ 154
      go (Delete name) short gives = absurd gives
      go (Rename from to) short gives = subst (λ name. length name ≤ 154) gives (short 0 [] (omega arith))
      go (Replace from to) short gives = subst (λ name. length name ≤ 154) gives (short 0 [] (omega arith))
      go (Exchange a b) short gives = absurd gives

  unnamed : (act : Act) → Contains chain.acts act → Contains (names_of act) serials_name → ⊥
  unnamed act there stands =
      All-contains (λ name. Contains fixed_names name → ⊥) (names_of act) serials_name
      (All-contains (λ other. All (λ name. Contains fixed_names name → ⊥) (names_of other)) chain.acts act is.free there) stands (0, omega arith, refl)

  pub serials_stay : (before next : FileList) → Contains (map (λ (file : List ℕ × List ℕ). file.0) before) serials_name → IsReshaped fresh chain before next → Contains (map (λ (file : List ℕ × List ℕ). file.0) next) serials_name
  serials_stay before next has made =
      contains_present next serials_name
      (subst IsSome (sym (made.files serials_name ∙ on_others chain.acts (with_shadows fresh (by_name before)) serials_name unnamed ∙ shadows_other fresh (by_name before) serials_name refl)) (there_from before serials_name has))
