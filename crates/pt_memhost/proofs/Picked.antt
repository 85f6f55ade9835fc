-- The image that is picked: its files, and that a stop may leave them.
use Rattle.std.proofs.Common.{◌≡◌, ◌∙◌, ℕ, zero, suc, ◌+◌, ◌/◌, ◌%◌, ◌≤◌, Bool, true, false, cond, List, [], ◌∷◌, length, length-take, take, drop, map, get_or, take-append-drop, refl, sym, ap, subst, arith}
use Rattle.std.specs.Prelude.{Option, Some, None, ◌==◌}
use Rattle.std.specs.Option.{option_map}
use Rattle.std.specs.Map.{lookup}
use Rattle.std.specs.Ordering.{nat_cmp}
use Rattle.std.specs.Str.{bytes_eq}
use Rattle.std.specs.Cmp.Lexicographic.{slice_cmp, nat_list_eq_equiv}
use Rattle.std.specs.BTreeMap.{BTreeMap, IsOrdered, is_at}
use Rattle.std.proofs.lemmas.List.{get_or-take, take-map, length-map}
use Rattle.std.proofs.lemmas.Map.Text.{is_eq-slice_cmp}
use Rattle.std.proofs.lemmas.Simd.{map-map}
use Rattle.pt_host.specs.Disk.{Object, Fs, Files, Names, NameOp, Survives, MayHold, MayBe, IsSound, IsImage, is_loose, empty_object, names_after}
use Rattle.pt_host.specs.Listed.{FileList, AreRising, by_name}
use Rattle.pt_memhost.specs.declared.names.NameChange.{NameChange}
use Rattle.pt_memhost.specs.Names.{named, op_of}
use Rattle.pt_memhost.specs.Held.{fs_with}
use Rattle.pt_memhost.specs.Pick.{filled, loose_byte, kept_by, left_by, picked}

-- what is left of each named object
abbrev pub left_entries : ℕ → List Object → List (List ℕ × ℕ) → FileList
left_entries rest objects entries = map (λ entry. (entry.0, left_by rest (get_or objects entry.1 empty_object))) entries

pub left_rising : (rest : ℕ) (objects : List Object) (m : BTreeMap (List ℕ) ℕ) (files : FileList) → IsOrdered (slice_cmp nat_cmp) m → files ≡ left_entries rest objects m.entries → AreRising files
left_rising rest objects m files ordered e =
    rw (e, map-map (λ (f : List ℕ × List ℕ). f.0) (λ (entry : List ℕ × ℕ). (entry.0, left_by rest (get_or objects entry.1 empty_object))) m.entries) ordered

by_name_left : (rest : ℕ) (objects : List Object) (entries : List (List ℕ × ℕ)) (name : List ℕ)
    → by_name (left_entries rest objects entries) name ≡ option_map (λ object. left_by rest (get_or objects object empty_object)) (lookup (is_at (slice_cmp nat_cmp name)) entries)
by_name_left rest objects [] name = refl
by_name_left rest objects (entry ∷ entries) name = go (is_at (slice_cmp nat_cmp name) entry.0) same (by_name_left rest objects entries name)
  where
    left : List ℕ
    left = left_by rest (get_or objects entry.1 empty_object)

    same : bytes_eq entry.0 name ≡ is_at (slice_cmp nat_cmp name) entry.0
    same = nat_list_eq_equiv.symm entry.0 name ∙ sym (is_eq-slice_cmp name entry.0)

    go : (b : Bool) → bytes_eq entry.0 name ≡ b
        → by_name (left_entries rest objects entries) name ≡ option_map (λ object. left_by rest (get_or objects object empty_object)) (lookup (is_at (slice_cmp nat_cmp name)) entries)
        → cond (bytes_eq entry.0 name) (Some left) (by_name (left_entries rest objects entries) name)
        ≡ option_map (λ object. left_by rest (get_or objects object empty_object)) (cond b (Some entry.1) (lookup (is_at (slice_cmp nat_cmp name)) entries))
    go true e h = rw e refl
    go false e h = rw e h

-- The files that were picked are those of the definition.
pub picked_is : (choice : ℕ) (objects : List Object) (settled : Names) (pending : List NameChange) (names : BTreeMap (List ℕ) ℕ) (files : FileList)
    → named names ≡ names_after (map op_of (take (choice % (length pending + 1)) pending)) settled
    → files ≡ left_entries (choice / (length pending + 1)) objects names.entries
    → (name : List ℕ) → by_name files name ≡ picked choice (fs_with objects settled pending) name
picked_is choice objects settled pending names files kept left name =
    ap (λ fs. by_name fs name) left
    ∙ by_name_left (choice / (length pending + 1)) objects names.entries name
    ∙ ap (λ (f : Names). option_map (λ object. left_by (choice / (length pending + 1)) (get_or objects object empty_object)) (f name)) kept
    ∙ ap (λ ops. option_map (λ object. left_by (choice / (length pending + 1)) (get_or objects object empty_object)) (names_after ops settled name)) (sym (take-map op_of (choice % (length pending + 1)) pending))
    ∙ ap (λ n. option_map (λ object. left_by (choice / (n + 1)) (get_or objects object empty_object)) (names_after (take (choice % (n + 1)) (map op_of pending)) settled name)) (sym (length-map pending op_of))

length-filled : (fill : ℕ) (loose : List (ℕ × ℕ)) (place : ℕ) (bytes : List ℕ) → length (filled fill loose place bytes) ≡ length bytes
length-filled fill loose place [] = refl
length-filled fill loose place (byte ∷ bytes) = ap suc (length-filled fill loose (place + 1) bytes)

-- Bytes that are not loose are as they were.
filled_firm : (fill : ℕ) (loose : List (ℕ × ℕ)) (place : ℕ) (bytes : List ℕ) (k : ℕ) → is_loose loose (place + k) ≡ false → get_or (filled fill loose place bytes) k 0 ≡ get_or bytes k 0
filled_firm fill loose place [] k firm = refl
filled_firm fill loose place (byte ∷ bytes) zero firm =
    ap (λ b. cond b (loose_byte fill byte) byte) (ap (is_loose loose) (let e : place ≡ place + 0 = omega arith in e) ∙ firm)
filled_firm fill loose place (byte ∷ bytes) (suc k) firm =
    filled_firm fill loose (place + 1) bytes k (ap (is_loose loose) (let e : place + 1 + k ≡ place + suc k = omega arith in e) ∙ firm)

left_holds : (fill n : ℕ) (o : Object) → o.least ≤ n → n ≤ length o.bytes → MayHold o (filled fill o.loose 0 (take n o.bytes))
left_holds fill n o least most =
    let long : length (filled fill o.loose 0 (take n o.bytes)) ≡ n = (length-filled fill o.loose 0 (take n o.bytes) ∙ (simp length-take (omega arith))) in
    record {
      least = omega arith;
      most = omega arith;
      sure = λ place below firm. filled_firm fill o.loose 0 (take n o.bytes) place (ap (is_loose o.loose) (let e : 0 + place ≡ place = omega arith in e) ∙ firm)
          ∙ get_or-take n o.bytes place 0 (omega arith);
    }

-- What is picked of a file is what a stop may leave of it.
pub left_may_hold : (rest : ℕ) (o : Object) → o.least ≤ length o.bytes → MayHold o (left_by rest o)
left_may_hold rest o fits = go (rest % 2 == 0)
  where
    go : (b : Bool) → MayHold o (filled (rest / 2 % 4) o.loose 0 (take (cond b o.least (length o.bytes)) o.bytes))
    go true = left_holds (rest / 2 % 4) o.least o (omega arith) fits
    go false = left_holds (rest / 2 % 4) (length o.bytes) o fits (omega arith)

survives_front : (n : ℕ) (ops : List NameOp) → Survives ops (take n ops)
unfolding Survives
survives_front n ops = (drop n ops, sym (take-append-drop n ops))

-- A stop may leave what is picked.
pub picked_image : (choice : ℕ) (fs : Fs) → IsSound fs → IsImage fs (picked choice fs)
picked_image choice fs sound = record {
  kept = kept_by choice fs.pending;
  survives = survives_front _ fs.pending;
  files_are = λ name. each (names_after (kept_by choice fs.pending) fs.names name);
}
  where
    each : (object : Option ℕ) → MayBe fs.objects object (option_map (λ o. left_by (choice / (length fs.pending + 1)) (fs.objects o)) object)
    each None = tt
    each (Some object) = left_may_hold (choice / (length fs.pending + 1)) (fs.objects object) (sound.least object)

pub image_if_picked : (choice : ℕ) (fs : Fs) (files : Files) → IsSound fs → ((name : List ℕ) → files name ≡ picked choice fs name) → IsImage fs files
image_if_picked choice fs files sound same =
    let e : files ≡ picked choice fs = (λ i name. same name i) in subst (IsImage fs) (sym e) (picked_image choice fs sound)
