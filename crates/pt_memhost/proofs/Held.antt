-- What a disk in memory holds, as the disk model's file system.
use Rattle.std.proofs.Common.{◌≡◌, ◌∙◌, ℕ, ◌<◌, List, [], ◌∷◌, ◌++◌, length, length-append, map, get_or, cond, arith, refl, sym, ap, subst}
use Rattle.std.specs.Prelude.{Option, Some, None, IfSome, IsSome, slice_get, Contains, ◌↔◌}
use Rattle.std.specs.BTreeMap.{BTreeMap, keys, IsOrdered}
use Rattle.std.specs.Cmp.Lexicographic.{slice_cmp}
use Rattle.std.specs.Ordering.{nat_cmp}
use Rattle.std.specs.Cmp.Lexicographic.{nat_list_cmp_total}
use Rattle.std.proofs.lemmas.Map.Lookups.{exact_bytes}
use Rattle.std.proofs.lemmas.Map.Views.{btree_map_contains_key_iff}
use Rattle.std.specs.Prelude.{◌==◌}
use Rattle.std.proofs.lemmas.List.{map-append}
use Rattle.std.proofs.lemmas.Grind.{common_steps}
use Rattle.pt_host.specs.Disk.{Fs, Names, Object, empty_object, IsSound, present, created}
use Rattle.pt_host.proofs.Names.{survives_all}
use Rattle.pt_memhost.specs.declared.names.NameChange.{NameChange}
use Rattle.pt_memhost.specs.declared.names.NameChange.TheVariants.{Made}
use Rattle.pt_memhost.specs.Names.{named, op_of}
use Rattle.pt_memhost.specs.Held.{IsNameAt, fs_with}

pub same_fs : (a b : Fs) → ((i : ℕ) → a.objects i ≡ b.objects i) → a.made ≡ b.made → a.names ≡ b.names → a.pending ≡ b.pending → a ≡ b
same_fs a b objects made names pending = λ j. record { objects = λ i. objects i j; made = made j; names = names j; pending = pending j }

-- one more object, of which a place past the end says nothing else
get_or_push_default : (xs : List Object) (d : Object) (i : ℕ) → get_or (xs ++ d ∷ []) i d ≡ cond (i == length xs) d (get_or xs i d)
get_or_push_default xs d i = grind (arith, common_steps)

-- An empty object and a change of names make a new file.
pub created_is : (old new : List Object) (settled : Names) (before after : List NameChange) (name : List ℕ) → new ≡ old ++ empty_object ∷ []
    → after ≡ before ++ Made name (length old) ∷ [] → fs_with new settled after ≡ created name (fs_with old settled before)
created_is old new settled before after name objects pending =
    same_fs (fs_with new settled after) (created name (fs_with old settled before))
    (λ i. ap (λ xs. get_or xs i empty_object) objects ∙ get_or_push_default old empty_object i)
    (ap length objects ∙ length-append old (empty_object ∷ []))
    refl
    (ap (map op_of) pending ∙ map-append op_of before (Made name (length old) ∷ []))

-- The object of a name is among those that were made.
pub number_made : (fs : Fs) (name : List ℕ) (number : Option ℕ) → IsSound fs → number ≡ present fs name → IfSome number (λ n. n < fs.made)
number_made fs name None sound e = tt
number_made fs name (Some n) sound e = sound.bound fs.pending (survives_all fs.pending) name n (sym e)

pub name_at : (fs : Fs) (m : BTreeMap (List ℕ) ℕ) (i : ℕ) (name : Option (List ℕ)) → IsOrdered (slice_cmp nat_cmp) m → named m ≡ present fs → name ≡ slice_get (keys m) i → IsNameAt fs i name
name_at fs m i name ordered same e = (keys m, record { rising = ordered; there = λ query. subst (λ (f : List ℕ → Option ℕ). IsSome (f query) ↔ Contains (keys m) query) same (btree_map_contains_key_iff nat_list_cmp_total exact_bytes m query) }, sym e)
