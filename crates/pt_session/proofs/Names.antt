-- Which files a store has, by their names.
use Rattle.std.proofs.Common.{◌≡◌, ℕ, Bool, true, false, List, [], ◌∷◌, map, is_some, refl, sym, ap, ◌∙◌, subst}
use Rattle.std.specs.Prelude.{Option, Some, None, IsSome, IsSomeAnd, IfSome, cond}
use Rattle.std.specs.Option.{option_map}
use Rattle.std.specs.Str.{bytes_eq}
use Rattle.pt_host.specs.Listed.{FileList, by_name}
use Rattle.pt_host.specs.World.{World}
use Rattle.pt_ast.specs.declared.table.TableDef.{TableDef}
use Rattle.pt_store.specs.declared.store.Store.{Store}
use Rattle.pt_store.specs.Entries.{length_in}
use Rattle.pt_store.specs.Store.{IsStore}
use Rattle.pt_store.proofs.Kept.{entry_sizes, file_length}
use Rattle.pt_session.specs.Session.{HasFilesAt, length_of}

-- # Something there, and nothing

pub is_absent : {X : Type 0} (o : Option X) → is_some o ≡ false → o ≡ None
is_absent (Some x) e = cc
is_absent None e = refl

pub some_and : {X : Type 0} (o : Option X) (x : X) (P : X → Type 0) → o ≡ Some x → IsSomeAnd o P → P x
some_and o x P e h = subst (λ q. IsSomeAnd q P) e h

pub if_some : {X : Type 0} (o : Option X) (x : X) (P : X → Type 0) → o ≡ Some x → IfSome o P → P x
if_some o x P e h = subst (λ q. IfSome q P) e h

pub some_same : {X Y : Type 0} (a : Option X) (b : Option Y) → is_some b ≡ is_some a → IsSome a → IsSome b
some_same a b e h = e ∙ h

pub none_same : {X Y : Type 0} (a : Option X) (b : Option Y) → is_some b ≡ is_some a → a ≡ None → b ≡ None
none_same a b e h = is_absent b (e ∙ ap is_some h)

mapped_some : {X Y : Type 0} (f : X → Y) (o : Option X) → is_some (option_map f o) ≡ is_some o
mapped_some f (Some x) = refl
mapped_some f None = refl

-- # Names and lengths

pub names_there : (a b : List (List ℕ × ℕ)) (query : List ℕ) → map (λ (size : List ℕ × ℕ). size.0) b ≡ map (λ (size : List ℕ × ℕ). size.0) a → is_some (length_in b query) ≡ is_some (length_in a query)
names_there a b query e = sym (by_names b) ∙ ap (λ names. among names) e ∙ by_names a
  where
    among : List (List ℕ) → Bool
    among [] = false
    among (name ∷ names) = cond (bytes_eq name query) true (among names)

    by : (test : Bool) (n : ℕ) (rest : Option ℕ) (more : Bool) → more ≡ is_some rest → cond test true more ≡ is_some (cond test (Some n) rest)
    by true n rest more e = refl
    by false n rest more e = e

    by_names : (xs : List (List ℕ × ℕ)) → among (map (λ (size : List ℕ × ℕ). size.0) xs) ≡ is_some (length_in xs query)
    by_names [] = refl
    by_names (x ∷ xs) = by (bytes_eq x.0 query) x.1 (length_in xs query) (among (map (λ (size : List ℕ × ℕ). size.0) xs)) (by_names xs)

-- the store has a file exactly where its map does
pub map_there : (store : Store) (files : FileList) (w : World) (query : List ℕ) → IsStore store files w → is_some (by_name files query) ≡ is_some (length_of store query)
map_there store files w query is =
    sym (ap (λ (xs : List (List ℕ × ℕ)). is_some (length_in xs query)) (entry_sizes _ store.entries files is.here) ∙ ap (λ (o : Option ℕ). is_some o) (file_length files query) ∙ mapped_some (λ b. _) (by_name files query))

-- # Files of tables

pub files_kept : (a b : Store) (name : List ℕ) (def : Option TableDef) → ((query : List ℕ) → is_some (length_of b query) ≡ is_some (length_of a query)) → HasFilesAt a name def → HasFilesAt b name def
files_kept a b name None same has = record {
  defined = none_same _ _ (same _) has.defined;
  rows = λ leaf is. none_same _ _ (same _) (has.rows leaf is);
}
files_kept a b name (Some def) same has = record {
  defined = some_same _ _ (same _) has.defined;
  rows = λ spot is. some_same _ _ (same _) (has.rows spot is);
  no_more = λ leaf is apart. none_same _ _ (same _) (has.no_more leaf is apart);
}
