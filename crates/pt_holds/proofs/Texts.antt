-- Texts that are added to files, one after the other.
use Rattle.std.proofs.Common.{◌≡◌, ◌⊎◌, inl, inr, ℕ, suc, ◌+◌, ◌<◌, arith, Bool, true, false, cond, List, [], ◌∷◌, ◌++◌, length, take, get_or, Option, Some, None, refl, sym, ap, ap₂, ◌∙◌, subst, append_assoc, append-nil}
use Rattle.std.specs.List.{All, flat_map}
use Rattle.std.specs.Option.{IsSome, unwrap_or}
use Rattle.std.specs.Str.{bytes_eq}
use Rattle.std.proofs.lemmas.Grind.{flat_map-append}
use Rattle.std.proofs.lemmas.List.{take_more}
use Rattle.std.proofs.lemmas.List.Elements.{All-more}
use Rattle.std.proofs.lemmas.Slice.Eq.{bytes_eq-Decides}
use Rattle.pt_host.specs.Disk.{Files, put}
use Rattle.pt_host.specs.Images.{AreSame}
use Rattle.pt_store.proofs.Maps.{put_again}
use Rattle.pt_ast.specs.declared.database.Spot.{Spot}
use Rattle.pt_ast.specs.declared.table.TableDef.{TableDef}
use Rattle.pt_db.specs.Spots.{IsSpotOf}
use Rattle.pt_holds.specs.Batch.{IsRowFileOf}
use Rattle.pt_holds.specs.Holds.{spot_file}
use Rattle.pt_holds.specs.Texts.{Adds, only_at, text_at}

-- a text is taken out and put back with more
pub adds_one : (f g h : Files) (name made more : List ℕ) → AreSame (put f name None) g → AreSame (put g name (Some made)) h → made ≡ text_at f name ++ more → Adds f h (only_at name more) (λ query. name ≡ query)
adds_one f g h name made more out back is =
    let both = put_again f g h name None (Some made) out back in
    record {
      text = λ query. ap (λ (o : Option (List ℕ)). unwrap_or o []) (both query) ∙ by_test query (bytes_eq name query) refl;
      names = λ query some. by_some query (bytes_eq name query) refl (subst (λ (o : Option (List ℕ)). IsSome o) (both query) some);
    }
  where
    by_test : (query : List ℕ) (t : Bool) → bytes_eq name query ≡ t → unwrap_or (cond t (Some made) (f query)) [] ≡ text_at f query ++ cond t more []
    by_test query true e = is ∙ ap (λ (n : List ℕ). text_at f n ++ more) ((bytes_eq-Decides name query).0 e)
    by_test query false e = sym (append-nil (text_at f query))

    by_some : (query : List ℕ) (t : Bool) → bytes_eq name query ≡ t → IsSome (cond t (Some made) (f query)) → IsSome (f query) ⊎ (name ≡ query)
    by_some query true e some = inr ((bytes_eq-Decides name query).0 e)
    by_some query false e some = inl some

module _ {X : Type 0} (spot : X → Spot) (text : X → List ℕ) (IsWritten : X → Type 0) (name : List ℕ) (def : TableDef) where
  abbrev pub all_text : List X → List ℕ → List ℕ
  all_text items query = flat_map (λ (x : X). only_at (spot_file name def (spot x)) (text x) query) items

  -- one item more
  pub adds_more : (items : List X) (i : ℕ) (d : X) (file : List ℕ) (f g h : Files) → i < length items → All (λ (x : X). IsSpotOf def (spot x)) items → file ≡ spot_file name def (spot (get_or items i d))
      → Adds f g (all_text (take i items)) (IsRowFileOf name def) × All IsWritten (take i items)
      → Adds g h (only_at file (text (get_or items i d))) (λ query. file ≡ query) → IsWritten (get_or items i d)
      → Adds f h (all_text (take (i + 1) items)) (IsRowFileOf name def) × All IsWritten (take (i + 1) items)
  adds_more items i d file f g h within spots is before more written =
      let item = get_or items i d in (
        record {
          text = λ query.
              more.text query
              ∙ ap₂ (λ (a b : List ℕ). a ++ b) (before.0.text query) (ap (λ (n : List ℕ). only_at n (text item) query) is)
              ∙ append_assoc (text_at f query) (all_text (take i items) query) (only_at (spot_file name def (spot item)) (text item) query)
              ∙ ap (λ (xs : List ℕ). text_at f query ++ xs) (pushed query);
          names = λ query some. by_way query (more.names query some);
        },
        All-more IsWritten items i d within before.1 written,
      )
    where
      pushed : (query : List ℕ) → all_text (take i items) query ++ only_at (spot_file name def (spot (get_or items i d))) (text (get_or items i d)) query ≡ all_text (take (i + 1) items) query
      pushed query =
          ap (λ (xs : List ℕ). all_text (take i items) query ++ xs) (sym (append-nil (only_at (spot_file name def (spot (get_or items i d))) (text (get_or items i d)) query)))
          ∙ sym (flat_map-append (λ (x : X). only_at (spot_file name def (spot x)) (text x) query) (take i items) (get_or items i d ∷ []))
          ∙ ap (λ (xs : List X). all_text xs query) (sym (take_more items i d within))

      by_way : (query : List ℕ) → IsSome (g query) ⊎ (file ≡ query) → IsSome (f query) ⊎ IsRowFileOf name def query
      by_way query (inl some) = before.0.names query some
      by_way query (inr same) = inr (spot (get_or items i d), spots i d within, sym same ∙ is)

  -- no item
  pub adds_none : (f : Files) → Adds f f (all_text []) (IsRowFileOf name def)
  adds_none f = record { text = λ query. sym (append-nil (text_at f query)); names = λ query some. inl some }

  -- ---- at the file of one spot, and at other files

  pub other_text : (items : List X) (query : List ℕ) → All (λ (x : X). IsSpotOf def (spot x)) items → (IsRowFileOf name def query → ⊥) → all_text items query ≡ []
  other_text [] query spots none = refl
  other_text (x ∷ items) query spots none =
      ap₂ (λ (a b : List ℕ). a ++ b) (by_test (bytes_eq (spot_file name def (spot x)) query) refl) (other_text items query (λ k d below. spots (suc k) d (omega (arith, below))) none)
    where
      by_test : (t : Bool) → bytes_eq (spot_file name def (spot x)) query ≡ t → cond t (text x) [] ≡ []
      by_test true e = absurd (none (spot x, spots 0 x (omega arith), sym ((bytes_eq-Decides (spot_file name def (spot x)) query).0 e)))
      by_test false e = refl
