-- Names of files are told apart, whatever bytes a leaf has.
use Rattle.std.proofs.Common.{◌≡◌, ◌≢◌, ℕ, List, [], ◌∷◌, ◌++◌, length, Option, Some, None, refl, sym, ap, ◌∙◌, subst, arith, append_assoc}
use Rattle.std.specs.Prelude.{codes}
use Rattle.std.specs.Option.{option_map}
use Rattle.std.proofs.lemmas.List.{same_from_push}
use Rattle.pt_value.specs.Ident.{IsIdent}
use Rattle.pt_names.specs.Names.{def_name, lowered, row_name, serials_name, spot_name}
use Rattle.pt_names.proofs.Spots.{same_ends, marked_no_ident, marked, mark_at}
use Rattle.pt_names.proofs.Owners.{apart}

pub one_row_file : (a b : List ℕ) (l m : Option (List ℕ)) → IsIdent a → IsIdent b → row_name a l ≡ row_name b m → (a ≡ b) × (option_map lowered l ≡ option_map lowered m)
one_row_file a b l m is_a is_b e = go l m (same_ends (spot_name a l) (spot_name b m) (codes ".rows") (codes ".rows") refl e).0
  where
    go : (l m : Option (List ℕ)) → spot_name a l ≡ spot_name b m → (a ≡ b) × (option_map lowered l ≡ option_map lowered m)
    go None None same = (same, refl)
    go None (Some leaf) same = absurd (marked_no_ident b (lowered leaf) (subst IsIdent same is_a))
    go (Some leaf) None same = absurd (marked_no_ident a (lowered leaf) (subst IsIdent (sym same) is_b))
    go (Some x) (Some y) same =
        let bytes = spot_name b (Some y) in
        let ours = marked bytes a (lowered x) (length b) (mark_at bytes b (lowered y) is_b refl) is_a (sym same) in
        let others = marked bytes b (lowered y) (length b) (mark_at bytes b (lowered y) is_b refl) is_b refl in
        (sym ours.0 ∙ others.0, ap Some (sym ours.1 ∙ others.1))

-- two leaves that are the same but for case have one file
pub same_file : (name : List ℕ) (l m : Option (List ℕ)) → option_map lowered l ≡ option_map lowered m → row_name name l ≡ row_name name m
same_file name None None e = refl
same_file name None (Some y) e = let bad : None ≡ Some (lowered y) = e in cc
same_file name (Some x) None e = let bad : Some (lowered x) ≡ None = e in cc
same_file name (Some x) (Some y) e = ap (λ (o : Option (List ℕ)). spelled o) e
  where
    spelled : Option (List ℕ) → List ℕ
    spelled None = name ++ codes ".rows"
    spelled (Some low) = name ++ codes "#" ++ low ++ codes ".rows"

pub def_not_rows : (a b : List ℕ) (leaf : Option (List ℕ)) → def_name a ≢ row_name b leaf
def_not_rows a b leaf e = apart a b leaf e

pub def_not_serials : (table : List ℕ) → def_name table ≢ serials_name
def_not_serials table e =
    let h : 102 ≡ 116 = (same_from_push (table ++ codes ".de") (codes "serials.cn") 102 116 (append_assoc table (codes ".de") (102 ∷ []) ∙ e)).1 in omega (arith, h)

pub rows_not_serials : (table : List ℕ) (leaf : Option (List ℕ)) → row_name table leaf ≢ serials_name
rows_not_serials table leaf e =
    let front = spot_name table leaf in
    let h : 115 ≡ 116 = (same_from_push (front ++ codes ".row") (codes "serials.cn") 115 116 (append_assoc front (codes ".row") (115 ∷ []) ∙ e)).1 in omega (arith, h)
