-- Names told apart by their ends.
use Rattle.std.proofs.Common.{◌≡◌, ℕ, List, [], ◌∷◌, ◌++◌, length, Option, Some, None, refl, sym, ap, ap₂, ◌∙◌, subst, arith, append_assoc}
use Rattle.std.specs.Prelude.{IfSome, codes}
use Rattle.std.specs.Option.{option_map}
use Rattle.std.proofs.lemmas.List.{same_from_push}
use Rattle.pt_value.specs.Ident.{IsIdent}
use Rattle.pt_names.specs.declared.owner.Owner.{Owner}
use Rattle.pt_names.specs.declared.owner.Owner.TheVariants.{Def, Row, Journal, Log, Serials, Other}
use Rattle.pt_names.specs.Names.{IsOwner, IsLeaf, IsDefOf, IsRowsOf, IsSpot, def_name, lowered, row_name, spot_name}
use Rattle.pt_names.proofs.Spots.{same_ends, lowered_leaf, lowered-lowered, marked_no_ident, marked, mark_at}

-- ---- the last byte

def_last : (table : List ℕ) → def_name table ≡ (table ++ codes ".de") ++ 102 ∷ []
def_last table = sym (append_assoc table (codes ".de") (102 ∷ []))

rows_last : (front : List ℕ) → front ++ codes ".rows" ≡ (front ++ codes ".row") ++ 115 ∷ []
rows_last front = sym (append_assoc front (codes ".row") (115 ∷ []))

def_not_rows : (table front : List ℕ) → def_name table ≡ front ++ codes ".rows" → ⊥
def_not_rows table front e = let h : 102 ≡ 115 = (same_from_push (table ++ codes ".de") (front ++ codes ".row") 102 115 (sym (def_last table) ∙ e ∙ rows_last front)).1 in omega (arith, h)

def_not : (table front : List ℕ) (last : ℕ) → (102 ≡ last → ⊥) → def_name table ≡ front ++ last ∷ [] → ⊥
def_not table front last other e = other (same_from_push (table ++ codes ".de") front 102 last (sym (def_last table) ∙ e)).1

rows_not : (table front : List ℕ) (last : ℕ) → (115 ≡ last → ⊥) → table ++ codes ".rows" ≡ front ++ last ∷ [] → ⊥
rows_not table front last other e = other (same_from_push (table ++ codes ".row") front 115 last (sym (rows_last table) ∙ e)).1

-- ---- one table, one partition

pub defs : (a b : List ℕ) → def_name a ≡ def_name b → a ≡ b
defs a b e = (same_ends a b (codes ".def") (codes ".def") refl e).0

spots : (a b : List ℕ) (l m : Option (List ℕ)) → IsIdent a → IsIdent b → row_name a l ≡ row_name b m → (a ≡ b) × (option_map lowered l ≡ option_map lowered m)
spots a b l m is_a is_b e = go l m (same_ends (spot_name a l) (spot_name b m) (codes ".rows") (codes ".rows") refl e).0
  where
    go : (l m : Option (List ℕ)) → spot_name a l ≡ spot_name b m → (a ≡ b) × (option_map lowered l ≡ option_map lowered m)
    go None None same = (same, refl)
    go None (Some leaf) same = absurd (marked_no_ident b (lowered leaf) (subst IsIdent same is_a))
    go (Some leaf) None same = absurd (marked_no_ident a (lowered leaf) (subst IsIdent (sym same) is_b))
    go (Some x) (Some y) same =
        let bytes = spot_name b (Some y) in
        let ours = marked bytes a (lowered x) (length b) (mark_at bytes b (lowered y) is_b refl) is_a (sym same) in
        let others = marked bytes b (lowered y) (length b) (mark_at bytes b (lowered y) is_b refl) is_b refl in
        (sym ours.0 ∙ others.0, ap Some (sym ours.1 ∙ others.1))

pub rows : (a b : List ℕ) (l m : Option (List ℕ)) → IsIdent a → IsIdent b → IfSome l IsIdent → IfSome m IsIdent → row_name a l ≡ row_name b m → (a ≡ b) × (option_map lowered l ≡ option_map lowered m)
rows a b l m is_a is_b is_l is_m e = spots a b l m is_a is_b e

pub apart : (a b : List ℕ) (leaf : Option (List ℕ)) → def_name a ≡ row_name b leaf → ⊥
apart a b leaf e = def_not_rows a (spot_name b leaf) e

-- ---- whose a name is

low_option : (leaf : Option (List ℕ)) → IfSome leaf IsLeaf → option_map lowered leaf ≡ leaf
low_option None is = refl
low_option (Some leaf) is = ap Some is.low

made_leaf : (leaf : Option (List ℕ)) → IfSome leaf IsIdent → IfSome (option_map lowered leaf) IsLeaf
made_leaf None is = tt
made_leaf (Some leaf) is = lowered_leaf leaf is

pub def_owned : (table : List ℕ) (owner : Owner) → IsIdent table → IsOwner (def_name table) owner → owner ≡ Def table
def_owned table (Def other) is own = ap Def (sym (defs table other own.name))
def_owned table (Row other leaf) is own = absurd (apart table other leaf own.name)
def_owned table Journal is own = absurd (def_not table (codes "row_journal.lo") 103 (λ e. omega (arith, e)) own)
def_owned table Log is own = absurd (def_not table (codes "ddl_log.lo") 103 (λ e. omega (arith, e)) own)
def_owned table Serials is own = absurd (def_not table (codes "serials.cn") 116 (λ e. omega (arith, e)) own)
def_owned table Other is own = absurd (own.no_def table (record { table = is; name = refl }))

row_made : (table : List ℕ) (leaf : Option (List ℕ)) → row_name table leaf ≡ row_name table (option_map lowered leaf)
row_made table None = refl
row_made table (Some leaf) = ap (λ (low : List ℕ). table ++ codes "#" ++ low ++ codes ".rows") (sym (lowered-lowered leaf))

pub row_owned : (table : List ℕ) (leaf : Option (List ℕ)) (owner : Owner) → IsIdent table → IfSome leaf IsIdent → IsOwner (row_name table leaf) owner → owner ≡ Row table (option_map lowered leaf)
row_owned table leaf (Def other) is low own = absurd (apart other table leaf (sym own.name))
row_owned table leaf (Row other part) is low own =
    let same = spots table other leaf part is own.table own.name in
    ap₂ (λ (t : List ℕ) (l : Option (List ℕ)). Row t l) (sym same.0) (sym (low_option part own.leaf) ∙ sym same.1)
row_owned table leaf Journal is low own = absurd (rows_not (spot_name table leaf) (codes "row_journal.lo") 103 (λ e. omega (arith, e)) own)
row_owned table leaf Log is low own = absurd (rows_not (spot_name table leaf) (codes "ddl_log.lo") 103 (λ e. omega (arith, e)) own)
row_owned table leaf Serials is low own = absurd (rows_not (spot_name table leaf) (codes "serials.cn") 116 (λ e. omega (arith, e)) own)
row_owned table leaf Other is low own = absurd (own.no_rows table (option_map lowered leaf) (record { table = is; leaf = made_leaf leaf low; name = row_made table leaf }))

-- ---- as the code tells it

pub def_there : (name front table : List ℕ) → name ≡ front ++ codes ".def" → (table ≡ front) × IsIdent front → IsDefOf name table
def_there name front table e h = record { table = subst IsIdent (sym h.0) h.1; name = e ∙ ap def_name (sym h.0) }

pub def_gone : (name front : List ℕ) → name ≡ front ++ codes ".def" → (IsIdent front → ⊥) → (table : List ℕ) → IsDefOf name table → ⊥
def_gone name front e none table own = none (subst IsIdent (defs table front (sym own.name ∙ e)) own.table)

pub rows_there : (name front table : List ℕ) (leaf : Option (List ℕ)) → name ≡ front ++ codes ".rows" → IsSpot front table leaf → IsRowsOf name table leaf
rows_there name front table leaf e s = record { table = s.table; leaf = s.leaf; name = e ∙ ap (λ (f : List ℕ). f ++ codes ".rows") s.name }

pub rows_gone : (name front : List ℕ) → name ≡ front ++ codes ".rows" → ((table : List ℕ) (leaf : Option (List ℕ)) → IsSpot front table leaf → ⊥) → (table : List ℕ) (leaf : Option (List ℕ)) → IsRowsOf name table leaf → ⊥
rows_gone name front e none table leaf own =
    none table leaf (record { table = own.table; leaf = own.leaf; name = (same_ends front (spot_name table leaf) (codes ".rows") (codes ".rows") refl (sym e ∙ own.name)).0 })
