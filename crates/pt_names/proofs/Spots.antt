-- Tables and partitions in the names of files.
use Rattle.std.proofs.Common.{◌≡◌, ℕ, zero, suc, replicate, ◌+◌, ◌-◌, ◌≤◌, Bool, true, false, eqb, List, [], ◌∷◌, ◌++◌, length, take, drop, get_or, map, Option, Some, None, All, IsTrue, refl, sym, ap, ap₂, ◌∙◌, subst, arith, length-append, append_assoc}
use Rattle.std.specs.Prelude.{codes}
use Rattle.std.specs.Char.{to_ascii_lowercase}
use Rattle.std.specs.List.{AllByRecursion, position, position_or_len}
use Rattle.std.proofs.lemmas.Bool.{true≢false, lt-ltb}
use Rattle.std.proofs.lemmas.Bool.Decides.{Decides-eqb, nat_tests}
use Rattle.std.proofs.lemmas.List.{take_at, drop_at, take-append-drop, drop_more, drop-drop, length-map, map-append}
use Rattle.std.proofs.lemmas.List.Elements.{All-weaker, recursion_from_All, All-from_recursion}
use Rattle.std.proofs.lemmas.List.Quantifiers.{position-Some}
use Rattle.std.proofs.lemmas.Str.Ascii.{lowercase-lowercase}
use Rattle.pt_plain.specs.Padded.{padded_to}
use Rattle.pt_plain.proofs.Padding.{take-padded}
use Rattle.pt_host.specs.Name.{IsName, is_name_byte}
use Rattle.pt_host.proofs.NameBytes.{is_name-append}
use Rattle.pt_value.specs.Ident.{IsIdent, is_ident_byte}
use Rattle.pt_names.specs.Names.{lowered, IsLeaf, IsSpot}

-- two lists, of which the first parts are of one length
pub same_parts : (a b rest more : List ℕ) → length a ≡ length b → a ++ rest ≡ b ++ more → (a ≡ b) × (rest ≡ more)
same_parts a b rest more long e = (
  sym (take_at a rest (length b) long) ∙ ap (take (length b)) e ∙ take_at b more (length b) refl,
  sym (drop_at a rest (length b) long) ∙ ap (drop (length b)) e ∙ drop_at b more (length b) refl,
)

-- or the last parts
pub same_ends : (a b x y : List ℕ) → length x ≡ length y → a ++ x ≡ b ++ y → (a ≡ b) × (x ≡ y)
same_ends a b x y len e = same_parts a b x y (omega (arith, ap (λ (l : List ℕ). length l) e, length-append a x, length-append b y)) e

-- ---- lower case

lowered-each : (b : ℕ) → IsTrue (is_ident_byte b) → IsTrue (is_ident_byte (to_ascii_lowercase b))
lowered-each b is = grind (arith, nat_tests)

all_lowered : (bytes : List ℕ) → AllByRecursion (λ b. IsTrue (is_ident_byte b)) bytes → AllByRecursion (λ b. IsTrue (is_ident_byte b)) (lowered bytes)
all_lowered [] all = tt
all_lowered (b ∷ bytes) all = (lowered-each b all.0, all_lowered bytes all.1)

pub lowered_ident : (name : List ℕ) → IsIdent name → IsIdent (lowered name)
lowered_ident name is = record {
  some = rw (length-map name to_ascii_lowercase) is.some;
  fits = rw (length-map name to_ascii_lowercase) is.fits;
  each = All-from_recursion (λ b. IsTrue (is_ident_byte b)) (lowered name) (all_lowered name (recursion_from_All (λ b. IsTrue (is_ident_byte b)) name is.each));
}

pub lowered-lowered : (name : List ℕ) → lowered (lowered name) ≡ lowered name
lowered-lowered [] = refl
lowered-lowered (b ∷ name) = ap₂ (λ (c : ℕ) (cs : List ℕ). c ∷ cs) (lowercase-lowercase b) (lowered-lowered name)

pub lowered_leaf : (name : List ℕ) → IsIdent name → IsLeaf (lowered name)
lowered_leaf name is = record { ident = lowered_ident name is; low = lowered-lowered name }

-- ---- identifiers are names

ident_byte : (b : ℕ) → IsTrue (is_ident_byte b) → IsTrue (is_name_byte b)
ident_byte b h = rw h refl

pub ident_name : (table : List ℕ) → IsIdent table → IsName table
ident_name table is = record {
  some = is.some;
  fits = let h : length table ≤ 64 = is.fits in omega arith;
  each = All-weaker (λ b. IsTrue (is_ident_byte b)) (λ b. IsTrue (is_name_byte b)) ident_byte table is.each;
  first = λ e. let h : IsTrue (is_ident_byte 46) = subst (λ n. IsTrue (is_ident_byte n)) e (is.each 0 0 is.some) in true≢false (sym h);
}

name_bytes : (bytes : List ℕ) → AllByRecursion (λ b. IsTrue (is_name_byte b)) bytes → All (λ b. IsTrue (is_name_byte b)) bytes
name_bytes bytes all = All-from_recursion (λ b. IsTrue (is_name_byte b)) bytes all

pub def_is_name : (table : List ℕ) → IsIdent table → IsName (table ++ codes ".def")
def_is_name table is =
    let fits : length table ≤ 64 = is.fits in
    is_name-append table (codes ".def") (ident_name table is) (name_bytes (codes ".def") (refl, (refl, (refl, (refl, tt))))) (omega arith)

pub rows_is_name : (table : List ℕ) → IsIdent table → IsName (table ++ codes ".rows")
rows_is_name table is =
    let fits : length table ≤ 64 = is.fits in
    is_name-append table (codes ".rows") (ident_name table is) (name_bytes (codes ".rows") (refl, (refl, (refl, (refl, (refl, tt)))))) (omega arith)

pub leaf_is_name : (table leaf : List ℕ) → IsIdent table → IsIdent leaf → IsName (table ++ codes "#" ++ lowered leaf ++ codes ".rows")
leaf_is_name table leaf is low =
    let fits : length table ≤ 64 = is.fits in
    let small = lowered_ident leaf low in
    let fits' : length (lowered leaf) ≤ 64 = small.fits in
    let marked = is_name-append table (codes "#") (ident_name table is) (name_bytes (codes "#") (refl, tt)) (omega arith) in
    let long : length (table ++ codes "#") ≡ length table + 1 = length-append table (codes "#") in
    let both = is_name-append (table ++ codes "#") (lowered leaf) marked (ident_name (lowered leaf) small).each (omega (arith, long)) in
    let long' : length (table ++ codes "#" ++ lowered leaf) ≡ length (table ++ codes "#") + length (lowered leaf) = length-append (table ++ codes "#") (lowered leaf) in
    is_name-append (table ++ codes "#" ++ lowered leaf) (codes ".rows") both (name_bytes (codes ".rows") (refl, (refl, (refl, (refl, (refl, tt)))))) (omega (arith, long, long'))

-- ---- the mark

no_mark : (table : List ℕ) → IsIdent table → AllByRecursion (λ b. eqb b 35 ≡ false) table
no_mark table is = recursion_from_All (λ b. eqb b 35 ≡ false) table (All-weaker (λ b. IsTrue (is_ident_byte b)) (λ b. eqb b 35 ≡ false) other table is.each)
  where
    at : (b : ℕ) (t : Bool) → eqb b 35 ≡ t → IsTrue (is_ident_byte b) → eqb b 35 ≡ false
    at b true e h = let s : b ≡ 35 = (Decides-eqb b 35).0 e in let bad : IsTrue (is_ident_byte 35) = subst (λ n. IsTrue (is_ident_byte n)) s h in absurd (true≢false (sym bad))
    at b false e h = e

    other : (b : ℕ) → IsTrue (is_ident_byte b) → eqb b 35 ≡ false
    other b h = at b (eqb b 35) refl h

-- a mark behind a table, in no identifier
pub marked_no_ident : (table leaf : List ℕ) → IsIdent (table ++ codes "#" ++ leaf) → ⊥
marked_no_ident table leaf is = go table (no_mark (table ++ codes "#" ++ leaf) is)
  where
    go : (front : List ℕ) → AllByRecursion (λ b. eqb b 35 ≡ false) (front ++ codes "#" ++ leaf) → ⊥
    go [] all = let bad : true ≡ false = all.0 in cc
    go (b ∷ front) all = go front all.1

-- the first mark stands behind the table
mark_place : (table leaf : List ℕ) → AllByRecursion (λ b. eqb b 35 ≡ false) table → position_or_len (λ b. eqb b 35) (table ++ codes "#" ++ leaf) ≡ length table
mark_place [] leaf h = refl
mark_place (b ∷ bs) leaf h = let e = mark_place bs leaf h.1 in rw h.0 (omega (arith, e))

pub mark_at : (bytes table leaf : List ℕ) → IsIdent table → bytes ≡ table ++ codes "#" ++ leaf → position (λ b. eqb b 35) bytes ≡ Some (length table)
mark_at bytes table leaf is e =
    let at = mark_place table leaf (no_mark table is) in
    rw (e, at, lt-ltb (length table) (length (table ++ codes "#" ++ leaf)) (omega (arith, length-append (table ++ codes "#") leaf, length-append table (codes "#")))) refl

-- the two sides of the first mark
pub marked : (bytes table leaf : List ℕ) (at : ℕ) → position (λ b. eqb b 35) bytes ≡ Some at → IsIdent table → bytes ≡ table ++ codes "#" ++ leaf → (take at bytes ≡ table) × (drop 1 (drop at bytes) ≡ leaf)
marked bytes table leaf at found is e =
    let same : length table ≡ at = (let f : Some (length table) ≡ Some at = sym (mark_at bytes table leaf is e) ∙ found in cc) in
    let whole : bytes ≡ table ++ (codes "#" ++ leaf) = e ∙ append_assoc table (codes "#") leaf in
    (ap (take at) whole ∙ take_at table (codes "#" ++ leaf) at same, ap (drop 1) (ap (drop at) whole ∙ drop_at table (codes "#" ++ leaf) at same))

pub at_mark : (bytes : List ℕ) (at : ℕ) → position (λ b. eqb b 35) bytes ≡ Some at → bytes ≡ take at bytes ++ codes "#" ++ drop 1 (drop at bytes)
at_mark bytes at found =
    let p = position-Some (λ b. eqb b 35) bytes at 0 found in
    let is : get_or bytes at 0 ≡ 35 = (Decides-eqb (get_or bytes at 0) 35).0 p.1 in
    sym (take-append-drop at bytes) ∙ ap (λ xs. take at bytes ++ xs) (drop_more bytes at 0 p.0 ∙ ap₂ (λ (b : ℕ) (more : List ℕ). b ∷ more) is (sym (drop-drop 1 at bytes)))
    ∙ sym (append_assoc (take at bytes) (codes "#") (drop 1 (drop at bytes)))

-- ---- spots

pub spot_whole : (bytes table : List ℕ) → (table ≡ bytes) × IsIdent bytes → IsSpot bytes table None
spot_whole bytes table h = record { table = subst IsIdent (sym h.0) h.1; leaf = tt; name = sym h.0 }

module _ (bytes : List ℕ) (no : IsIdent bytes → ⊥) where
  pub no_spot_unmarked : position (λ b. eqb b 35) bytes ≡ None → (table : List ℕ) (leaf : Option (List ℕ)) → IsSpot bytes table leaf → ⊥
  no_spot_unmarked none table None s = no (subst IsIdent (sym s.name) s.table)
  no_spot_unmarked none table (Some leaf) s = let bad : None ≡ Some (length table) = sym none ∙ mark_at bytes table (lowered leaf) s.table s.name in cc

  module _ (at : ℕ) (found : position (λ b. eqb b 35) bytes ≡ Some at) where
    pub no_spot_table : (IsIdent (take at bytes) → ⊥) → (table : List ℕ) (leaf : Option (List ℕ)) → IsSpot bytes table leaf → ⊥
    no_spot_table bad table None s = no (subst IsIdent (sym s.name) s.table)
    no_spot_table bad table (Some leaf) s = bad (subst IsIdent (sym (marked bytes table (lowered leaf) at found s.table s.name).0) s.table)

    pub no_spot_leaf : (IsLeaf (drop 1 (drop at bytes)) → ⊥) → (table : List ℕ) (leaf : Option (List ℕ)) → IsSpot bytes table leaf → ⊥
    no_spot_leaf bad table None s = no (subst IsIdent (sym s.name) s.table)
    no_spot_leaf bad table (Some leaf) s =
        let low : lowered leaf ≡ leaf = s.leaf.low in
        let is : drop 1 (drop at bytes) ≡ leaf = (marked bytes table (lowered leaf) at found s.table s.name).1 ∙ low in
        bad (subst IsLeaf (sym is) s.leaf)

pub spot_marked : (bytes table leaf : List ℕ) (at : ℕ) → position (λ b. eqb b 35) bytes ≡ Some at → (table ≡ take at bytes) × IsIdent (take at bytes) → (leaf ≡ drop 1 (drop at bytes)) × IsLeaf (drop 1 (drop at bytes))
    → IsSpot bytes table (Some leaf)
spot_marked bytes table leaf at found t l =
    let leaf_is : IsLeaf leaf = subst IsLeaf (sym l.0) l.1 in
    record {
      table = subst IsIdent (sym t.0) t.1;
      leaf = leaf_is;
      name = at_mark bytes at found ∙ ap₂ (λ (a b : List ℕ). a ++ codes "#" ++ b) (sym t.0) (sym l.0 ∙ sym leaf_is.low);
    }

-- the bytes of a name in lower case, with zeros behind
pub low_padded : (name : List ℕ) (n : ℕ) → length name ≡ n → take n (padded_to 64 (lowered name)) ≡ lowered name
low_padded name n e = take-padded 64 (lowered name) n (length-map name to_ascii_lowercase ∙ e)

zeros_stay : (n : ℕ) → map to_ascii_lowercase (replicate n 0) ≡ replicate n 0
zeros_stay zero = refl
zeros_stay (suc n) = ap (λ (xs : List ℕ). 0 ∷ xs) (zeros_stay n)

pub padded_lowered : (name : List ℕ) → map to_ascii_lowercase (padded_to 64 name) ≡ padded_to 64 (lowered name)
padded_lowered name =
    map-append to_ascii_lowercase name (replicate (64 - length name) 0) ∙ ap (λ (xs : List ℕ). lowered name ++ xs) (zeros_stay (64 - length name))
    ∙ ap (λ n. lowered name ++ replicate (64 - n) 0) (sym (length-map name to_ascii_lowercase))

-- the three parts of a partition's file name, as they are joined
pub joined_leaf : (table leaf t l l' marked small both : List ℕ) → t ≡ table → l ≡ leaf → l' ≡ leaf → IsIdent table → IsIdent leaf → marked ≡ padded_to 65 (t ++ codes "#") → small ≡ padded_to 64 (lowered leaf)
    → both ≡ padded_to 129 (take (length t + 1) marked ++ take (length l) small) → take (length t + 1 + length l') both ≡ table ++ codes "#" ++ lowered leaf
joined_leaf table leaf t l l' marked small both is_t is_l is_l' ident low m s b =
    let first : take (length t + 1) marked ≡ table ++ codes "#" = ap (take (length t + 1)) m ∙ take-padded 65 (t ++ codes "#") (length t + 1) (length-append t (codes "#")) ∙ ap (λ (x : List ℕ). x ++ codes "#") is_t in
    let second : take (length l) small ≡ lowered leaf = ap (take (length l)) s ∙ low_padded leaf (length l) (ap (λ (x : List ℕ). length x) (sym is_l)) in
    let whole : both ≡ padded_to 129 (table ++ codes "#" ++ lowered leaf) = b ∙ ap₂ (λ (x y : List ℕ). padded_to 129 (x ++ y)) first second in
    ap (take (length t + 1 + length l')) whole
    ∙ take-padded 129 (table ++ codes "#" ++ lowered leaf) (length t + 1 + length l')
    (omega (arith, ap (λ (x : List ℕ). length x) is_t, ap (λ (x : List ℕ). length x) is_l', length-append (table ++ codes "#") (lowered leaf), length-append table (codes "#"), length-map leaf to_ascii_lowercase))

pub leaf_is_low : (bytes leaf small : List ℕ) → (leaf ≡ bytes) × IsIdent bytes → small ≡ padded_to 64 (lowered leaf) → take (length bytes) small ≡ bytes → (leaf ≡ bytes) × IsLeaf bytes
leaf_is_low bytes leaf small h s e =
    let low : lowered bytes ≡ bytes = ap lowered (sym h.0) ∙ sym (low_padded leaf (length bytes) (ap (λ (x : List ℕ). length x) h.0)) ∙ ap (take (length bytes)) (sym s) ∙ e in
    (h.0, record { ident = h.1; low = low })
