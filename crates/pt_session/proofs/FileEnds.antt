-- Names of files told apart by their last bytes.
use Rattle.std.proofs.Common.{◌≡◌, ◌≢◌, ◌⊎◌, inl, inr, ℕ, zero, suc, ◌-◌, ◌<◌, ◌≤◌, Bool, true, false, ◌||◌, List, [], ◌∷◌, ◌++◌, length, take, drop, Option, Some, None, refl, sym, ap, ap₂, ◌∙◌, arith, append_assoc, length-append, take-append-drop}
use Rattle.std.specs.Prelude.{IfSome, Contains, codes, nat_eq}
use Rattle.std.specs.List.{ends_with}
use Rattle.std.proofs.lemmas.List.{length-map, same_from_push}
use Rattle.std.proofs.lemmas.Slice.Eq.{bytes_eq-Decides}
use Rattle.std.specs.Char.{to_ascii_lowercase}
use Rattle.std.specs.Str.{bytes_eq}
use Rattle.std.proofs.Math.Seq.{drop-append_seam}
use Rattle.pt_value.specs.Ident.{IsIdent}
use Rattle.pt_host.specs.Name.{is_extra, shadow_end, temp_end}
use Rattle.pt_names.specs.Names.{def_name, lowered, row_name, spot_name, serials_name}
use Rattle.pt_names.proofs.Spots.{same_ends}
use Rattle.pt_store.specs.Reshape.{fixed_names}

-- # The last byte

abbrev pub EndsIn : List ℕ → ℕ → Type 0
EndsIn name byte = (front : List ℕ) × (name ≡ front ++ byte ∷ [])

pub one_end : (a b : List ℕ) (x y : ℕ) → EndsIn a x → EndsIn b y → a ≡ b → x ≡ y
one_end a b x y at_a at_b same = (same_from_push at_a.0 at_b.0 x y (sym at_a.1 ∙ same ∙ at_b.1)).1

-- a name that ends in a text ends in its last byte
ends_so : (name needle front : List ℕ) (byte : ℕ) → needle ≡ front ++ byte ∷ [] → ends_with nat_eq name needle ≡ true → EndsIn name byte
ends_so name needle front byte is ends =
    let k = length name - length needle in
    let tail : needle ≡ drop k name = (bytes_eq-Decides needle (drop k name)).0 ends in
    (take k name ++ front, sym (take-append-drop k name) ∙ ap (λ (t : List ℕ). take k name ++ t) (sym tail ∙ is) ∙ sym (append_assoc (take k name) front (byte ∷ [])))

not_ending : (name needle front : List ℕ) (x y : ℕ) → EndsIn name x → x ≢ y → needle ≡ front ++ y ∷ [] → ends_with nat_eq name needle ≡ false
not_ending name needle front x y ends other is = go (ends_with nat_eq name needle) refl
  where
    go : (t : Bool) → ends_with nat_eq name needle ≡ t → t ≡ false
    go true so = absurd (other (one_end name name x y ends (ends_so name needle front y is so) refl))
    go false so = refl

pub not_extra : (name : List ℕ) (byte : ℕ) → EndsIn name byte → byte ≢ 119 → byte ≢ 112 → is_extra name ≡ false
not_extra name byte ends not_w not_p =
    ap₂ (λ (a b : Bool). a || b) (not_ending name shadow_end (codes ".ne") byte 119 ends not_w refl) (not_ending name temp_end (codes ".swa") byte 112 ends not_p refl)

-- none of the files that each directory has
pub not_fixed : (name : List ℕ) (byte : ℕ) → EndsIn name byte → byte ≢ 116 → byte ≢ 103 → Contains fixed_names name → ⊥
not_fixed name byte ends not_t not_g (zero, within, is) = not_t (one_end name serials_name byte 116 ends (codes "serials.cn", refl) (sym is))
not_fixed name byte ends not_t not_g (suc zero, within, is) = not_g (one_end name (codes "row_journal.log") byte 103 ends (codes "row_journal.lo", refl) (sym is))
not_fixed name byte ends not_t not_g (suc (suc zero), within, is) = not_g (one_end name (codes "ddl_log.log") byte 103 ends (codes "ddl_log.lo", refl) (sym is))
not_fixed name byte ends not_t not_g (suc (suc (suc k)), within, is) = absurd (omega (arith, within))

-- # The names of a table's files

pub def_ends : (table : List ℕ) → EndsIn (def_name table) 102
def_ends table = (table ++ codes ".de", sym (append_assoc table (codes ".de") (102 ∷ [])))

pub row_ends : (table : List ℕ) (leaf : Option (List ℕ)) → EndsIn (row_name table leaf) 115
row_ends table leaf = (spot_name table leaf ++ codes ".row", sym (append_assoc (spot_name table leaf) (codes ".row") (115 ∷ [])))

-- a shadow's name is extra
pub shadow_extra : (name : List ℕ) → is_extra (name ++ shadow_end) ≡ true
shadow_extra name = ap (λ (tail : List ℕ). bytes_eq shadow_end tail || ends_with nat_eq (name ++ shadow_end) temp_end) (ap (λ n. drop n (name ++ shadow_end)) long ∙ drop-append_seam name shadow_end)
  where
    long : length (name ++ shadow_end) - 4 ≡ length name
    long = omega (arith, length-append name shadow_end)

pub shadow_ends : (name : List ℕ) → EndsIn (name ++ shadow_end) 119
shadow_ends name = (name ++ codes ".ne", sym (append_assoc name (codes ".ne") (119 ∷ [])))

pub def_plain : (table : List ℕ) → is_extra (def_name table) ≡ false
def_plain table = not_extra (def_name table) 102 (def_ends table) (λ e. omega (arith, e)) (λ e. omega (arith, e))

pub row_plain : (table : List ℕ) (leaf : Option (List ℕ)) → is_extra (row_name table leaf) ≡ false
row_plain table leaf = not_extra (row_name table leaf) 115 (row_ends table leaf) (λ e. omega (arith, e)) (λ e. omega (arith, e))

pub serials_plain : is_extra serials_name ≡ false
serials_plain = not_extra serials_name 116 (codes "serials.cn", refl) (λ e. omega (arith, e)) (λ e. omega (arith, e))

-- A name that may be a table's file: its last byte is none of a fixed name or of an extra one, and it leaves room for a shadow's.
pub record IsOwn (name : List ℕ) : Type 0 where
  pub byte : ℕ
  pub ends : EndsIn name byte
  pub low : byte < 116
  pub not_g : byte ≢ 103
  pub not_p : byte ≢ 112
  pub short : length name ≤ 154

pub own_plain : (name : List ℕ) → IsOwn name → is_extra name ≡ false
own_plain name own = not_extra name own.byte own.ends (λ e. let low = own.low in omega (arith, e, low)) own.not_p

pub own_not_fixed : (name : List ℕ) → IsOwn name → Contains fixed_names name → ⊥
own_not_fixed name own = not_fixed name own.byte own.ends (λ e. let low = own.low in omega (arith, e, low)) own.not_g

pub shadow_not_fixed : (name : List ℕ) → Contains fixed_names (name ++ shadow_end) → ⊥
shadow_not_fixed name = not_fixed (name ++ shadow_end) 119 (shadow_ends name) (λ e. omega (arith, e)) (λ e. omega (arith, e))

pub own_not_shadow : (name other : List ℕ) → IsOwn name → name ≡ other ++ shadow_end → ⊥
own_not_shadow name other own same = let low = own.low in let e = one_end name (other ++ shadow_end) own.byte 119 own.ends (shadow_ends other) same in omega (arith, e, low)

pub def_own : (table : List ℕ) → IsIdent table → IsOwn (def_name table)
def_own table is =
    let fits : length table ≤ 64 = is.fits in
    record { byte = 102; ends = def_ends table; low = omega arith; not_g = λ e. omega (arith, e); not_p = λ e. omega (arith, e); short = omega (arith, fits, length-append table (codes ".def")) }

spot_short : (table : List ℕ) (leaf : Option (List ℕ)) → length table ≤ 64 → IfSome leaf IsIdent → length (spot_name table leaf) ≤ 129
spot_short table None fits is = omega (arith, fits)
spot_short table (Some leaf) fits is =
    let low : length leaf ≤ 64 = is.fits in
    let small : length (lowered leaf) ≡ length leaf = length-map leaf to_ascii_lowercase in
    omega (arith, fits, low, small, length-append (table ++ codes "#") (lowered leaf), length-append table (codes "#"))

pub row_own : (table : List ℕ) (leaf : Option (List ℕ)) → IsIdent table → IfSome leaf IsIdent → IsOwn (row_name table leaf)
row_own table leaf is low =
    let short = spot_short table leaf is.fits low in
    record { byte = 115; ends = row_ends table leaf; low = omega arith; not_g = λ e. omega (arith, e); not_p = λ e. omega (arith, e); short = omega (arith, short, length-append (spot_name table leaf) (codes ".rows")) }

-- # Names of acts

pub one_name : (x name : List ℕ) → Contains (x ∷ []) name → x ≡ name
one_name x name (zero, within, is) = is
one_name x name (suc k, within, is) = absurd (omega (arith, within))

pub two_names : (x y name : List ℕ) → Contains (x ∷ y ∷ []) name → (x ≡ name) ⊎ (y ≡ name)
two_names x y name (zero, within, is) = inl is
two_names x y name (suc zero, within, is) = inr is
two_names x y name (suc (suc k), within, is) = absurd (omega (arith, within))

pub one_shadow : (a b : List ℕ) → a ++ shadow_end ≡ b ++ shadow_end → a ≡ b
one_shadow a b e = (same_ends a b shadow_end shadow_end refl e).0
