-- The fields that stand alone: numbers, names and strings at the front of bytes.
use Rattle.std.proofs.Common.{◌≡◌, ℕ, ◌+◌, ◌-◌, ◌<◌, ◌≤◌, Bool, true, false, cond, leb, eqb, List, [], ◌∷◌, length, take, drop, get_or, Some, None, refl, sym, ap, ap₂, ◌∙◌, arith}
use Rattle.std.specs.Prelude.{Result, Ok, Err, IfOk, IfErr, ◌&&◌, nat_lt, nat_le}
use Rattle.std.specs.Option.{option_map}
use Rattle.std.specs.Result.{result_ok}
use Rattle.std.specs.List.{list_all}
use Rattle.std.proofs.lemmas.Bool.{le-leb, lt-leb, leb-true, leb-false, ltb-true, lt-ltb, eq-eqb, ne_eqb, and_from, and_parts, true≢false}
use Rattle.std.proofs.lemmas.List.{take_all, get_or-map}
use Rattle.std.proofs.lemmas.List.Sums.{list_all-from_AllPass, AllPass-from_list_all}
use Rattle.pt_value.specs.Ident.{IsIdent, is_ident_byte}
use Rattle.pt_value.specs.NameFault.{IsNameFault}
use Rattle.pt_value.specs.declared.ident.NameFault.{NameFault}
use Rattle.pt_value.specs.declared.ident.NameFault.TheVariants.{Empty, TooLong, BadByte}
use Rattle.pt_bytes.specs.Numbers as numbers
use Rattle.pt_bytes.proofs.Parts.{part_there, part_missing}
use Rattle.pt_ast.specs.declared.table.Column.{Column}
use Rattle.pt_defs.specs.Spelling.{column_place}
use Rattle.pt_defs.specs.Reading.{byte_at, first_named, has_length, is_ident, name_of, number_at, part_at, short_at, string_at}

-- ---- numbers

pub part_enough : (n : ℕ) (bytes : List ℕ) → n ≤ length bytes → part_at n bytes ≡ Ok (take n bytes, drop n bytes)
unfolding part_at
part_enough n bytes enough = rw (le-leb n (length bytes) enough) refl

pub part_few : (n : ℕ) (bytes : List ℕ) → length bytes < n → part_at n bytes ≡ Err (length bytes)
unfolding part_at
part_few n bytes few = rw (lt-leb n (length bytes) few) refl

pub number_enough : (n : ℕ) (bytes : List ℕ) → n ≤ length bytes → number_at n bytes ≡ Ok (numbers.number_of (take n bytes), drop n bytes)
unfolding number_at
number_enough n bs enough = rw (part_enough n bs enough) refl

pub number_few : (n : ℕ) (bytes : List ℕ) → length bytes < n → number_at n bytes ≡ Err (length bytes)
unfolding number_at
number_few n bs few = rw (part_few n bs few) refl

module _ (bs : List ℕ) (n : ℕ) where
  found_there : n ≤ length bs → option_map numbers.number_of (numbers.part_at bs 0 n) ≡ Some (numbers.number_of (take n bs))
  found_there enough = ap (option_map numbers.number_of) (part_there bs 0 n (omega arith))

  -- a number that a cursor finds
  pub found_long : (x : ℕ) → option_map numbers.number_of (numbers.part_at bs 0 n) ≡ Some x → n ≤ length bs
  unfolding numbers.part_at
  found_long x e = go (leb (0 + n) (length bs)) refl e
    where
      go : (b : Bool) → leb (0 + n) (length bs) ≡ b → option_map numbers.number_of (cond b (Some (take n (drop 0 bs))) None) ≡ Some x → n ≤ length bs
      go true is same = omega (arith, leb-true (0 + n) (length bs) is)
      go false is same = absurd cc

  pub found_number : (x : ℕ) (rest : List ℕ) → option_map numbers.number_of (numbers.part_at bs 0 n) ≡ Some x → rest ≡ drop n bs → number_at n bs ≡ Ok (x, rest)
  found_number x rest e behind =
      let enough = found_long x e in
      let same : numbers.number_of (take n bs) ≡ x = (let s : Some (numbers.number_of (take n bs)) ≡ Some x = sym (found_there enough) ∙ e in cc) in
      number_enough n bs enough ∙ ap₂ (λ (v : ℕ) (r : List ℕ). Ok (v, r)) same (sym behind)

  pub missing_number : option_map numbers.number_of (numbers.part_at bs 0 n) ≡ None → number_at n bs ≡ Err (length bs)
  missing_number e = go (leb n (length bs)) refl
    where
      go : (b : Bool) → leb n (length bs) ≡ b → number_at n bs ≡ Err (length bs)
      go true is = let bad : Some (numbers.number_of (take n bs)) ≡ None = sym (found_there (leb-true n (length bs) is)) ∙ e in absurd cc
      go false is = number_few n bs (leb-false n (length bs) is)

-- ---- names

byte_first : (b : ℕ) (rest : List ℕ) → byte_at (b ∷ rest) ≡ Ok (b, rest)
unfolding byte_at
byte_first b rest = refl

-- the first byte, and those behind it
opened : (bs : List ℕ) → 1 ≤ length bs → bs ≡ get_or bs 0 0 ∷ take (length bs - 1) (drop 1 bs)
opened [] some = absurd (omega (arith, some))
opened (b ∷ bs) some = ap (λ (rest : List ℕ). b ∷ rest) (sym (take_all (length (b ∷ bs) - 1) bs (omega arith)))

pub short_none : (bs : List ℕ) → length bs < 1 → short_at bs ≡ Err (length bs)
unfolding short_at byte_at
short_none [] e = refl
short_none (b ∷ bs) e = absurd (omega (arith, e))

short_few' : (bs : List ℕ) (n : ℕ) (rest : List ℕ) → bs ≡ n ∷ rest → length rest < n → short_at bs ≡ Err (length bs)
unfolding short_at
short_few' bs n rest e few = rw (e, byte_first n rest, part_few n rest few) refl

short_enough' : (bs : List ℕ) (n : ℕ) (rest part more : List ℕ) → bs ≡ n ∷ rest → n ≤ length rest → part ≡ take n rest → more ≡ drop n rest → short_at bs ≡ Ok (part, more)
unfolding short_at
short_enough' bs n rest part more e enough is_part is_more = rw (e, byte_first n rest, part_enough n rest enough, is_part, is_more) refl

pub short_few : (bs : List ℕ) → 1 ≤ length bs → length (take (length bs - 1) (drop 1 bs)) < get_or bs 0 0 → short_at bs ≡ Err (length bs)
short_few bs some few = short_few' bs (get_or bs 0 0) (take (length bs - 1) (drop 1 bs)) (opened bs some) few

pub short_enough : (bs part more : List ℕ) → 1 ≤ length bs → get_or bs 0 0 ≤ length (take (length bs - 1) (drop 1 bs)) → part ≡ take (get_or bs 0 0) (take (length bs - 1) (drop 1 bs))
    → more ≡ drop (get_or bs 0 0) (take (length bs - 1) (drop 1 bs)) → short_at bs ≡ Ok (part, more)
short_enough bs part more some enough is_part is_more = short_enough' bs (get_or bs 0 0) (take (length bs - 1) (drop 1 bs)) part more (opened bs some) enough is_part is_more

pub long_none : (bs : List ℕ) → number_at 2 bs ≡ Err (length bs) → string_at bs ≡ Err (length bs)
unfolding string_at
long_none bs e = rw e refl

pub long_few : (bs : List ℕ) (n : ℕ) (rest : List ℕ) → number_at 2 bs ≡ Ok (n, rest) → length rest < n → string_at bs ≡ Err (length bs)
unfolding string_at
long_few bs n rest e few = rw (e, part_few n rest few) refl

pub long_enough : (bs : List ℕ) (n : ℕ) (rest part more : List ℕ) → number_at 2 bs ≡ Ok (n, rest) → n ≤ length rest → part ≡ take n rest → more ≡ drop n rest → string_at bs ≡ Ok (part, more)
unfolding string_at
long_enough bs n rest part more e enough is_part is_more = rw (e, part_enough n rest enough, is_part, is_more) refl

-- ---- identifiers

ident_test : (name : List ℕ) → IsIdent name → is_ident name ≡ true
ident_test name is =
    and_from _ _ (lt-ltb 0 (length name) is.some) (and_from _ _ (le-leb (length name) 64 is.fits) (list_all-from_AllPass is_ident_byte name is.each))

pub ident_is : (name : List ℕ) → is_ident name ≡ true → IsIdent name
ident_is name e =
    let first = and_parts (nat_lt 0 (length name)) (nat_le (length name) 64 && list_all is_ident_byte name) e in
    let second = and_parts (nat_le (length name) 64) (list_all is_ident_byte name) first.1 in
    record { some = ltb-true 0 (length name) first.0; fits = leb-true (length name) 64 second.0; each = AllPass-from_list_all is_ident_byte name second.1 }

no_ident : (name : List ℕ) (fault : NameFault) → IsNameFault name fault → IsIdent name → ⊥
no_ident name Empty h is = omega (arith, h, is.some)
no_ident name TooLong h is = omega (arith, h, is.fits)
no_ident name (BadByte place) h is = let good : is_ident_byte (get_or name place 0) ≡ true = is.each place 0 h.1.there in absurd (true≢false (sym good ∙ h.1.bad))

pub ident_told : (name : List ℕ) (r : Result (List ℕ) NameFault) → IfOk r (λ x. x ≡ name) → IfOk r (λ _. IsIdent name) → IfErr r (IsNameFault name) → result_ok r ≡ cond (is_ident name) (Some name) None
ident_told name (Ok x) same is fault = rw (ident_test name is) (ap Some same)
ident_told name (Err f) same is fault = go (is_ident name) refl
  where
    go : (b : Bool) → is_ident name ≡ b → result_ok (Err f) ≡ cond (is_ident name) (Some name) None
    go true e = absurd (no_ident name f fault (ident_is name e))
    go false e = rw e refl

-- ---- the length of the whole

module _ (bs : List ℕ) where
  length_there : 12 ≤ length bs → option_map numbers.number_of (numbers.part_at bs 4 8) ≡ Some (numbers.number_of (take 8 (drop 4 bs)))
  length_there enough = ap (option_map numbers.number_of) (part_there bs 4 8 enough)

  length_missing : length bs < 12 → option_map numbers.number_of (numbers.part_at bs 4 8) ≡ None
  length_missing few = ap (option_map numbers.number_of) (part_missing bs 4 8 few)

  pub no_length : option_map numbers.number_of (numbers.part_at bs 4 8) ≡ None → false ≡ has_length bs
  unfolding has_length
  no_length e = go (leb 12 (length bs)) refl
    where
      go : (b : Bool) → leb 12 (length bs) ≡ b → false ≡ (b && eqb (numbers.number_of (take 8 (drop 4 bs))) (length bs - 12))
      go true is = let bad : Some (numbers.number_of (take 8 (drop 4 bs))) ≡ None = sym (length_there (leb-true 12 (length bs) is)) ∙ e in absurd cc
      go false is = refl

  pub length_told : (x n : ℕ) → option_map numbers.number_of (numbers.part_at bs 4 8) ≡ Some x → n ≡ length bs - 12 → eqb x n ≡ has_length bs
  unfolding has_length
  length_told x n e long = go (leb 12 (length bs)) refl
    where
      go : (b : Bool) → leb 12 (length bs) ≡ b → eqb x n ≡ (b && eqb (numbers.number_of (take 8 (drop 4 bs))) (length bs - 12))
      go true is =
          let same : x ≡ numbers.number_of (take 8 (drop 4 bs)) = (let s : Some x ≡ Some (numbers.number_of (take 8 (drop 4 bs))) = sym e ∙ length_there (leb-true 12 (length bs) is) in cc) in
          ap₂ eqb same long
      go false is = let bad : None ≡ Some x = sym (length_missing (leb-false 12 (length bs) is)) ∙ e in absurd cc

-- ---- the column at a position

module _ (columns : List Column) (n : ℕ) (column : Column) (place : ℕ) (there : n < length columns) (is : column ≡ get_or columns n column) (first : place ≡ column_place column.name columns) where
  name_there : name_of columns n ≡ column.name
  name_there = get_or-map (λ (c : Column). c.name) columns n column [] there ∙ ap (λ (c : Column). c.name) (sym is)

  told_by : first_named columns n ≡ cond (eqb place n) (Some column.name) None
  unfolding first_named
  told_by = rw (lt-ltb n (length columns) there, name_there, ← first) refl

  pub not_first : (place ≡ n → ⊥) → None ≡ first_named columns n
  not_first other = sym (told_by ∙ ap (λ b. cond b (Some column.name) None) (ne_eqb place n other))

  pub is_first : place ≡ n → Some column.name ≡ first_named columns n
  is_first same = sym (told_by ∙ ap (λ b. cond b (Some column.name) None) (eq-eqb place n same))
