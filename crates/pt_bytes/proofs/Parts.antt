-- Parts of bytes, as they are split off.
use Rattle.std.proofs.Common.{◌≡◌, ℕ, ◌+◌, ◌<◌, ◌≤◌, Bool, true, false, cond, leb, List, length, take, drop, Some, None, refl, sym, ap, ◌∙◌, arith, length-take, length-drop}
use Rattle.std.specs.List.{IsSplitAt}
use Rattle.std.specs.Option.{option_map}
use Rattle.std.proofs.lemmas.Bool.{le-leb, lt-leb, leb-true}
use Rattle.byteorder.specs.Endian.{little_from}
use Rattle.pt_bytes.specs.Numbers.{number_of, part_at}
use Rattle.pt_bytes.proofs.Numbers.{little_is}

pub part_there : (bytes : List ℕ) (at len : ℕ) → at + len ≤ length bytes → part_at bytes at len ≡ Some (take len (drop at bytes))
unfolding part_at
part_there bytes at len enough = rw (le-leb (at + len) (length bytes) enough) refl

pub part_missing : (bytes : List ℕ) (at len : ℕ) → length bytes < at + len → part_at bytes at len ≡ None
unfolding part_at
part_missing bytes at len few = rw (lt-leb (at + len) (length bytes) few) refl

pub part_split : (bytes : List ℕ) (at len : ℕ) (front rest part more : List ℕ) → IsSplitAt bytes at front rest → IsSplitAt rest len part more → Some part ≡ part_at bytes at len
part_split bytes at len front rest part more first second =
    let there = part_there bytes at len (omega (arith, first.0, first.4, second.0)) in
    ap Some (second.1 ∙ ap (take len) first.2) ∙ sym there

pub part_past : (bytes : List ℕ) (at len : ℕ) → length bytes < at → None ≡ part_at bytes at len
part_past bytes at len past = sym (part_missing bytes at len (omega arith))

pub part_short : (bytes : List ℕ) (at len : ℕ) (front rest : List ℕ) → IsSplitAt bytes at front rest → length rest < len → None ≡ part_at bytes at len
part_short bytes at len front rest first short = sym (part_missing bytes at len (omega (arith, first.0, first.4, short)))

-- a part has so many bytes
pub part_long : (bytes : List ℕ) (at len : ℕ) (part : List ℕ) → Some part ≡ part_at bytes at len → length part ≡ len
unfolding part_at
part_long bytes at len part e = go (leb (at + len) (length bytes)) refl e
  where
    go : (b : Bool) → leb (at + len) (length bytes) ≡ b → Some part ≡ cond b (Some (take len (drop at bytes))) None → length part ≡ len
    go true is same =
        let p : part ≡ take len (drop at bytes) = cc in
        let enough : at + len ≤ length bytes = leb-true _ _ is in
        omega (arith, ap (λ (x : List ℕ). length x) p, length-take len (drop at bytes), length-drop at bytes)
    go false is same = absurd cc

-- the number of a part is that of the kit's crate
pub part_number : (bytes : List ℕ) (at len : ℕ) (part : List ℕ) → Some part ≡ part_at bytes at len → Some (little_from 0 len part) ≡ option_map number_of (part_at bytes at len)
part_number bytes at len part e =
    let long = part_long bytes at len part e in
    let same : little_from 0 len part ≡ number_of part = ap (λ n. little_from 0 n part) (sym long) ∙ little_is part in
    ap Some same ∙ ap (option_map number_of) e

pub part_found : (bytes : List ℕ) (at len : ℕ) (part : List ℕ) (number : ℕ) → Some part ≡ part_at bytes at len → number ≡ little_from 0 len part → Some number ≡ option_map number_of (part_at bytes at len)
part_found bytes at len part number found is = ap Some is ∙ part_number bytes at len part found
