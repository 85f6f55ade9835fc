-- The bytes of a name, and what is kept of them.
use Rattle.std.proofs.Common.{◌≡◌, ℕ, ◌+◌, ◌<◌, ◌≤◌, List, ◌++◌, length, take, arith, ◌∙◌, sym, length-append, All, IsTrue}
use Rattle.std.proofs.lemmas.List.Elements.{All-append}
use Rattle.std.proofs.Math.ListN.{get_or-append}
use Rattle.pt_plain.specs.Padded.{padded_to}
use Rattle.pt_plain.proofs.Padding.{IsKept}
use Rattle.pt_host.specs.Name.{IsName, is_name_byte}

-- a name with more name bytes behind it
pub is_name-append : (name end : List ℕ) → IsName name → All (λ b. IsTrue (is_name_byte b)) end → length name + length end ≤ 160 → IsName (name ++ end)
is_name-append name end is named fits = record {
  some = rw (length-append name end) (let h : 0 < length name = is.some in omega arith);
  fits = rw (length-append name end) fits;
  each = All-append (λ b. IsTrue (is_name_byte b)) name end is.each named;
  first = λ e. is.first (sym (get_or-append name end 0 0 is.some) ∙ e);
}

pub kept_invariant : (name bytes : List ℕ) (len : ℕ) → IsName name → IsKept 160 name bytes len
    → IsName (take len bytes) × (bytes ≡ padded_to 160 (take len bytes)) × (length (take len bytes) ≡ len)
kept_invariant name bytes len is kept = rw kept.name_is (is, kept.padding, kept.len_is)
