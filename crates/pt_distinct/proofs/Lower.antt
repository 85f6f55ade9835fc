-- Names in lower case are identifiers.
use Rattle.std.proofs.Common.{◌≡◌, ℕ, replicate, ◌-◌, List, [], ◌∷◌, length, take, map, IsTrue, sym, ap, ◌∙◌, arith}
use Rattle.std.specs.Char.{to_ascii_lowercase}
use Rattle.std.specs.List.{AllByRecursion}
use Rattle.std.proofs.lemmas.Bool.{true≢false}
use Rattle.std.proofs.lemmas.Bool.Decides.{nat_tests}
use Rattle.std.proofs.lemmas.List.{take_at, length-map, map-append}
use Rattle.std.proofs.lemmas.List.Elements.{recursion_from_All, All-from_recursion}
use Rattle.pt_plain.specs.Padded.{padded_to}
use Rattle.pt_value.specs.Ident.{IsIdent, is_ident_byte}
use Rattle.pt_value.specs.NameFault.{IsNameFault}
use Rattle.pt_value.specs.declared.ident.NameFault.{NameFault}
use Rattle.pt_value.specs.declared.ident.NameFault.TheVariants.{Empty, TooLong, BadByte}
use Rattle.pt_distinct.specs.Names.{lowered}

lowered_byte : (b : ℕ) → IsTrue (is_ident_byte b) → IsTrue (is_ident_byte (to_ascii_lowercase b))
lowered_byte b is = grind (arith, nat_tests)

lowered_bytes : (bytes : List ℕ) → AllByRecursion (λ b. IsTrue (is_ident_byte b)) bytes → AllByRecursion (λ b. IsTrue (is_ident_byte b)) (lowered bytes)
lowered_bytes [] all = tt
lowered_bytes (b ∷ bytes) all = (lowered_byte b all.0, lowered_bytes bytes all.1)

pub lowered_ident : (name : List ℕ) → IsIdent name → IsIdent (lowered name)
lowered_ident name is = record {
  some = rw (length-map name to_ascii_lowercase) is.some;
  fits = rw (length-map name to_ascii_lowercase) is.fits;
  each = All-from_recursion (λ b. IsTrue (is_ident_byte b)) (lowered name) (lowered_bytes name (recursion_from_All (λ b. IsTrue (is_ident_byte b)) name is.each));
}

pub no_fault : (bytes : List ℕ) (fault : NameFault) → IsIdent bytes → IsNameFault bytes fault → ⊥
no_fault bytes Empty is h = omega (arith, is.some, h)
no_fault bytes TooLong is h = omega (arith, is.fits, h)
no_fault bytes (BadByte place) is h = true≢false (sym (is.each place 0 h.1.there) ∙ h.1.bad)

-- the front of the padded bytes in lower case
pub front : (name bytes small low : List ℕ) → bytes ≡ name → small ≡ padded_to 64 bytes → low ≡ map to_ascii_lowercase small → take (length bytes) low ≡ lowered name
front name bytes small low is pad lower =
    ap (λ (l : List ℕ). take (length bytes) l) (lower ∙ ap lowered pad ∙ map-append to_ascii_lowercase bytes (replicate (64 - length bytes) 0))
    ∙ take_at (lowered bytes) (lowered (replicate (64 - length bytes) 0)) (length bytes) (length-map bytes to_ascii_lowercase)
    ∙ ap lowered is
