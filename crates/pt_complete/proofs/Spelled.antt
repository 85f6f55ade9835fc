-- The bytes of names that are made are those of identifiers.
use Rattle.std.proofs.Common.{ℕ, ◌+◌, ◌<◌, ◌^◌, ◌%◌, List, [], ◌∷◌, ◌++◌, refl, arith, All}
use Rattle.std.specs.Prelude.{IsTrue, codes, decimal, slice_index}
use Rattle.std.proofs.lemmas.List.Elements.{All-append, All-cons, All-nil}
use Rattle.std.proofs.lemmas.List.{length-append}
use Rattle.std.proofs.lemmas.Fmt.{decimal_by_steps, length-decimal-le}
use Rattle.pt_value.specs.Ident.{IsIdent, is_ident_byte}
use Rattle.pt_value.specs.NameFault.{IsNameFault}
use Rattle.pt_value.specs.declared.ident.NameFault.{NameFault}
use Rattle.pt_value.specs.declared.ident.NameFault.TheVariants.{Empty, TooLong, BadByte}
use Rattle.pt_complete.specs.Making.{IsSpelled}

pub no_fault : (bytes : List ℕ) (fault : NameFault) → IsIdent bytes → IsNameFault bytes fault → ⊥
no_fault bytes Empty ident bad = omega (arith, ident.some, bad)
no_fault bytes TooLong ident bad = omega (arith, ident.fits, bad)
no_fault bytes (BadByte place) ident bad = let each : IsTrue (is_ident_byte (slice_index bytes place)) = ident.each place 0 bad.1.there in let wrong = bad.1.bad in cc

pub digit_ident : (n : ℕ) → n < 10 → IsTrue (is_ident_byte (48 + n))
digit_ident n small = grind (arith, small)

pub one_byte : (b : ℕ) → IsTrue (is_ident_byte b) → All (λ b. IsTrue (is_ident_byte b)) (b ∷ [])
one_byte b is = All-cons (λ b. IsTrue (is_ident_byte b)) b [] is (All-nil (λ b. IsTrue (is_ident_byte b)))

pub decimal_ident : (n : ℕ) → n < 2 ^ 64 → All (λ b. IsTrue (is_ident_byte b)) (decimal n)
decimal_ident n small =
    decimal_by_steps (λ n ds. All (λ b. IsTrue (is_ident_byte b)) ds)
    (λ n low. one_byte (48 + n) (digit_ident n low))
    (λ n ds high so. All-append (λ b. IsTrue (is_ident_byte b)) ds ((48 + n % 10) ∷ []) so (one_byte (48 + n % 10) (digit_ident (n % 10) (omega arith))))
    n small

pub sub_spelled : (part : List ℕ) (n : ℕ) → IsIdent part → n < 2 ^ 64 → IsSpelled (part ++ codes "sp" ++ decimal n)
sub_spelled part n ident small = record {
  some = rw (length-append (part ++ codes "sp") (decimal n), length-append part (codes "sp")) (omega (arith, ident.some));
  each = All-append (λ b. IsTrue (is_ident_byte b)) (part ++ codes "sp") (decimal n) (All-append (λ b. IsTrue (is_ident_byte b)) part (codes "sp") ident.each sp_ident) (decimal_ident n small);
}
  where
    sp_ident : All (λ b. IsTrue (is_ident_byte b)) (codes "sp")
    sp_ident = All-cons (λ b. IsTrue (is_ident_byte b)) 115 (112 ∷ []) refl (one_byte 112 refl)

pub part_ident : (n : ℕ) → n < 8192 → IsIdent (codes "p" ++ decimal n)
part_ident n small = record {
  some = omega arith;
  fits = omega (arith, length-decimal-le 4 n (omega arith) (omega (arith, small)) (omega (arith, small)));
  each = All-append (λ b. IsTrue (is_ident_byte b)) (codes "p") (decimal n) (one_byte 112 refl) (decimal_ident n (omega (arith, small)));
}
