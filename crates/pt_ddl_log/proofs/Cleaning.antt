-- The tests of a chain, one after the other.
use Rattle.std.proofs.Common.{◌≡◌, ◌↔◌, Bool, true, false, refl, IsTrue, length, eqb, All, sym, ◌∙◌}
use Rattle.std.specs.Prelude.{AllPairs}
use Rattle.std.specs.List.{list_any}
use Rattle.std.proofs.lemmas.Bool.{false≢true}
use Rattle.std.proofs.lemmas.Bool.Decides.{Decides-eqb}
use Rattle.pt_ddl_log.specs.declared.chain.Chain.{Chain}
use Rattle.pt_ddl_log.specs.Clean.{AreApart, HasTwo, IsClean, IsLasting, is_exchange}

-- a test that fails
pub fails : (b : Bool) (P Q : Type 0) → IsTrue b ↔ P → (Q → P) → b ≡ false → IsTrue false ↔ Q
fails b P Q test part failed = (λ bad. absurd (false≢true bad), λ q. sym failed ∙ test.1 (part q))

-- a test that passes
pub passes : (b : Bool) (P : Type 0) → IsTrue b ↔ P → b ≡ true → P
passes b P test passed = test.0 passed

module _ (chain : Chain) (apart : AllPairs AreApart chain.acts) (lasting : All IsLasting chain.acts) (two : All HasTwo chain.acts) where
  pub plain : (has : Bool) → has ≡ list_any is_exchange chain.acts → has ≡ false → IsTrue true ↔ IsClean chain
  plain has is none = (
    λ yes. record { apart = apart; lasting = lasting; two = two; alone = λ some. absurd (false≢true (sym none ∙ is ∙ some)) },
    λ clean. refl,
  )

  pub exchanging : (has : Bool) → has ≡ list_any is_exchange chain.acts → has ≡ true → IsTrue (eqb (length chain.acts) 1) ↔ IsClean chain
  exchanging has is some = (
    λ one. record { apart = apart; lasting = lasting; two = two; alone = λ there. (Decides-eqb (length chain.acts) 1).0 one },
    λ clean. (Decides-eqb (length chain.acts) 1).1 (clean.alone (sym is ∙ some)),
  )
