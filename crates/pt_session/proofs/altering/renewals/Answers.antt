use Rattle.std.proofs.Common.{ℕ, ◌≤◌, List, length, sym, subst}
use Rattle.std.specs.List.{All}
use Rattle.pt_session.proofs.altering.renewals.Goals as goal

pub renewal-requires : goal.renewal-requires
renewal-requires c =
    subst (λ (file : List ℕ × List ℕ). length file.0 ≤ 154) (sym c.loop-name-item.is)
    (subst (All (λ (file : List ℕ × List ℕ). length file.0 ≤ 154)) (sym c.items-name-items.ensures) c.requires.short c.loop-name.name-index c.loop-name-item.result c.loop-name-test.true)
