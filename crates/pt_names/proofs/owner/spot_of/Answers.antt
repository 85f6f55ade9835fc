use Rattle.std.proofs.Common.{◌≡◌, List, ℕ, eqb, ap, drop, ◌∙◌, Some, None, rules}
use Rattle.std.specs.List.{position}
use Rattle.pt_names.proofs.Spots.{no_spot_unmarked, no_spot_table, no_spot_leaf, spot_marked}
use Rattle.pt_names.proofs.owner.spot_of.Goals as goal

pub returns-in_err-at-clause-none : goal.returns-in_err-at-clause-none
returns-in_err-at-clause-none c =
    let bytes : List ℕ = c.args.bytes.now in
    let none : position (λ b. eqb b 35) bytes ≡ None = search rules in
    rw c.from_residual.ensures (no_spot_unmarked bytes c.in_default.ensures.none none)

pub returns-in_err-table-clause-none : goal.returns-in_err-table-clause-none
returns-in_err-table-clause-none c =
    let bytes : List ℕ = c.args.bytes.now in
    let found : position (λ b. eqb b 35) bytes ≡ Some c.in_ok-at.at = search rules in
    rw c.from_residual-in_err-table.ensures (no_spot_table bytes c.in_default.ensures.none c.in_ok-at.at found (rw c.split_at.ensures.front at c.in_err-table.ensures.none))

pub returns-in_err-leaf-clause-none : goal.returns-in_err-leaf-clause-none
returns-in_err-leaf-clause-none c =
    let bytes : List ℕ = c.args.bytes.now in
    let found : position (λ b. eqb b 35) bytes ≡ Some c.in_ok-at.at = search rules in
    let leaf : c.split_at-2.result.1.now ≡ drop 1 (drop c.in_ok-at.at bytes) = c.split_at-2.ensures.back ∙ ap (λ (xs : List ℕ). drop 1 xs) c.split_at.ensures.back in
    rw c.from_residual-in_err-leaf.ensures (no_spot_leaf bytes c.in_default.ensures.none c.in_ok-at.at found (rw leaf at c.in_err-leaf.ensures.none))

pub returns-clause-some : goal.returns-clause-some
returns-clause-some c =
    let bytes : List ℕ = c.args.bytes.now in
    let found : position (λ b. eqb b 35) bytes ≡ Some c.in_ok-at.at = search rules in
    let leaf : c.split_at-2.result.1.now ≡ drop 1 (drop c.in_ok-at.at bytes) = c.split_at-2.ensures.back ∙ ap (λ (xs : List ℕ). drop 1 xs) c.split_at.ensures.back in
    spot_marked bytes _ _ c.in_ok-at.at found (rw c.split_at.ensures.front at c.in_ok-table.ensures.some) (rw leaf at c.in_ok-leaf.ensures.some)
