use Rattle.std.proofs.Common.{◌≡◌, List, ℕ, length, Some, None, sym, ap, ◌∙◌}
use Rattle.pt_bytes.specs.Numbers.{number_of}
use Rattle.pt_rowfile.proofs.Parts.{one_some}
use Rattle.pt_rowfile.proofs.Taken.{whole_part}
use Rattle.pt_rowfile.proofs.source.long_of.Goals as goal

pub unreachable-requires : goal.unreachable-requires
unreachable-requires c =
    let e = whole_part c.new.result 8 (ap (λ (x : List ℕ). length x) c.new.ensures ∙ c.requires) in
    let bad : None ≡ Some (number_of c.new.result) = sym c.in-None.is ∙ c.u64_at.ensures ∙ e in
    cc

pub returns : goal.returns
returns c =
    let e = whole_part c.new.result 8 (ap (λ (x : List ℕ). length x) c.new.ensures ∙ c.requires) in
    one_some c.in-Some.number (number_of c.new.result) (sym c.in-Some.is ∙ c.u64_at.ensures ∙ e) ∙ ap number_of c.new.ensures
