use Rattle.std.proofs.Common.{◌≡◌, Some, None, sym, ◌∙◌}
use Rattle.pt_rowfile.specs.Counter.{last_number}
use Rattle.pt_rowfile.proofs.Parts.{one_some}
use Rattle.pt_rowfile.proofs.Taken.{last_part}
use Rattle.pt_rowfile.proofs.counter.last_of.Goals as goal

pub unreachable-requires : goal.unreachable-requires
unreachable-requires c =
    let e = last_part c.new.result c.args.bytes.now c.new.ensures c.requires in
    let bad : None ≡ Some (last_number c.args.bytes.now) = sym c.in-None.is ∙ c.u64_at.ensures ∙ e in
    cc

pub returns : goal.returns
returns c = one_some c.in-Some.number (last_number c.args.bytes.now) (sym c.in-Some.is ∙ c.u64_at.ensures ∙ last_part c.new.result c.args.bytes.now c.new.ensures c.requires)
