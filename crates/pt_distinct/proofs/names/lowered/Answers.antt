use Rattle.std.proofs.Common.{ℕ, List, subst}
use Rattle.pt_value.specs.NameFault.{IsNameFault}
use Rattle.pt_distinct.specs.Names.{lowered}
use Rattle.pt_distinct.proofs.Lower.{front, lowered_ident, no_fault}
use Rattle.pt_distinct.proofs.names.lowered.Goals as goal

pub unreachable-requires : goal.unreachable-requires
unreachable-requires c =
    let name = c.args.name.now in
    no_fault (lowered name) c.in_default.field-0 (lowered_ident name c.bytes-bytes.ensures.ident)
    (subst (λ (bytes : List ℕ). IsNameFault bytes c.in_default.field-0) (front name c.bytes-bytes.result.now c.padded-small.result c.make_ascii_lowercase.new.self c.bytes-bytes.ensures.value c.padded-small.ensures c.make_ascii_lowercase.ensures.after)
    c.in_default.ensures.fault)
