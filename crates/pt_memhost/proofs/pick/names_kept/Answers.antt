use Rattle.std.proofs.Common.{◌∙◌, ap, sym, map, List, take, arith}
use Rattle.pt_host.specs.Disk.{names_after}
use Rattle.pt_memhost.specs.declared.names.NameChange.{NameChange}
use Rattle.pt_memhost.specs.Names.{named, op_of}
use Rattle.pt_memhost.proofs.Filled.{take_item}
use Rattle.pt_memhost.proofs.Named.{seen_more}
use Rattle.pt_memhost.proofs.pick.names_kept.Goals as goal

pub loop-to-preserved : goal.loop-to-preserved
loop-to-preserved c =
    seen_more c.loop-to.names c.change.new.names (take c.loop-to.to-index c.args.kept.now) c.to-item.result (named c.args.settled.now) c.in_ok-change.ensures.kept c.loop-to.invariant
    ∙ ap (λ (kept : List NameChange). names_after (map op_of kept) (named c.args.settled.now)) (sym (take_item c.args.kept.now c.loop-to.to-index c.to-item.result (omega arith) c.to-item.is))
