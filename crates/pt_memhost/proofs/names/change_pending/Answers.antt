use Rattle.pt_memhost.proofs.Named.{seen_more}
use Rattle.pt_memhost.proofs.names.change_pending.Goals as goal

pub returns-clause-seen : goal.returns-clause-seen
returns-clause-seen c = λ settled seen.
    rw (c.add_last.ensures, c.in_ok-reserve.ensures.items)
    (seen_more c.args.names.now c.change.new.names c.args.pending.now.items c.args.to settled c.in_ok-change.ensures.kept seen)
