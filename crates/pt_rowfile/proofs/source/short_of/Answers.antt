use Rattle.pt_rowfile.proofs.Taken.{two_bytes}
use Rattle.pt_rowfile.proofs.source.short_of.Goals as goal

pub returns : goal.returns
returns c = two_bytes c.args.part.now c.requires
