use Rattle.pt_bytes.proofs.Numbers.{determined, back, again, below, joined}
use Rattle.pt_bytes.proofs.laws.one_number.Goals as goal

pub returns : goal.returns
returns c = record { determined = determined; back = back; again = again; below = below; joined = joined }
