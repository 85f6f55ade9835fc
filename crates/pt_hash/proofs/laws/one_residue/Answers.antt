use Rattle.pt_hash.proofs.Residues.{residue-is}
use Rattle.pt_hash.proofs.laws.one_residue.Goals as goal

pub returns : goal.returns
returns c = residue-is
