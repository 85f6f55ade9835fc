use Rattle.std.proofs.Common.{arith}
use Rattle.pt_bytes.proofs.Parts.{part_found, part_long}
use Rattle.pt_bytes.proofs.cursor.Cursor.u16_at.Goals as goal

pub read_u16-requires : goal.read_u16-requires
read_u16-requires c = omega (arith, part_long _ c.args.at 2 _ c.in_ok-part.ensures)

pub returns : goal.returns
returns c = part_found _ c.args.at 2 _ _ c.in_ok-part.ensures c.read_u16.ensures
