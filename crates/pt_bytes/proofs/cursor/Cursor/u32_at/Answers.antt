use Rattle.std.proofs.Common.{arith}
use Rattle.pt_bytes.proofs.Parts.{part_found, part_long}
use Rattle.pt_bytes.proofs.cursor.Cursor.u32_at.Goals as goal

pub read_u32-requires : goal.read_u32-requires
read_u32-requires c = omega (arith, part_long _ c.args.at 4 _ c.in_ok-part.ensures)

pub returns : goal.returns
returns c = part_found _ c.args.at 4 _ _ c.in_ok-part.ensures c.read_u32.ensures
