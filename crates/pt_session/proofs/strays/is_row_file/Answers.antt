use Rattle.std.proofs.Common.{sym, true≢false}
use Rattle.std.specs.Option.{option_map}
use Rattle.pt_names.specs.Names.{lowered}
use Rattle.pt_session.proofs.Defined.{row_owner}
use Rattle.pt_session.proofs.strays.is_row_file.Goals as goal

pub returns-in_default : goal.returns-in_default
returns-in_default c = (
  λ bad. absurd (true≢false (sym bad)),
  λ row. absurd (c.in_default.not-Row row.0 (option_map lowered row.1) (row_owner c.args.name.now row.0 row.1 c.owner_of.result c.owner_of.ensures row.2)),
)
