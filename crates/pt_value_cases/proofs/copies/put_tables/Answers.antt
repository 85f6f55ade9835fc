use Rattle.pt_value_cases.proofs.Empty.{none_rise}
use Rattle.pt_value_cases.proofs.copies.put_tables.Goals as goal

pub of-tables-requires : goal.of-tables-requires
of-tables-requires c = none_rise _ c.new-none.ensures.items
