use Rattle.pt_written.proofs.written_items.finding_in.Goals as goal

pub returns : goal.returns
returns c = rw (c.requires, c.is_date.ensures) at c.check.ensures
