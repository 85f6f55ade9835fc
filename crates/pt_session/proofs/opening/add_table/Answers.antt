use Rattle.pt_session.proofs.opening.add_table.Goals as goal

pub returns-clause-adds : goal.returns-clause-adds
returns-clause-adds g c = record { def = c.in_ok-def.def; kept = c.in_ok-def.ensures.kept; put = c.in_ok-insert.ensures.updates.0; read = c.in_ok-def.ensures.read }
