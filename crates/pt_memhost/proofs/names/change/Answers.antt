use Rattle.pt_memhost.proofs.names.change.Goals as goal

pub returns-in_ok-move_name-in-Moved : goal.returns-in_ok-move_name-in-Moved
returns-in_ok-move_name-in-Moved c = record { kept = rw c.in-Moved.is c.in_ok-move_name-in-Moved.ensures.kept }
