use Rattle.std.proofs.Common.{◌≡◌, [], ap, arith}
use Rattle.pt_flat_cases.proofs.Begun.{begun_sound}
use Rattle.pt_flat_cases.proofs.taking.late_db.Goals as goal

pub returns : goal.returns
returns c =
    let none : c.empty_db-db.result.tables ≡ [] = ap (λ db. db.tables) c.empty_db-db.ensures in
    rw none (begun_sound 4611686018427387903 (omega arith) (omega arith))
