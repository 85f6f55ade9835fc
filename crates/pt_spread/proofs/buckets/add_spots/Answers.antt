use Rattle.std.proofs.Common.{◌++◌, ◌∷◌, [], List, ap, ◌∙◌}
use Rattle.pt_ast.specs.declared.database.Row.{Row}
use Rattle.pt_db.specs.Spots.{spot_at}
use Rattle.pt_spread.proofs.Listed.{spot_more}
use Rattle.pt_spread.proofs.buckets.add_spots.Goals as goal

pub loop-sub-preserved : goal.loop-sub-preserved
loop-sub-preserved c = spot_more c.args.part c.loop-sub.sub c.args.found.now.items c.loop-sub.found.items c.push.new.self.items c.loop-sub.invariant
    (c.in_ok-push.ensures.items ∙ ap (λ (rows : List Row). c.loop-sub.found.items ++ (spot_at c.args.part c.loop-sub.sub, rows) ∷ []) c.new.ensures)
