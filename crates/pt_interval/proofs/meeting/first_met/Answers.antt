use Rattle.std.proofs.Common.{Some}
use Rattle.pt_interval.proofs.Skips.{rises_drop, shared_on}
use Rattle.pt_interval.proofs.meeting.first_met.Goals as goal

pub returns : goal.returns
returns g c =
    let order = g.met.T.Line.laws.order in
    let least = Some g.T.Line.least in
    record {
      sets = shared_on order g.T.Line.is_value least c.args.a.now c.args.b.now c.index-b-0.result c.first_past.result c.requires.b_rises c.index-b-0.is c.first_past.ensures;
      rises = rises_drop order g.T.Line.is_value least c.args.a.now c.first_past.result c.requires.a_rises;
    }
