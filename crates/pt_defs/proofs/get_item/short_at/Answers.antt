use Rattle.pt_defs.proofs.Fields.{short_none, short_few, short_enough}
use Rattle.pt_defs.proofs.get_item.short_at.Goals as goal

pub returns-in_default : goal.returns-in_default
returns-in_default c = short_none c.args.bytes.now c.in_default.len_below

pub returns-then-rest-count : goal.returns-then-rest-count
returns-then-rest-count c = short_few c.args.bytes.now c.in-len1-up.len_at_least c.if-rest-count.true

pub returns : goal.returns
returns c = short_enough c.args.bytes.now _ _ c.in-len1-up.len_at_least c.if-rest-count.false c.split_at.ensures.front c.split_at.ensures.back
