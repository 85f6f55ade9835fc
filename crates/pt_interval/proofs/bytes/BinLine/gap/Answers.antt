use Rattle.std.proofs.Common.{sym, ap, ◌∙◌, Some}
use Rattle.std.specs.Option.{option_copied}
use Rattle.pt_interval.proofs.Gap.{bytes_gap, bytes_gap_on}
use Rattle.pt_interval.proofs.bytes.BinLine.gap.Goals as goal

pub returns-in-Some : goal.returns-in-Some
returns-in-Some c =
    bytes_gap (option_copied c.args.from) (option_copied c.args.to) c.items_of.result.now c.items.result.now c.args.limit c.count_below.result c.requires.from c.items_of.ensures
    (ap option_copied c.in-Some.is ∙ ap Some (sym c.items.ensures)) c.count_below.ensures

pub returns-in-None : goal.returns-in-None
returns-in-None c = bytes_gap_on (option_copied c.args.from) (option_copied c.args.to) c.args.limit c.requires.from (ap option_copied c.in-None.is)
