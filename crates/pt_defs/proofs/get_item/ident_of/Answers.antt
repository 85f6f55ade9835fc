use Rattle.std.proofs.Common.{◌∙◌}
use Rattle.pt_defs.proofs.Fields.{ident_told}
use Rattle.pt_defs.proofs.get_item.ident_of.Goals as goal

pub returns : goal.returns
returns c = c.ok.ensures.value ∙ ident_told c.args.bytes.now c.of.result c.of.ensures.value c.of.ensures.ident c.of.ensures.fault
