use Rattle.std.proofs.Common.{◌∙◌}
use Rattle.pt_written.proofs.KeyTexts.{primary_in}
use Rattle.pt_written.proofs.key_texts.has_primary_key.Goals as goal

pub returns-in-Column : goal.returns-in-Column
returns-in-Column c = (rw c.items.ensures at c.has_primary.ensures) ∙ primary_in c.args.item.now c.in-Column.field-0 c.in-Column.field-1 c.in-Column.options c.in-Column.is
