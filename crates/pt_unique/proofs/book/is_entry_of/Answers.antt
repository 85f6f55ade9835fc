use Rattle.std.proofs.Common.{◌≡◌, ◌<◌, length, true, false, ap, ◌∙◌, rules}
use Rattle.pt_unique.proofs.Entries.{length-entry_of, entry_checked, mark_at}
use Rattle.pt_unique.proofs.book.is_entry_of.Goals as goal

pub returns-then-entry-keys : goal.returns-then-entry-keys
returns-then-entry-keys c = ((λ h. absurd cc), λ e. absurd (c.if-entry-keys.true (ap length e ∙ length-entry_of c.args.keys.now c.args.cells.now)))

pub returns-then-not-is_mark_of : goal.returns-then-not-is_mark_of
returns-then-not-is_mark_of c =
    let other : c.is_mark_of.result ≡ false = search rules in
    let within : c.loop-number.number < length c.args.keys.now = search rules in (
      (λ h. absurd cc),
      λ e. absurd (
          let same : c.is_mark_of.result ≡ true = c.is_mark_of.ensures.1 (mark_at c.args.keys.now c.args.cells.now c.loop-number.number c.index-keys-number.result c.args.entry.now c.index-entry-number.result within c.index-keys-number.is c.index-entry-number.is e) in
          cc),
    )

pub loop-number-preserved : goal.loop-number-preserved
loop-number-preserved c =
    let within : c.loop-number.number < length c.args.keys.now = search rules in
    let also : c.loop-number.number < length c.args.entry.now = search rules in
    let same : c.is_mark_of.result ≡ true = search rules in
    entry_checked c.args.keys.now c.args.cells.now c.loop-number.number c.index-keys-number.result c.args.entry.now c.index-entry-number.result within also c.index-keys-number.is c.index-entry-number.is
    (c.is_mark_of.ensures.0 same) c.loop-number.invariant
