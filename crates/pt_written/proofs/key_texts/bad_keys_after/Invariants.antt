use Rattle.std.proofs.Common.{◌≡◌, false, drop}
use Rattle.pt_written.specs.Reading.{bad_keys_after}
use Rattle.pt_written.specs.Written.{keys_written}
use Rattle.pt_written.proofs.key_texts.bad_keys_after.Given as goal

abbrev pub invariant-loop-item : goal.invariant-loop-item
invariant-loop-item l = bad_keys_after l.columns l.seen (keys_written (drop l.item-index l.items)) ≡ bad_keys_after l.columns false (keys_written l.items)
