use Rattle.std.proofs.Common.{◌≡◌, drop}
use Rattle.std.specs.List.{filter_map}
use Rattle.pt_written.specs.Reading.{bad_keys_after}
use Rattle.pt_written.specs.Written.{key_option}
use Rattle.pt_written.proofs.key_texts.bad_own_keys.Given as goal

abbrev pub invariant-loop-option : goal.invariant-loop-option
invariant-loop-option l = bad_keys_after l.columns l.seen (filter_map (key_option l.name) (drop l.option-index l.options)) ≡ bad_keys_after l.columns l.before (filter_map (key_option l.name) l.options)
