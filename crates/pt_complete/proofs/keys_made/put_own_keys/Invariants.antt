use Rattle.std.proofs.Common.{◌≡◌, ◌++◌, take, map}
use Rattle.std.specs.List.{filter_map}
use Rattle.pt_written.specs.Written.{key_of, key_option}
use Rattle.pt_complete.proofs.keys_made.put_own_keys.Given as goal

abbrev pub invariant-loop-option : goal.invariant-loop-option
invariant-loop-option l = l.keys ≡ l.initial.keys ++ map (key_of l.columns) (filter_map (key_option l.name) (take l.option-index l.options))
