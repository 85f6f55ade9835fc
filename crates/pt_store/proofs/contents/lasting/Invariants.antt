use Rattle.std.proofs.Common.{◌≡◌, not}
use Rattle.std.specs.List.{filter}
use Rattle.pt_host.specs.Name.{is_extra}
use Rattle.pt_store.proofs.contents.lasting.Given as goal

abbrev pub invariant-loop-name : goal.invariant-loop-name
invariant-loop-name l = l.files ≡ filter (λ file. not (is_extra file.0)) l.yielded
