use Rattle.std.proofs.Common.{All, take}
use Rattle.pt_value.specs.Ident.{IsIdent}
use Rattle.pt_defs.proofs.fitting.keys_fit.Given as goal

abbrev pub invariant-loop-key : goal.invariant-loop-key
invariant-loop-key l = All (λ key. IsIdent key.name) (take l.key-index l.keys)
