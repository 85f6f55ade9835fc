use Rattle.std.proofs.Common.{All, take}
use Rattle.pt_value.specs.Ident.{IsIdent}
use Rattle.pt_defs.proofs.fitting.names_fit.Given as goal

abbrev pub invariant-loop-name : goal.invariant-loop-name
invariant-loop-name l = All IsIdent (take l.name-index l.names)
