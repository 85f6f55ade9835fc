-- Why a text has no complete definition.
use Rattle.pt_ast.specs.declared.refusal.Refusal.{Refusal}
use Rattle.pt_complete.specs.declared.fault.DefFault.{DefFault}
use Rattle.pt_complete.specs.declared.fault.DefFault.TheVariants as fault

-- where a text is refused, this holds of what is refused
abbrev pub IfRefused : DefFault → (Refusal → Type 0) → Type 0
IfRefused (fault.Refused refusal) Holds = Holds refusal
IfRefused fault.NoMemory Holds = Unit {0}
