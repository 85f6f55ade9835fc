-- The first fault of an expression or a condition as a refusal.
use Rattle.std.specs.Prelude.{Option, Some, None, Result, Ok, Err}
use Rattle.pt_ast.specs.declared.refusal.Arg.{Arg}
use Rattle.pt_ast.specs.declared.refusal.Refusal.{Refusal}
use Rattle.pt_ast.specs.declared.refusal.Refusal.TheVariants as refusal
use Rattle.pt_expr.specs.declared.kind.CheckFault.{CheckFault}
use Rattle.pt_expr.specs.declared.kind.CheckFault.TheVariants as fault

-- A column that isn't there is told by its name, any other fault by a row of VALUES or by the table.
abbrev pub of_fault : Arg → CheckFault → Refusal
of_fault arg (fault.NoColumn name) = refusal.NoSuchColumn name
of_fault arg fault.Mismatch = refusal.TypeMismatch arg
of_fault arg fault.TooWide = refusal.TooWide arg
of_fault arg fault.BadDate = refusal.OutOfRange arg

-- the fault, where there is one
abbrev pub of_finding : {A : Type 0} → Arg → Result A CheckFault → Option Refusal
of_finding arg (Ok found) = None
of_finding arg (Err fault) = Some (of_fault arg fault)
