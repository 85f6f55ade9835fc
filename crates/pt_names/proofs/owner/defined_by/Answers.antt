use Rattle.std.proofs.Common.{◌≡◌, ◌++◌, List, ℕ, rules}
use Rattle.std.specs.Prelude.{codes}
use Rattle.pt_value.specs.Ident.{IsIdent}
use Rattle.pt_names.specs.Names.{IsDefOf}
use Rattle.pt_names.proofs.OptionCases.{if_none_then}
use Rattle.pt_names.proofs.Owners.{def_gone}
use Rattle.pt_names.proofs.owner.defined_by.Goals as goal

pub returns-clause-none : goal.returns-clause-none
returns-clause-none c =
    let front : List ℕ = c.in_ok-before.field-0.now in
    let is : c.args.name.now ≡ front ++ codes ".def" = search rules in
    if_none_then c.ident_of.result (IsIdent front → ⊥) ((table : List ℕ) → IsDefOf c.args.name.now table → ⊥) (def_gone c.args.name.now front is) c.ident_of.ensures.none
