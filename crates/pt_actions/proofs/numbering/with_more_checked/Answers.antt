use Rattle.std.proofs.Common.{◌≡◌, None, rules, subst}
use Rattle.std.specs.Prelude.{IfOk, Result}
use Rattle.pt_ast.specs.declared.refusal.Refusal.{Refusal}
use Rattle.pt_ast.specs.declared.table.TableDef.{TableDef}
use Rattle.pt_actions.specs.Counted.{bad_count}
use Rattle.pt_actions.proofs.More.{numbered_same}
use Rattle.pt_actions.proofs.numbering.with_more_checked.Goals as goal

pub returns : goal.returns
returns c =
    let none : bad_count c.args.table.now c.args.more c.args.def.now ≡ None = search rules in
    subst (λ (own : Result TableDef Refusal). IfOk c.with_numbered.result (λ made. made ≡ own)) (numbered_same c.args.def.now c.args.table.now c.args.more c.requires.valid none) c.with_numbered.ensures
