use Rattle.std.proofs.Common.{All, subst, take_all}
use Rattle.std.proofs.lemmas.List.Elements.{All-more}
use Rattle.pt_value.specs.Ident.{IsIdent}
use Rattle.pt_ast.specs.declared.table.KeyDef.{KeyDef}
use Rattle.pt_defs.proofs.fitting.keys_fit.Goals as goal

pub loop-key-preserved : goal.loop-key-preserved
loop-key-preserved c = All-more (λ (key : KeyDef). IsIdent key.name) c.args.keys.now c.loop-key.key-index c.key-item.result c.loop-key-test.true c.loop-key.invariant (subst (λ (key : KeyDef). IsIdent key.name) c.key-item.is c.name_fits.ensures)

pub returns : goal.returns
returns c = subst (All (λ (key : KeyDef). IsIdent key.name)) (take_all c.loop-key.key-index c.args.keys.now c.loop-key-test.false) c.loop-key.invariant
