use Rattle.std.proofs.Common.{rules, arith, All, IsTrue, subst}
use Rattle.std.proofs.lemmas.List.{take_all}
use Rattle.std.proofs.lemmas.List.Elements.{All-more}
use Rattle.pt_value.specs.Ident.{is_ident_byte}
use Rattle.pt_value.proofs.ident.bad_place.Goals as goal

pub loop-place-preserved : goal.loop-place-preserved
loop-place-preserved c =
    All-more (λ b. IsTrue (is_ident_byte b)) c.args.bytes.now c.loop-place.place 0 c.loop-place-test.true c.loop-place.invariant (search rules)

pub returns-clause-none : goal.returns-clause-none
returns-clause-none c =
    subst (λ bytes. All (λ b. IsTrue (is_ident_byte b)) bytes) (take_all c.loop-place.place c.args.bytes.now (omega arith)) c.loop-place.invariant
