use Rattle.std.proofs.Common.{refl, sym, subst, ◌∙◌}
use Rattle.std.specs.Prelude.{IfNone}
use Rattle.pt_place.specs.Valid.{IsValid}
use Rattle.pt_session.specs.Opening.{NotValid}
use Rattle.pt_session.proofs.AnyName.{none_valid}
use Rattle.pt_session.proofs.Names.{is_absent}
use Rattle.pt_session.proofs.opening.def_in.Goals as goal

pub returns-then-is_some : goal.returns-then-is_some
returns-then-is_some c =
    NotValid c.in_ok-def.def c.in_ok-def.ensures.tells (none_valid c.args.table.now c.in_ok-def.def c.valid.result c.valid.ensures.refusal (sym c.is_some.ensures ∙ c.if-is_some.true)) refl

pub returns : goal.returns
returns c = (
  c.in_ok-def.ensures.tells,
  c.in_ok-def.ensures.storable,
  subst (λ found. IfNone found (IsValid c.in_ok-def.def)) (is_absent c.valid.result (sym c.is_some.ensures ∙ c.if-is_some.false)) c.valid.ensures.valid,
)
