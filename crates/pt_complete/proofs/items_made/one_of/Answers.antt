use Rattle.std.proofs.Common.{◌∙◌, ◌++◌, ◌∷◌, [], ap, sym}
use Rattle.pt_place.specs.Fitting.{kinds_of}
use Rattle.pt_complete.proofs.Sound.{no_tuple, one_constant, one_tuple}
use Rattle.pt_complete.proofs.items_made.one_of.Goals as goal

pub returns-in_default : goal.returns-in_default
returns-in_default c = c.new-tuple.ensures ∙ no_tuple (kinds_of c.args.columns.now c.args.by.now) c.args.item.now (sym c.in_default.ensures)

pub bound_of-requires : goal.bound_of-requires
bound_of-requires c = one_constant (kinds_of c.args.columns.now c.args.by.now) c.in-Some.kind c.args.item.now (sym c.in-Some.ensures) c.requires

pub returns : goal.returns
returns c =
    c.in_ok-push.ensures.ok ∙ ap (λ l. l ++ c.in_ok-bound_of.field-0 ∷ []) c.new-tuple.ensures ∙ ap (λ b. b ∷ []) c.in_ok-bound_of.ensures
    ∙ one_tuple (kinds_of c.args.columns.now c.args.by.now) c.in-Some.kind c.args.item.now (sym c.in-Some.ensures)
