use Rattle.std.proofs.Common.{◌∙◌, ◌++◌, ◌∷◌, [], ap, sym, List, ℕ}
use Rattle.std.specs.Prelude.{codes, decimal}
use Rattle.pt_written.specs.WrittenParts.{sub_names}
use Rattle.pt_complete.proofs.Naming.{err_made, listed_found, listed_more, listed_names, listed_none, listed_subs, made_at, made_err, made_ok, made_past, made_within, ok_made, ok_then}
use Rattle.pt_complete.proofs.subpartitions.subs_made.Goals as goal

name : List ℕ → ℕ → List ℕ
name part number = part ++ codes "sp" ++ decimal number

pub returns-in-Err-clause-made : goal.returns-in-Err-clause-made
unfolding name
returns-in-Err-clause-made c =
    err_made _ _ c.in-Err.refusal
    (listed_found c.args.names.now c.args.part.now (sub_names c.args.part.now c.args.count) c.loop-number.number c.loop-number.names c.loop-number.subs c.loop-number.invariant (name c.args.part.now c.loop-number.number) (made_within (name c.args.part.now) c.args.count c.loop-number.number c.loop-number-test.true) (made_at (name c.args.part.now) c.args.count c.loop-number.number c.loop-number-test.true) c.in-Err.refusal
    (made_err _ (name c.args.part.now c.loop-number.number) c.in-Err.refusal (sym c.in-Err.is ∙ c.in_ok-name.ensures.made)))

pub loop-number-preserved : goal.loop-number-preserved
unfolding name
loop-number-preserved c =
    let made = made_ok _ (name c.args.part.now c.loop-number.number) c.in-Ok.name (sym c.in-Ok.is ∙ c.in_ok-name.ensures.made) in
    listed_more c.args.names.now c.args.part.now (sub_names c.args.part.now c.args.count) c.loop-number.number c.loop-number.names c.loop-number.subs c.loop-number.invariant (name c.args.part.now c.loop-number.number) (made_within (name c.args.part.now) c.args.count c.loop-number.number c.loop-number-test.true) (made_at (name c.args.part.now) c.args.count c.loop-number.number c.loop-number-test.true) _ _ made.0
    (ok_then c.in_ok-name.field-0 c.in-Ok.name _ c.in-Ok.is c.in_ok-name.ensures.names)
    (c.in_ok-push-in-Ok.ensures.ok ∙ ap (λ n. c.loop-number.subs ++ n ∷ []) made.1)

pub returns-clause-made : goal.returns-clause-made
unfolding name
returns-clause-made c =
    let past = made_past (name c.args.part.now) c.args.count c.loop-number.number c.loop-number-test.false in
    ok_made _ _ _ (listed_none c.args.names.now c.args.part.now (sub_names c.args.part.now c.args.count) c.loop-number.number c.loop-number.names c.loop-number.subs c.loop-number.invariant past) (listed_subs c.args.names.now c.args.part.now (sub_names c.args.part.now c.args.count) c.loop-number.number c.loop-number.names c.loop-number.subs c.loop-number.invariant past)

pub returns-clause-names : goal.returns-clause-names
unfolding name
returns-clause-names c = listed_names c.args.names.now c.args.part.now (sub_names c.args.part.now c.args.count) c.loop-number.number c.loop-number.names c.loop-number.subs c.loop-number.invariant (made_past (name c.args.part.now) c.args.count c.loop-number.number c.loop-number-test.false)
