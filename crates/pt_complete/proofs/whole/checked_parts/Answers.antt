use Rattle.std.proofs.Common.{◌≡◌, sym, ap, subst, ◌∙◌}
use Rattle.std.specs.Prelude.{IfOk}
use Rattle.pt_place.specs.First.{first_in}
use Rattle.pt_place.specs.Fitting.{kinds_of}
use Rattle.pt_written.specs.Complete.{bad_written_values, defined, refused_or}
use Rattle.pt_written.specs.WrittenParts.{parts_of}
use Rattle.pt_complete.proofs.Naming.{err_made}
use Rattle.pt_complete.proofs.Sound.{sound_parts}
use Rattle.pt_complete.proofs.Order.{bounds_or_names, counts_refused, few_parts, few_subs, kinds_refused, values_refused}
use Rattle.pt_complete.proofs.whole.checked_parts.Goals as goal

pub returns-in-Some : goal.returns-in-Some
returns-in-Some c = err_made _ _ c.in-Some.refusal (kinds_refused c.args.table.now c.args.def.now c.args.spec.now c.requires.by c.requires.sub c.in-Some.refusal c.in-Some.ensures)

pub returns-in-Some-bad_written_counts : goal.returns-in-Some-bad_written_counts
returns-in-Some-bad_written_counts c =
    err_made _ _ c.in-Some-bad_written_counts.refusal
    (counts_refused c.args.table.now c.args.def.now c.args.spec.now c.requires.by c.requires.sub c.in_default.ensures c.in-Some-bad_written_counts.refusal c.in-Some-bad_written_counts.ensures)

pub returns-in-Some-all_bad_written_values : goal.returns-in-Some-all_bad_written_values
returns-in-Some-all_bad_written_values c =
    err_made _ _ c.in-Some-all_bad_written_values.refusal
    (values_refused c.args.table.now c.args.def.now c.args.spec.now c.requires.by c.requires.sub c.in_default.ensures c.in_default-bad_written_counts.ensures c.in-Some-all_bad_written_values.refusal
    (c.in-Some-all_bad_written_values.ensures ∙ ap (first_in (bad_written_values c.args.table.now (kinds_of c.args.def.now.columns c.args.def.now.by) c.args.def.now.by)) c.defined-items.ensures))

pub bounded_parts-requires-clause-parts : goal.bounded_parts-requires-clause-parts
bounded_parts-requires-clause-parts c =
    few_parts c.args.table.now c.args.def.now c.args.spec.now c.requires.by c.requires.sub c.in_default.ensures c.in_default-bad_written_counts.ensures

pub bounded_parts-requires-clause-subs : goal.bounded_parts-requires-clause-subs
bounded_parts-requires-clause-subs c =
    few_subs c.args.table.now c.args.def.now c.args.spec.now c.requires.by c.requires.sub c.in_default.ensures c.in_default-bad_written_counts.ensures

pub bounded_parts-requires-clause-sound : goal.bounded_parts-requires-clause-sound
bounded_parts-requires-clause-sound c =
    sound_parts c.args.table.now c.args.def.now.columns c.args.def.now.by (defined c.args.spec.now)
    (sym (c.in_default-all_bad_written_values.ensures ∙ ap (first_in (bad_written_values c.args.table.now (kinds_of c.args.def.now.columns c.args.def.now.by) c.args.def.now.by)) c.defined-items.ensures))

pub returns : goal.returns
returns c =
    subst (λ r. IfOk c.bounded_parts.result (λ made. made ≡ refused_or r (parts_of (kinds_of c.args.def.now.columns c.args.def.now.by) c.args.def.now.by c.args.spec.now)))
    (sym (bounds_or_names c.args.table.now c.args.def.now c.args.spec.now c.requires.by c.requires.sub c.in_default.ensures c.in_default-bad_written_counts.ensures
    (c.in_default-all_bad_written_values.ensures ∙ ap (first_in (bad_written_values c.args.table.now (kinds_of c.args.def.now.columns c.args.def.now.by) c.args.def.now.by)) c.defined-items.ensures)))
    c.bounded_parts.ensures
