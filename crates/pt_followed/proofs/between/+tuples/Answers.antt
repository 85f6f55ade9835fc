use Rattle.std.proofs.Common.{None, Some, refl}
use Rattle.std.specs.Option.{option_copied}
use Rattle.std.proofs.lemmas.Bool.{MatchBool-at_false, MatchBool-at_true}
use Rattle.pt_reach.specs.Domains.{passes}
use Rattle.pt_followed.specs.Steps.{HasCase, behind, is_before, is_past, is_tied}
use Rattle.pt_followed.proofs.Cases.{at_high, at_low, case_as, inside, last_case, some_sets}
use Rattle.pt_followed.proofs.between.+tuples.Goals as goal

pub has_between-returns-then-branch : goal.has_between-returns-then-branch
has_between-returns-then-branch t c =
    let low = option_copied c.args.low in
    let high = option_copied c.args.high in
    inside low high c.args.sets.now
    (MatchBool-at_true (HasCase c.args.sets.now (is_past low) (is_before high) None None) (¬ (HasCase c.args.sets.now (is_past low) (is_before high) None None)) c.if-branch.true
    (case_as _ c.args.sets.now (passes (Some c.past.result)) (passes (Some c.before-2.result)) (is_past low) (is_before high) None None None None c.past.ensures c.before-2.ensures refl refl c.in_ok-has_case.ensures))

pub has_between-returns-then-branch-2 : goal.has_between-returns-then-branch-2
has_between-returns-then-branch-2 t c =
    let low = option_copied c.args.low in
    let high = option_copied c.args.high in
    at_low low high c.args.sets.now
    (MatchBool-at_true (HasCase c.args.sets.now (is_tied low) (is_before high) (behind low) None) (¬ (HasCase c.args.sets.now (is_tied low) (is_before high) (behind low) None)) c.if-branch-2.true
    (case_as _ c.args.sets.now (passes (Some c.tied.result)) (passes (Some c.before-3.result)) (is_tied low) (is_before high) (option_copied c.behind.result) None (behind low) None c.tied.ensures c.before-3.ensures c.behind.ensures refl c.in_ok-has_case-2.ensures))

pub has_between-returns-then-branch-3 : goal.has_between-returns-then-branch-3
has_between-returns-then-branch-3 t c =
    let low = option_copied c.args.low in
    let high = option_copied c.args.high in
    at_high low high c.args.sets.now
    (MatchBool-at_true (HasCase c.args.sets.now (is_past low) (is_tied high) None (behind high)) (¬ (HasCase c.args.sets.now (is_past low) (is_tied high) None (behind high))) c.if-branch-3.true
    (case_as _ c.args.sets.now (passes (Some c.past-2.result)) (passes (Some c.tied-2.result)) (is_past low) (is_tied high) None (option_copied c.behind-2.result) None (behind high) c.past-2.ensures c.tied-2.ensures refl c.behind-2.ensures c.in_ok-has_case-3.ensures))

pub has_between-returns : goal.has_between-returns
has_between-returns t c =
    let low = option_copied c.args.low in
    let high = option_copied c.args.high in
    last_case low high c.args.sets.now c.in_ok-some.some (some_sets c.args.sets.now c.is_empty.result c.is_empty.ensures c.if-is_empty.false)
    (MatchBool-at_false (HasCase c.args.sets.now (is_past low) (is_before high) None None) (¬ (HasCase c.args.sets.now (is_past low) (is_before high) None None)) c.if-branch.false
    (case_as _ c.args.sets.now (passes (Some c.past.result)) (passes (Some c.before-2.result)) (is_past low) (is_before high) None None None None c.past.ensures c.before-2.ensures refl refl c.in_ok-has_case.ensures))
    (MatchBool-at_false (HasCase c.args.sets.now (is_tied low) (is_before high) (behind low) None) (¬ (HasCase c.args.sets.now (is_tied low) (is_before high) (behind low) None)) c.if-branch-2.false
    (case_as _ c.args.sets.now (passes (Some c.tied.result)) (passes (Some c.before-3.result)) (is_tied low) (is_before high) (option_copied c.behind.result) None (behind low) None c.tied.ensures c.before-3.ensures c.behind.ensures refl c.in_ok-has_case-2.ensures))
    (MatchBool-at_false (HasCase c.args.sets.now (is_past low) (is_tied high) None (behind high)) (¬ (HasCase c.args.sets.now (is_past low) (is_tied high) None (behind high))) c.if-branch-3.false
    (case_as _ c.args.sets.now (passes (Some c.past-2.result)) (passes (Some c.tied-2.result)) (is_past low) (is_tied high) None (option_copied c.behind-2.result) None (behind high) c.past-2.ensures c.tied-2.ensures refl c.behind-2.ensures c.in_ok-has_case-3.ensures))
    (case_as _ c.args.sets.now (passes (Some c.tied-3.result)) (passes (Some c.tied-4.result)) (is_tied low) (is_tied high) (option_copied c.behind-3.result) (option_copied c.behind-4.result) (behind low) (behind high) c.tied-3.ensures c.tied-4.ensures c.behind-3.ensures c.behind-4.ensures c.in_ok-some.ensures)
