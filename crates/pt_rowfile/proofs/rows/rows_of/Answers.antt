use Rattle.std.proofs.Common.{◌≡◌, ◌<◌, ◌-◌, ℕ, length, Some, None, sym, subst, rules}
use Rattle.pt_rowfile.specs.Kept.{rows_in}
use Rattle.pt_rowfile.specs.Reader.{record_at}
use Rattle.pt_rowfile.specs.Rows.{IsBadAt, after}
use Rattle.pt_rowfile.proofs.Files.{bad_after, bad_none, shorter, so_far_more}
use Rattle.pt_rowfile.proofs.Taken.{takes_none, takes_some}
use Rattle.pt_rowfile.proofs.rows.rows_of.Goals as goal

pub returns-in_default-clause-fault : goal.returns-in_default-clause-fault
returns-in_default-clause-fault c =
    let some : 0 < length c.loop-source.source = search rules in
    let none = takes_none c.in_ok-entry.field-0 c.record.new.self (record_at c.loop-source.source) (search rules) c.in_ok-entry.ensures in
    subst (λ (n : ℕ). IsBadAt c.args.bytes.now (length c.args.bytes.now - n)) (sym c.len-in-loop-source.ensures)
    (bad_none c.args.bytes.now c.loop-source.source (rows_in c.loop-source.rows.entries) c.loop-source.invariant some none)

pub returns-then-not-branch-clause-fault : goal.returns-then-not-branch-clause-fault
returns-then-not-branch-clause-fault c =
    let some : 0 < length c.loop-source.source = search rules in
    let read = takes_some c.in_ok-entry.field-0 c.in-Some.entry c.record.new.self (record_at c.loop-source.source) (search rules) c.in_ok-entry.ensures in
    let none : after c.in-Some.entry (rows_in c.loop-source.rows.entries) ≡ None = search rules in
    subst (λ (n : ℕ). IsBadAt c.args.bytes.now (length c.args.bytes.now - n)) (sym c.len-in-loop-source.ensures)
    (bad_after c.args.bytes.now c.loop-source.source c.record.new.self (rows_in c.loop-source.rows.entries) c.in-Some.entry c.loop-source.invariant some read none)

pub loop-source-smaller : goal.loop-source-smaller
loop-source-smaller c =
    let read = takes_some c.in_ok-entry.field-0 c.in-Some.entry c.record.new.self (record_at c.loop-source.source) (search rules) c.in_ok-entry.ensures in
    shorter c.args.bytes.now c.loop-source.source c.record.new.self (rows_in c.loop-source.rows.entries) c.in-Some.entry c.loop-source.invariant read

pub loop-source-preserved : goal.loop-source-preserved
loop-source-preserved c =
    let read = takes_some c.in_ok-entry.field-0 c.in-Some.entry c.record.new.self (record_at c.loop-source.source) (search rules) c.in_ok-entry.ensures in
    let step : after c.in-Some.entry (rows_in c.loop-source.rows.entries) ≡ Some (rows_in c.apply.new.rows.entries) = search rules in
    so_far_more c.args.bytes.now c.loop-source.source c.record.new.self (rows_in c.loop-source.rows.entries) (rows_in c.apply.new.rows.entries) c.in-Some.entry c.loop-source.invariant read step
