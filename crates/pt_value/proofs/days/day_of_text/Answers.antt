use Rattle.std.proofs.Common.{◌≡◌, ◌∙◌, ap, sym, ℤ, List, ℕ, IfNone, Some, None}
use Rattle.std.specs.Prelude.{Option}
use Rattle.std.proofs.lemmas.Option.{IfSome_then}
use Rattle.pt_value.specs.Calendar.{Date}
use Rattle.pt_value.specs.Digits.{IsDayOf}
use Rattle.pt_value.specs.Text.{SpellsDay, date_text}
use Rattle.pt_value.specs.Written.{as_date}
use Rattle.pt_value.proofs.Reading.{no_day, no_form}
use Rattle.pt_value.proofs.Spelled.{day_of-none, is_day_of}
use Rattle.pt_value.proofs.days.day_of_text.Goals as goal

IfNone-weaker : {A : Type 0} (o : Option A) (P Q : Type 0) → (P → Q) → IfNone o P → IfNone o Q
IfNone-weaker None P Q f h = f h
IfNone-weaker (Some x) P Q f h = tt

spelled : (bytes : List ℕ) (d : Date) (day : ℤ) → bytes ≡ date_text d → IsDayOf d day → SpellsDay bytes day
spelled bytes d day text is = record { fits = is.fits; text = text ∙ ap (λ d. date_text d) (sym is.date_is) }

pub returns-in_err-written-clause-none : goal.returns-in_err-written-clause-none
returns-in_err-written-clause-none c =
    let none = no_form c.args.bytes.now c.in_err-written.ensures.none in
    rw c.from_residual.ensures none

pub returns-in_err-written-clause-value : goal.returns-in_err-written-clause-value
returns-in_err-written-clause-value c =
    c.from_residual.ensures ∙ sym (day_of-none c.args.bytes.now (no_form c.args.bytes.now c.in_err-written.ensures.none))

pub returns-clause-none : goal.returns-clause-none
returns-clause-none c =
    IfNone-weaker c.day.result _ _ (no_day c.args.bytes.now (as_date c.in_ok-written.written) c.in_ok-written.ensures.some) c.day.ensures.none

pub returns-clause-value : goal.returns-clause-value
returns-clause-value c =
    let bytes = c.args.bytes.now in
    let date = as_date c.in_ok-written.written in
    let text : bytes ≡ date_text date = c.in_ok-written.ensures.some in
    is_day_of bytes c.day.result
    (IfSome_then c.day.result c.day.ensures.some (λ day is. spelled bytes date day text is))
    (IfNone-weaker c.day.result _ _ (no_day bytes date text) c.day.ensures.none)
