use Rattle.std.proofs.Common.{◌≡◌, ℕ, ◌<◌, arith, rules, pos, FitsSigned, w8, w32, to_z, to_z-of_z, ap, ◌∙◌}
use mir.Syntax.{w16}
use Rattle.std.proofs.lemmas.Int.{ints}
use Rattle.jiff_core.specs.declared.civil.date.Date.{Date}
use Rattle.pt_value.proofs.Civil.{is_day_of_date}
use Rattle.pt_value.proofs.written.Written.day.Goals as goal

year_is : (y : ℕ) → y < 10000 → to_z w16 y ≡ pos y
year_is y below = omega (arith, ints)

part_is : (k m : ℕ) → m < 100 → pos k ≡ to_z w8 m → k ≡ m
part_is k m below same = omega (arith, ints)

pub returns-in-Ok-clause-some : goal.returns-in-Ok-clause-some
returns-in-Ok-clause-some c =
    let w = c.args.self in
    let j = c.to_plain.result in
    let same : j ≡ c.in-Ok.date = c.to_plain.ensures in
    let ymd = c.in-Ok.ensures.value in
    let fits : FitsSigned w32 c.to_unix_epoch_day.result = search rules in
    is_day_of_date j w.year w.month w.day _
    (ap (λ (d : Date). d.year) same ∙ ymd.0 ∙ year_is w.year w.short.year_in)
    (ap (λ (d : Date). d.month) same ∙ part_is c.in-Ok.date.month w.month w.short.month_in ymd.1)
    (ap (λ (d : Date). d.day) same ∙ part_is c.in-Ok.date.day w.day w.short.day_in ymd.2)
    (to_z-of_z fits ∙ c.to_unix_epoch_day.ensures.value)
    (omega arith) (omega arith)
