use Rattle.std.proofs.Common.{◌≡◌, ◌∙◌, ℕ, List, Some, None, ap}
use Rattle.std.specs.Option.{option_map}
use Rattle.pt_bytes.specs.Numbers.{number_of, part_at}
use Rattle.pt_left.proofs.Fields.{number_short, number_taken, number_whole}
use Rattle.pt_store.proofs.parse.number_at.Goals as goal

pub returns-in_err-front : goal.returns-in_err-front
returns-in_err-front c = rw c.from_residual.ensures (λ n rest is e. number_short c.args.bytes.now n rest c.in_err-front.ensures.cases e)

pub returns-in_err-number : goal.returns-in_err-number
returns-in_err-number c =
    let read : c.u64_at.result ≡ Some (number_of c.in_ok-front.front.now) =
    c.u64_at.ensures ∙ ap (λ (front : List ℕ). option_map number_of (part_at front 0 8)) c.new.ensures ∙ number_whole c.in_ok-front.front.now c.in_ok-front.ensures.cases.3 in
    let none : c.u64_at.result ≡ None = c.in_err-number.was in
    absurd cc

pub returns : goal.returns
returns c =
    let read : c.u64_at.result ≡ Some (number_of c.in_ok-front.front.now) =
    c.u64_at.ensures ∙ ap (λ (front : List ℕ). option_map number_of (part_at front 0 8)) c.new.ensures ∙ number_whole c.in_ok-front.front.now c.in_ok-front.ensures.cases.3 in
    let there : c.u64_at.result ≡ Some c.in_ok-number.number = c.in_ok-number.was in
    let is : c.in_ok-number.number ≡ number_of c.in_ok-front.front.now = cc in
    number_taken c.args.bytes.now c.in_ok-front.front.now c.in_ok-front.rest.now _ (λ i. c.type_inv.bytes i) c.in_ok-front.ensures.cases is
