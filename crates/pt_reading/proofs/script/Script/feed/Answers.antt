use Rattle.std.proofs.Common.{ℕ, ◌+◌, ◌-◌, ◌<◌, List, ◌++◌, length, refl, ap, ◌∙◌, subst}
use Rattle.pt_token.specs.Pieces.{most_script}
use Rattle.pt_reading.specs.Taking.{IsCutShort, IsTaken}
use Rattle.pt_reading.proofs.TakingLemmas.{front_full, front_short}
use Rattle.pt_reading.proofs.script.Script.feed.Goals as goal

pub returns-then-not-branch-clause-takes : goal.returns-then-not-branch-clause-takes
returns-then-not-branch-clause-takes c front is =
    let new = c.take.new.self in
    let n = most_script - c.args.self.now.taken in
    let stopped : IsCutShort (front ++ c.at_most-front.result.now) new = rw c.if-not-branch.true at (c.in_ok-take.ensures.takes front is) in
    front_short new front c.args.bytes.now n (subst (λ (bs : List ℕ). IsCutShort (front ++ bs) new) c.at_most-front.ensures stopped)

pub returns-then-front-bytes-clause-takes : goal.returns-then-front-bytes-clause-takes
returns-then-front-bytes-clause-takes c front is =
    let old = c.args.self.now in
    let new = c.take.new.self in
    let bytes = c.args.bytes.now in
    let n = most_script - old.taken in
    let same = c.at_most-front.ensures in
    let taken : IsTaken (front ++ c.at_most-front.result.now) new = rw c.if-not-branch.false at (c.in_ok-take.ensures.takes front is) in
    front_full new front bytes n old.taken refl old.within (subst (λ (bs : List ℕ). length bs < length bytes) same c.if-front-bytes.true)
    (c.in_ok-take.ensures.count c.if-not-branch.false ∙ ap (λ (bs : List ℕ). old.taken + length bs) same)
    (subst (λ (bs : List ℕ). IsTaken (front ++ bs) new) same taken)
