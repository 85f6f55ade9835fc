use Rattle.std.proofs.Common.{◌≡◌, ◌<◌, ◌∙◌, None, find, map, rules, sym, subst}
use Rattle.std.specs.List.{range_with_len}
use Rattle.pt_db.specs.Spots.{spot_at, sub_count}
use Rattle.pt_exchanged.specs.Exchanged.{is_called}
use Rattle.pt_exchanged.proofs.Finds.{one_found, one_passed}
use Rattle.pt_exchanged.proofs.spots.spot_in_part.Goals as goal

pub returns-then-is_called : goal.returns-then-is_called
returns-then-is_called c =
    let within : c.loop-sub.sub < sub_count c.args.def.now c.args.part = subst (λ n. c.loop-sub.sub < n) c.sub_count-sub-end.ensures (search rules) in
    sym (one_found (is_called c.args.def.now c.args.name.now) (spot_at c.args.part) c.loop-sub.sub (sub_count c.args.def.now c.args.part) within c.loop-sub.invariant (sym c.is_called.ensures ∙ c.if-is_called.true))

pub loop-sub-preserved : goal.loop-sub-preserved
loop-sub-preserved c =
    one_passed (is_called c.args.def.now c.args.name.now) (spot_at c.args.part) c.loop-sub.sub c.loop-sub.invariant (sym c.is_called.ensures ∙ c.if-is_called.false)

pub returns : goal.returns
returns c =
    let all : c.loop-sub.sub ≡ sub_count c.args.def.now c.args.part = search rules in
    sym (subst (λ n. find (is_called c.args.def.now c.args.name.now) (map (spot_at c.args.part) (range_with_len 0 n)) ≡ None) all c.loop-sub.invariant)
