use Rattle.std.proofs.Common.{◌≡◌, List, Some, rules, subst, get_or, set}
use Rattle.std.specs.Prelude.{OnOk}
use Rattle.std.proofs.lemmas.Result.{on_ok_weaker}
use Rattle.pt_place.specs.Place.{place_of}
use Rattle.pt_db.proofs.Spots.{placed_spot}
use Rattle.pt_ast.specs.declared.database.Row.{Row}
use Rattle.pt_ast.specs.declared.database.Spot.{Spot}
use Rattle.pt_spread.specs.Spread.{number_of, with_last}
use Rattle.pt_spread.proofs.Listed.{each_ok, number_within, put_one}
use Rattle.pt_spread.proofs.buckets.add_row.Goals as goal

pub number_of-requires-clause-of : goal.number_of-requires-clause-of
number_of-requires-clause-of c =
    let at : place_of c.args.def.now c.args.row.cells ≡ Some c.in-Some.spot = search rules in
    placed_spot c.args.def.now c.requires.valid c.args.row.cells c.in-Some.spot at

pub push_at-requires : goal.push_at-requires
push_at-requires c =
    let at : place_of c.args.def.now c.args.row.cells ≡ Some c.in-Some.spot = search rules in
    let within = number_within c.args.def.now c.requires.valid c.in-Some.spot (placed_spot c.args.def.now c.requires.valid c.args.row.cells c.in-Some.spot at) in
    rw (c.number_of.ensures, c.requires.spots) within

pub returns : goal.returns
returns c before was =
    let at : place_of c.args.def.now c.args.row.cells ≡ Some c.in-Some.spot = search rules in
    let put : (none : Spot × List Row) → OnOk c.push_at.result (c.push_at.new.found.items ≡ set c.args.found.now.items (number_of c.args.def.now c.in-Some.spot) (with_last c.args.row (get_or c.args.found.now.items (number_of c.args.def.now c.in-Some.spot) none))) =
    λ none. subst (λ n. OnOk c.push_at.result (c.push_at.new.found.items ≡ set c.args.found.now.items n (with_last c.args.row (get_or c.args.found.now.items n none)))) c.number_of.ensures (c.push_at.ensures none) in
    on_ok_weaker c.push_at.result
    (λ (now : (none : Spot × List Row) → c.push_at.new.found.items ≡ set c.args.found.now.items (number_of c.args.def.now c.in-Some.spot) (with_last c.args.row (get_or c.args.found.now.items (number_of c.args.def.now c.in-Some.spot) none))).
    put_one c.args.def.now before c.args.row c.requires.valid c.in-Some.spot c.args.found.now.items c.push_at.new.found.items at was now)
    (each_ok c.push_at.result (λ (none : Spot × List Row). c.push_at.new.found.items ≡ set c.args.found.now.items (number_of c.args.def.now c.in-Some.spot) (with_last c.args.row (get_or c.args.found.now.items (number_of c.args.def.now c.in-Some.spot) none))) put)
