use Rattle.std.proofs.Common.{◌++◌, false, List, Option, get_or, refl, subst, sym, ap, ◌∙◌}
use Rattle.std.specs.List.{All, flat_map}
use Rattle.std.specs.Option.{IsSomeAnd, option_map_or}
use Rattle.std.proofs.lemmas.List.{take_all}
use Rattle.std.proofs.lemmas.List.Elements.{All-append, All-filter, All-nil}
use Rattle.std.proofs.lemmas.Result.{err_from_is_err_and}
use Rattle.pt_host.specs.Listed.{by_name}
use Rattle.pt_ast.specs.declared.database.Row.{Row}
use Rattle.pt_ast.specs.declared.database.Spot.{Spot}
use Rattle.pt_ast.specs.declared.table.TableDef.{TableDef}
use Rattle.pt_checks.specs.Wanted.{is_named_spot, is_wanted}
use Rattle.pt_db.specs.Rows.{spot_rows}
use Rattle.pt_db.specs.Sound.{IsSoundRow}
use Rattle.pt_db.specs.Spots.{IsSpotOf}
use Rattle.pt_holds.specs.Holds.{spot_file}
use Rattle.pt_holds.proofs.Held.{one_held}
use Rattle.pt_store.proofs.Steps.{look_then, no_look}
use Rattle.pt_candidates.specs.Read.{wanted_in, wanted_of}
use Rattle.pt_candidates.proofs.Steps.{bad_told, read_more}
use Rattle.pt_candidates.proofs.Taken.{sound_in}
use Rattle.pt_candidates.proofs.reading.read_wanted.Goals as goal

pub loop-spot-init : goal.loop-spot-init
loop-spot-init g c = record {
  looks = λ tells map store. no_look _ map _ store;
  rows = λ tells map store rows holds. c.new-found.ensures;
  sound = subst (All (IsSoundRow c.args.session.now.next c.args.def.now)) (sym c.new-found.ensures) (All-nil (IsSoundRow c.args.session.now.next c.args.def.now));
  counts = refl;
}

pub rows-requires-clause-spot : goal.rows-requires-clause-spot
rows-requires-clause-spot g c =
    let none : Spot = record { part = 0; sub = 0 } in
    let spot = get_or c.args.spots.now c.loop-spot.spot-index none in
    subst (λ (o : Option TableDef). IsSomeAnd o (λ def. IsSpotOf def spot)) (sym c.requires.held) (c.requires.spots c.loop-spot.spot-index none c.loop-spot-test.true)

pub rows-requires-clause-stands : goal.rows-requires-clause-stands
rows-requires-clause-stands g c tells = let s = c.requires.stands tells in (s.0, (c.loop-spot.invariant.looks tells s.0 s.1).stands)

pub add_wanted-requires-clause-fitting : goal.add_wanted-requires-clause-fitting
add_wanted-requires-clause-fitting g c =
    let fits = c.in_ok-rows.ensures.fit c.args.def.now c.requires.held in
    λ k d below. (fits.each k d below).columns.cells

pub add_wanted-requires-clause-named : goal.add_wanted-requires-clause-named
add_wanted-requires-clause-named g c =
    let def = c.args.def.now in
    let parts = c.args.parts.now in
    let none : Spot = record { part = 0; sub = 0 } in
    let fits = c.in_ok-rows.ensures.fit def c.requires.held in
    let named = c.requires.named c.loop-spot.spot-index none c.loop-spot-test.true in
    λ k d below. ap (λ (o : Option Spot). option_map_or (is_named_spot def parts) o false) (fits.each k d below).placed ∙ named

pub returns-in_err-rows-clause-looks : goal.returns-in_err-rows-clause-looks
returns-in_err-rows-clause-looks g c tells map store =
    let before = c.loop-spot.invariant.looks tells map store in
    look_then _ map _ _ _ before (c.in_err-rows.ensures.told tells map before.stands)

pub returns-in_err-rows-clause-bad : goal.returns-in_err-rows-clause-bad
returns-in_err-rows-clause-bad g c =
    let p = err_from_is_err_and c.from_residual.result c.from_residual.ensures.1 in
    rw (p.1, p.2) (bad_told (List Row) (List Row) c.in_err-rows.field-0.0 _ _ (λ name place had tells map store over. had tells map (c.loop-spot.invariant.looks tells map store).stands over) c.in_err-rows.ensures.bad)

pub returns-in_err-add_wanted-clause-looks : goal.returns-in_err-add_wanted-clause-looks
returns-in_err-add_wanted-clause-looks g c tells map store =
    let before = c.loop-spot.invariant.looks tells map store in
    look_then _ map _ _ _ before (c.in_ok-rows.ensures.told tells map before.stands)

pub loop-spot-preserved : goal.loop-spot-preserved
loop-spot-preserved g c =
    let def = c.args.def.now in
    let parts = c.args.parts.now in
    let where_is = c.args.cond.now in
    let i = c.loop-spot.spot-index in
    let none : Spot = record { part = 0; sub = 0 } in
    let spot = get_or c.args.spots.now i none in
    let next = c.args.session.now.next in
    let sound : All (IsSoundRow next def) c.in_ok-rows.rows = sound_in next def spot c.in_ok-rows.rows (c.in_ok-rows.ensures.fit def c.requires.held) in
    record {
      looks = λ tells map store. (let before = c.loop-spot.invariant.looks tells map store in look_then _ map _ _ _ before (c.in_ok-rows.ensures.told tells map before.stands));
      rows = λ tells map store rows holds.
          (let before = c.loop-spot.invariant.looks tells map store in
          let read = c.in_ok-rows.ensures.rows tells map before.stands def c.requires.held in
          let same = one_held (by_name map (spot_file c.args.table.now def spot)) c.in_ok-rows.rows (spot_rows def spot rows) read (holds.each spot (c.requires.spots i none c.loop-spot-test.true)) in
          read_more (wanted_in def parts where_is rows) c.args.spots.now i none c.loop-spot.found c.add_wanted.new.found c.loop-spot-test.true (c.loop-spot.invariant.rows tells map store rows holds)
          (c.in_ok-add_wanted.ensures ∙ ap (λ (all : List Row). c.loop-spot.found ++ wanted_of def parts where_is all) same));
      sound = subst (All (IsSoundRow next def)) (sym c.in_ok-add_wanted.ensures)
          (All-append (IsSoundRow next def) c.loop-spot.found (wanted_of def parts where_is c.in_ok-rows.rows) c.loop-spot.invariant.sound (All-filter (is_wanted def parts where_is) (IsSoundRow next def) c.in_ok-rows.rows sound));
      counts = c.in_ok-rows.ensures.counts ∙ c.loop-spot.invariant.counts;
    }

pub returns-clause-rows : goal.returns-clause-rows
returns-clause-rows g c tells map store rows holds =
    c.loop-spot.invariant.rows tells map store rows holds
    ∙ ap (flat_map (wanted_in c.args.def.now c.args.parts.now c.args.cond.now rows)) (take_all c.loop-spot.spot-index c.args.spots.now c.loop-spot-test.false)
