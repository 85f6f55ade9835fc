use Rattle.std.proofs.Common.{◌≡◌, true, sym, ap, subst, ◌∙◌}
use Rattle.std.specs.List.{All, flat_map}
use Rattle.std.proofs.lemmas.List.Elements.{All-filter, filter_passes}
use Rattle.pt_ast.specs.declared.database.Spot.{Spot}
use Rattle.pt_checks.specs.Wanted.{arranged, is_named_spot}
use Rattle.pt_db.specs.Spots.{IsSpotOf, spots_of}
use Rattle.pt_db.proofs.SpotLists.{spots_each}
use Rattle.pt_candidates.specs.Read.{wanted_in}
use Rattle.pt_candidates.proofs.Collected.{collected}
use Rattle.pt_candidates.proofs.Taken.{open_valid}
use Rattle.pt_candidates.proofs.taking.candidates.Goals as goal

pub read_wanted-requires-clause-spots : goal.read_wanted-requires-clause-spots
read_wanted-requires-clause-spots g c =
    let def = c.args.def.now in
    subst (λ spots. All (IsSpotOf def) spots) (sym (c.items.ensures ∙ c.in_ok-spots.ensures)) (All-filter (is_named_spot def c.args.parts.now) (IsSpotOf def) (spots_of def) (spots_each def))

pub read_wanted-requires-clause-named : goal.read_wanted-requires-clause-named
read_wanted-requires-clause-named g c =
    let named = is_named_spot c.args.def.now c.args.parts.now in
    subst (λ spots. All (λ (spot : Spot). named spot ≡ true) spots) (sym (c.items.ensures ∙ c.in_ok-spots.ensures)) (filter_passes named (spots_of c.args.def.now))

pub returns-clause-rows : goal.returns-clause-rows
returns-clause-rows g c tells map store rows up holds =
    let def = c.args.def.now in
    let parts = c.args.parts.now in
    let tail = c.args.tail.now in
    let valid = open_valid c.args.session.now c.args.table.now def c.requires.open c.requires.held in
    let read = c.in_ok-rows.ensures.rows tells map store rows holds ∙ ap (flat_map (wanted_in def parts tail.cond rows)) (c.items.ensures ∙ c.in_ok-spots.ensures) in
    c.in_ok-arrange.ensures.value ∙ ap (arranged def.columns tail) read ∙ collected def parts tail valid rows up

pub returns-clause-sound : goal.returns-clause-sound
returns-clause-sound g c = c.in_ok-arrange.ensures.sound c.args.session.now.next c.in_ok-rows.ensures.sound
