use Rattle.std.proofs.Common.{◌≡◌, ◌-◌, ◌<◌, ℕ, length, Option, ap, ◌∙◌, sym, subst, rules}
use Rattle.pt_rowfile.specs.OnPlace.{IsOnPlace, placed}
use Rattle.pt_rowfile.specs.Reader.{headed_at}
use Rattle.pt_rowfile.proofs.Placing.{on_end, on_more, on_none}
use Rattle.pt_rowfile.proofs.Taken.{takes_none, takes_some}
use Rattle.pt_rowfile.proofs.place.put_place.Goals as goal

pub unreachable-requires : goal.unreachable-requires
unreachable-requires c =
    let some : 0 < length c.loop-source.source = search rules in
    on_none c.args.bytes.now c.loop-source.source c.args.serial c.loop-source.found c.loop-source.invariant some
    (takes_none c.headed.result c.headed.new.self (headed_at c.loop-source.source) c.in-None.is c.headed.ensures)

pub loop-source-smaller : goal.loop-source-smaller
loop-source-smaller c =
    let some : 0 < length c.loop-source.source = search rules in
    let read = takes_some c.headed.result c.in-Some.head c.headed.new.self (headed_at c.loop-source.source) c.in-Some.is c.headed.ensures in
    (on_more c.args.bytes.now c.loop-source.source c.headed.new.self c.args.serial c.loop-source.found c.in-Some.head c.loop-source.invariant some read).0

pub loop-source-preserved : goal.loop-source-preserved
loop-source-preserved c =
    let some : 0 < length c.loop-source.source = search rules in
    let read = takes_some c.headed.result c.in-Some.head c.headed.new.self (headed_at c.loop-source.source) c.in-Some.is c.headed.ensures in
    let more = on_more c.args.bytes.now c.loop-source.source c.headed.new.self c.args.serial c.loop-source.found c.in-Some.head c.loop-source.invariant some read in
    let here : c.place_by-found.result ≡ placed c.args.serial c.in-Some.head (length c.args.bytes.now - length c.loop-source.source) c.loop-source.found =
    c.place_by-found.ensures ∙ ap (λ (n : ℕ). placed c.args.serial c.in-Some.head (length c.args.bytes.now - n) c.loop-source.found) c.len-in-loop-source.ensures in
    subst (λ (place : Option ℕ). IsOnPlace c.args.bytes.now c.headed.new.self c.args.serial place) (sym here) more.1

pub returns : goal.returns
returns c = on_end c.args.bytes.now c.loop-source.source c.args.serial c.loop-source.found c.loop-source.invariant (search rules)
