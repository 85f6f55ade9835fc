use Rattle.std.proofs.Common.{◌++◌, map, sym, ap, ◌∙◌, arith}
use Rattle.pt_db.specs.Spots.{spots_in}
use Rattle.pt_holds.specs.Holds.{spot_file}
use Rattle.pt_session.proofs.TableFiles.{files_before, files_more}
use Rattle.pt_session.proofs.files.files_of.Goals as goal

pub loop-part-preserved : goal.loop-part-preserved
loop-part-preserved c =
    let name = c.args.name.now in
    let def = c.args.def.now in
    c.in_ok-add_files.ensures ∙ ap (λ names. names ++ map (spot_file name def) (spots_in def c.loop-part.part)) c.loop-part.invariant ∙ sym (files_more name def c.loop-part.part)

pub returns : goal.returns
returns c = c.loop-part.invariant ∙ ap (files_before c.args.name.now c.args.def.now) (omega (arith, c.loop-part-test.false, c.loop-part.auto.part-end, c.in_ok-part-end.ensures))
