use Rattle.std.proofs.Common.{◌++◌, ◌∷◌, [], ap, ◌∙◌}
use Rattle.pt_session.proofs.TableFiles.{sub_files, sub_files_more}
use Rattle.pt_session.proofs.files.add_files.Goals as goal

pub loop-sub-preserved : goal.loop-sub-preserved
loop-sub-preserved c =
    let old = c.args.names.now in
    let name = c.args.name.now in
    let def = c.args.def.now in
    c.in_ok-push.ensures.ok
    ∙ ap (λ names. names ++ c.file_of.result ∷ []) c.loop-sub.invariant
    ∙ ap (λ file. (old ++ sub_files name def c.args.part c.loop-sub.sub) ++ file ∷ []) c.file_of.ensures
    ∙ sub_files_more name def old c.args.part c.loop-sub.sub
