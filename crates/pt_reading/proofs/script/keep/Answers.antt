use Rattle.std.proofs.Common.{cond, [], ◌∷◌, ◌++◌, ap, ◌∙◌, sym}
use Rattle.pt_reading.proofs.Blanks.{blank_test}
use Rattle.pt_reading.proofs.script.keep.Goals as goal

pub returns-then-is_blank : goal.returns-then-is_blank
returns-then-is_blank c =
    let piece = c.args.splitter.now.piece in
    let before = c.args.statements.now in
    sym (ap (λ v. cond v before (before ++ piece ∷ [])) (blank_test piece c.is_blank.result c.is_blank.ensures ∙ c.if-is_blank.true))

pub returns : goal.returns
returns c =
    let piece = c.args.splitter.now.piece in
    let before = c.args.statements.now in
    c.in_ok-push.ensures.ok ∙ ap (λ q. before ++ q ∷ []) (c.in_ok-from_slice.ensures ∙ c.piece.ensures)
    ∙ sym (ap (λ v. cond v before (before ++ piece ∷ [])) (blank_test piece c.is_blank.result c.is_blank.ensures ∙ c.if-is_blank.false))
