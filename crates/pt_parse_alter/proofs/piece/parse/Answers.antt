use Rattle.std.proofs.Common.{◌≡◌, ◌∙◌, ap, sym, subst, IfOk}
use Rattle.std.proofs.lemmas.Bool.{true≢false}
use Rattle.pt_parse_expr.specs.Limits.{IsDeep}
use Rattle.pt_parse_expr.specs.Symbols.{symbols}
use Rattle.pt_parse_expr.proofs.Readings.{if_ok_then}
use Rattle.pt_parse_alter.specs.Spelling.{SpellsStmt}
use Rattle.pt_parse_alter.proofs.Storing.{reading-stored}
use Rattle.pt_parse_alter.proofs.piece.parse.Goals as goal

pub returns-in-Ok-clause-storable : goal.returns-in-Ok-clause-storable
returns-in-Ok-clause-storable c =
    let piece = c.args.piece.now in
    let all : c.deref-in-Ok.result.now ≡ symbols piece c.args.tokens.now.items = c.deref-in-Ok.ensures.value ∙ c.in-Ok.ensures.symbols ∙ ap (symbols piece) c.deref.ensures.value in
    let level : IsDeep (symbols piece c.args.tokens.now.items) → ⊥ = λ deep. true≢false (sym (c.deep.ensures.1 deep) ∙ c.if-deep.false) in
    if_ok_then c.spelled.result (λ x d. reading-stored piece c.args.tokens.now.items c.requires.lexed c.requires.small level x d)
    (subst (λ us. IfOk c.spelled.result (SpellsStmt us)) all c.spelled.ensures.spelled)
