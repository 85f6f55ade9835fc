use Rattle.std.proofs.Common.{ap, ◌∙◌, sym}
use Rattle.pt_parse_ddl.specs.Reader.{finished, placed}
use Rattle.pt_parse_ddl.proofs.Whole.{more_behind}
use Rattle.pt_parse_ddl.proofs.piece.finished.Goals as goal

pub returns-then-next-symbols : goal.returns-then-next-symbols
returns-then-next-symbols g c =
    sym (ap (λ r. finished (placed c.args.symbols.now r)) c.in_ok-x.was ∙ more_behind c.in_ok-x.x c.in_ok-x.next c.args.symbols.now c.if-next-symbols.true)
