use Rattle.std.proofs.Common.{◌∙◌, ap, sym, Option, None}
use Rattle.std.specs.Prelude.{ℕ, List}
use Rattle.pt_host.specs.Disk.{put}
use Rattle.pt_memhost.proofs.Named.{moved-there, moved-same}
use Rattle.pt_memhost.proofs.names.move_name.Goals as goal

pub returns-then-ne : goal.returns-then-ne
returns-then-ne c = record {
  kept =
      c.clear.ensures
      ∙ ap (λ (names : List ℕ → Option ℕ). put names c.args.from.now None) c.in_ok-set.ensures.kept
      ∙ moved-there _ c.args.from.now c.args.to c.in-Some.object (sym (c.in-Some.ensures ∙ c.get.ensures.value)) c.if-ne.ensures;
}

pub returns-else-ne : goal.returns-else-ne
returns-else-ne c = record {
  kept = c.in_ok-set.ensures.kept ∙ moved-same _ c.args.from.now c.args.to c.in-Some.object (sym (c.in-Some.ensures ∙ c.get.ensures.value)) c.if-ne.ensures;
}
