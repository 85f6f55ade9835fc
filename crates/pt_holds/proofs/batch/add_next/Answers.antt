use Rattle.std.proofs.Common.{ℕ, List, ◌≡◌, ◌++◌, Some, subst, ap, ◌∙◌}
use Rattle.pt_bytes.specs.Numbers.{le_bytes}
use Rattle.pt_store.specs.Contents.{files_in}
use Rattle.pt_store.proofs.Maps.{put_in}
use Rattle.pt_holds.specs.Texts.{Adds, only_at}
use Rattle.pt_holds.proofs.Texts.{adds_one}
use Rattle.pt_holds.proofs.batch.add_next.Goals as goal

pub returns : goal.returns
returns c =
    let more = le_bytes 8 c.args.next in
    let name = c.serials-name.result in
    subst (λ (n : List ℕ). Adds (files_in c.args.texts.now) (files_in c.insert.new.self) (only_at n more) (λ query. n ≡ query)) c.serials-name.ensures
    (adds_one (files_in c.args.texts.now) (files_in c.taken-text.new.texts) (files_in c.insert.new.self) name c.of.result more c.taken-text.ensures.rest
    (put_in c.taken-text.new.texts c.insert.new.self name (Some c.of.result) c.in_ok-insert.ensures.updates.0)
    (c.of.ensures ∙ c.in_ok-put_u64.ensures.ok ∙ ap (λ old. old ++ more) c.taken-text.ensures.text))
