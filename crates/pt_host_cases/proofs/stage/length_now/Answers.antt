use Rattle.std.proofs.Common.{List, ℕ, length, ap, ◌∙◌, ◌+◌, ◌*◌}
use Rattle.std.specs.Option.{option_map}
use Rattle.pt_host.specs.Listed.{FileList, by_name}
use Rattle.pt_memhost.specs.Memory.{world_in}
use Rattle.pt_host_cases.proofs.Present.{present_lengths}
use Rattle.pt_host_cases.proofs.stage.length_now.Goals as goal

pub returns : goal.returns
returns c = c.length_in.ensures
    ∙ ap (λ (files : FileList). option_map length (by_name files c.args.name.now)) c.items.ensures
    ∙ ap (option_map length) (c.in_ok-image.ensures.picked c.args.name.now)
    ∙ present_lengths (world_in c.args.host.now).now.fs c.in-Some.choice c.args.name.now (c.in-Some.ensures ∙ ap (λ (n : ℕ). 1 * (n + 1) + n) c.pending.ensures)
