use Rattle.std.proofs.Common.{◌∙◌, ◌++◌, ap, sym, ℕ, List}
use Rattle.pt_host.specs.World.{World, after_say}
use Rattle.pt_memhost.specs.Memory.{capped}
use Rattle.pt_memhost.specs.Law.{IsSaid, say_said}
use Rattle.pt_memhost.proofs.state.State.say.Goals as goal

pub returns-clause-kept : goal.returns-clause-kept
returns-clause-kept c = λ (w : World) m.
    let h : IsSaid c.args.bytes.now w (after_say c.args.bytes.now w) = say_said c.args.bytes.now w in
    record {
      input_is = h.input ∙ m.input_is;
      said_is = h.said ∙ ap (λ (said : List ℕ). said ++ c.args.bytes.now) m.said_is ∙ sym c.in_ok-extend_from_slice.ensures.items;
      fs_is = h.fs ∙ m.fs_is;
      syncs_is = m.syncs_is ∙ ap capped (sym h.syncs);
      written_is = m.written_is ∙ ap capped (sym h.written);
    }
