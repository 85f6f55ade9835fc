use Rattle.std.proofs.Common.{◌≡◌, ◌+◌, ◌++◌, length, length-append, ap, sym, ◌∙◌, subst}
use Rattle.pt_plain.specs.Padded.{padded_to}
use Rattle.pt_plain.proofs.Padding.{kept_padded}
use Rattle.pt_host.proofs.NameBytes.{is_name-append, kept_invariant}
use Rattle.pt_host.proofs.name.Name.extended.Goals as goal

pub invariant_of-result : goal.invariant_of-result
invariant_of-result c =
    let at : length c.args.self ≡ c.self.inside.len = ap length (sym c.self.view_is) ∙ c.self.invariant.2 in
    let len : length (c.args.self ++ c.args.end.now) ≡ c.self.inside.len + length c.args.end.now = length-append _ _ ∙ ap (λ n. n + length c.args.end.now) at in
    kept_invariant (c.args.self ++ c.args.end.now) _ _ (is_name-append _ _ c.bytes.ensures.name c.requires.named c.requires.room)
    (kept_padded 160 _ _ _ len (subst (λ name. c.joined.result ≡ padded_to 160 (name ++ c.args.end.now)) c.bytes.ensures.value c.joined.ensures))
