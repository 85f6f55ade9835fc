use Rattle.std.proofs.Common.{◌≡◌, ◌++◌, List, ℕ, OnOk, subst}
use Rattle.pt_defs.proofs.Texts.{two_low}
use Rattle.pt_defs.proofs.put_item.put_length.Goals as goal

pub returns : goal.returns
returns c = subst (λ (bytes : List ℕ). OnOk c.put_u16.result (c.put_u16.new.out.items ≡ c.args.out.now.items ++ bytes)) (two_low c.args.length) c.put_u16.ensures.ok
