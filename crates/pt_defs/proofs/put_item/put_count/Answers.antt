use Rattle.std.proofs.Common.{◌≡◌, ◌++◌, List, ℕ, OnOk, subst}
use Rattle.pt_defs.proofs.Texts.{four_low}
use Rattle.pt_defs.proofs.put_item.put_count.Goals as goal

pub returns : goal.returns
returns c = subst (λ (bytes : List ℕ). OnOk c.put_u32.result (c.put_u32.new.out.items ≡ c.args.out.now.items ++ bytes)) (four_low c.args.count) c.put_u32.ensures.ok
