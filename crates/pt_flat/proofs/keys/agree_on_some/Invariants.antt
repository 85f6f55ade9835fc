use Rattle.std.proofs.Common.{◌≡◌, ◌&&◌, drop}
use Rattle.std.specs.List.{list_any}
use Rattle.pt_ast.specs.Keys.{agree, is_unique}
use Rattle.pt_flat.proofs.keys.agree_on_some.Given as goal

abbrev pub invariant-loop-key : goal.invariant-loop-key
invariant-loop-key l = list_any (λ key. is_unique key.rank && agree l.a l.b key.columns) (drop l.key-index l.keys) ≡ list_any (λ key. is_unique key.rank && agree l.a l.b key.columns) l.keys
