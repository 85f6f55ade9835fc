use Rattle.std.proofs.Common.{◌≡◌, map, filter, take}
use Rattle.pt_ast.specs.Keys.{is_unique}
use Rattle.pt_unique.proofs.book.keys_of.Given as goal

abbrev pub invariant-loop-key : goal.invariant-loop-key
invariant-loop-key l = l.keys ≡ map (λ key. key.columns) (filter (λ key. is_unique key.rank) (take l.key-index l.key-items))
