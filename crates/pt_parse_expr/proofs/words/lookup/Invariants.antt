-- The rest of the table gives what the whole gives.
use Rattle.std.proofs.Common.{◌≡◌, map, drop}
use Rattle.pt_parse_expr.specs.Symbols.{lookup}
use Rattle.pt_parse_expr.proofs.words.lookup.Given as goal

abbrev pub invariant-loop-entry : goal.invariant-loop-entry
invariant-loop-entry g l = lookup (map (λ k. (k.0.now, k.1)) l.table) l.word ≡ lookup (map (λ k. (k.0.now, k.1)) (drop l.entry-index l.table)) l.word
