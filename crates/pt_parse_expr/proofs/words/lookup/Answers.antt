use Rattle.std.proofs.Common.{◌∙◌, sym, arith}
use Rattle.pt_parse_expr.proofs.Lookup.{lookup_found, lookup_more, lookup_end}
use Rattle.pt_parse_expr.proofs.words.lookup.Goals as goal

pub loop-entry-preserved : goal.loop-entry-preserved
loop-entry-preserved g c =
    lookup_more (λ k. (k.0.now, k.1)) c.args.table.now c.args.word.now _ c.loop-entry.entry-index c.entry-item.result (omega arith) c.entry-item.is c.loop-entry.invariant
    (sym c.same_word.ensures ∙ c.if-same_word.false)

pub returns-then-same_word : goal.returns-then-same_word
returns-then-same_word g c =
    lookup_found (λ k. (k.0.now, k.1)) c.args.table.now c.args.word.now _ c.loop-entry.entry-index c.entry-item.result (omega arith) c.entry-item.is c.loop-entry.invariant
    (sym c.same_word.ensures ∙ c.if-same_word.true)

pub returns : goal.returns
returns g c = lookup_end (λ k. (k.0.now, k.1)) c.args.table.now c.args.word.now _ c.loop-entry.entry-index (omega arith) c.loop-entry.invariant
