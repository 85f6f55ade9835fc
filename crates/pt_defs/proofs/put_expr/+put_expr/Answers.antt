use Rattle.pt_defs.specs.Spelling.{expr_text, factor_text, term_text}
use Rattle.pt_defs.proofs.Texts.{text_written, hex_written, call_written, product_written, parts_written}
use Rattle.pt_defs.proofs.put_expr.+put_expr.Goals as goal

pub put_expr-returns-in_ok-put_expr-in-Product : goal.put_expr-returns-in_ok-put_expr-in-Product
put_expr-returns-in_ok-put_expr-in-Product t c =
    product_written c.put_factors.result c.args.columns.now c.args.expr.now c.args.out.now.items _ c.put_factors.new.out.items _ _ _ _ c.in-Product.is c.get-in-Product.ensures c.in_ok-put_u8-in-Product.ensures.ok
    c.in_ok-put_expr-in-Product.ensures c.put_factors.ensures

pub put_expr-returns-in_ok-put_u8-in-Call : goal.put_expr-returns-in_ok-put_u8-in-Call
put_expr-returns-in_ok-put_u8-in-Call t c =
    call_written c.put_expr-in-Call.result c.args.columns.now c.args.expr.now c.args.out.now.items _ c.put_expr-in-Call.new.out.items _ _ _ _ c.in-Call.is c.get-in-Call.ensures c.func_code.ensures c.in_ok-put_u8-in-Call.ensures.ok
    c.put_expr-in-Call.ensures

pub put_expr-returns-in_ok-put_u8-in-Text : goal.put_expr-returns-in_ok-put_u8-in-Text
put_expr-returns-in_ok-put_u8-in-Text t c =
    text_written c.put_string.result c.args.columns.now c.args.expr.now c.args.out.now.items _ c.put_string.new.out.items _ _ c.in-Text.is c.items.ensures c.in_ok-put_u8-in-Text.ensures.ok c.put_string.ensures

pub put_expr-returns-in_ok-put_u8-in-Hex : goal.put_expr-returns-in_ok-put_u8-in-Hex
put_expr-returns-in_ok-put_u8-in-Hex t c =
    hex_written c.put_string-in-Hex.result c.args.columns.now c.args.expr.now c.args.out.now.items _ c.put_string-in-Hex.new.out.items _ _ c.in-Hex.is c.items-in-Hex.ensures c.in_ok-put_u8-in-Hex.ensures.ok
    c.put_string-in-Hex.ensures

pub put_factors-returns : goal.put_factors-returns
put_factors-returns t c =
    parts_written c.args.out.now.items _ _ factor_text (λ part. (part.0, expr_text c.args.columns.now part.1)) _ _ c.loop-op.op-index c.items-items.ensures c.in_ok-put_count.ensures c.loop-op-test.false c.loop-op.invariant

pub put_terms-returns : goal.put_terms-returns
put_terms-returns t c =
    parts_written c.args.out.now.items _ _ term_text (λ part. (part.0, expr_text c.args.columns.now part.1)) _ _ c.loop-minus.minus-index c.items-items.ensures c.in_ok-put_count.ensures c.loop-minus-test.false
    c.loop-minus.invariant
