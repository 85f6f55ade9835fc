use Rattle.std.proofs.Common.{rules}
use Rattle.pt_defs.proofs.ExprFits.{call_fits, column_fits, date_fits, hex_fits, neg_fits, null_fits, number_fits, product_fits, sum_fits, text_fits}
use Rattle.pt_defs.proofs.fitting.+expr_fits.Goals as goal

pub expr_fits-returns-in-Number : goal.expr_fits-returns-in-Number
expr_fits-returns-in-Number t c = number_fits c.args.expr.now _ c.in-Number.is (search rules)

pub expr_fits-returns-in-Text : goal.expr_fits-returns-in-Text
expr_fits-returns-in-Text t c = text_fits c.args.expr.now _ _ c.in-Text.is c.items.ensures c.bytes_fit.ensures

pub expr_fits-returns-in-Hex : goal.expr_fits-returns-in-Hex
expr_fits-returns-in-Hex t c = hex_fits c.args.expr.now _ _ c.in-Hex.is c.items-in-Hex.ensures c.bytes_fit-in-Hex.ensures

pub expr_fits-returns-in-Date : goal.expr_fits-returns-in-Date
expr_fits-returns-in-Date t c = date_fits c.args.expr.now _ c.in-Date.is

pub expr_fits-returns-in-Null : goal.expr_fits-returns-in-Null
expr_fits-returns-in-Null t c = null_fits c.args.expr.now c.in-Null.is

pub expr_fits-returns-in-Column : goal.expr_fits-returns-in-Column
expr_fits-returns-in-Column t c = column_fits c.args.expr.now _ c.in-Column.is

pub expr_fits-returns-in-Neg : goal.expr_fits-returns-in-Neg
expr_fits-returns-in-Neg t c = neg_fits c.args.expr.now _ _ c.in-Neg.is c.get.ensures c.expr_fits.ensures

pub expr_fits-returns-in-Sum : goal.expr_fits-returns-in-Sum
expr_fits-returns-in-Sum t c = sum_fits c.args.expr.now _ c.in-Sum.is c.terms_fit.ensures

pub expr_fits-returns-in-Product : goal.expr_fits-returns-in-Product
expr_fits-returns-in-Product t c = product_fits c.args.expr.now _ _ _ c.in-Product.is c.get-in-Product.ensures c.expr_fits-in-Product.ensures c.factors_fit.ensures

pub expr_fits-returns-in-Call : goal.expr_fits-returns-in-Call
expr_fits-returns-in-Call t c = call_fits c.args.expr.now _ _ _ c.in-Call.is c.get-in-Call.ensures c.expr_fits-in-Call.ensures
