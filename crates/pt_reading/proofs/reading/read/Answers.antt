use Rattle.std.proofs.Common.{◌∙◌, sym}
use Rattle.pt_parse_expr.proofs.Readings.{if_ok_then}
use Rattle.pt_reading.specs.Reading.{lexed}
use Rattle.pt_reading.proofs.Faults.{fault_read}
use Rattle.pt_reading.proofs.reading.read.Goals as goal

pub returns-in-Ok-clause-reads : goal.returns-in-Ok-clause-reads
returns-in-Ok-clause-reads c = if_ok_then c.read_tokens.result (λ reading is. lexed c.in-Ok.ensures.tokens is) c.read_tokens.ensures.reads

pub returns-then-is_lexical : goal.returns-then-is_lexical
returns-then-is_lexical c = record {
  reads = fault_read c.args.piece.now c.in-Err.fault (sym c.is_lexical.ensures ∙ c.if-is_lexical.true) c.in-Err.ensures.fault;
  storable = tt;
  covered = tt;
}
