use Rattle.std.proofs.Common.{sym, IsTrue}
use Rattle.std.proofs.lemmas.List.Elements.{All-drop}
use Rattle.pt_token.specs.Bytes.{is_hex_digit}
use Rattle.pt_token.proofs.Loops.{hex_more, hex_end}
use Rattle.pt_token.proofs.quoting.hex_bytes.Goals as goal

pub loop-rest-preserved : goal.loop-rest-preserved
loop-rest-preserved c = record {
  value = hex_more _ c.loop-rest.bytes _ c.loop-rest.rest.now _ _ c.loop-rest-test.true c.loop-rest.invariant.value (cc) c.in_ok-push.ensures.ok c.behind-rest.ensures;
  each = rw c.behind-rest.ensures (All-drop (λ b. IsTrue (is_hex_digit b)) 2 c.loop-rest.rest.now c.loop-rest.invariant.each);
}

pub returns : goal.returns
returns c = sym (hex_end _ c.loop-rest.bytes c.loop-rest.rest.now c.loop-rest-test.false c.loop-rest.invariant.value)
