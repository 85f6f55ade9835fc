use Rattle.std.proofs.Common.{◌≡◌, ◌↔◌, All, IsTrue, subst}
use Rattle.std.specs.Prelude.{AllPairs}
use Rattle.std.specs.List.{list_any}
use Rattle.pt_ddl_log.specs.Clean.{AreApart, HasTwo, IsClean, IsLasting, is_exchange}
use Rattle.pt_ddl_log.proofs.Cleaning.{fails, passes, plain}
use Rattle.pt_ddl_log.proofs.clean.is_clean.Goals as goal

pub returns-then-not-are_apart : goal.returns-then-not-are_apart
returns-then-not-are_apart c =
    fails c.are_apart.result (AllPairs AreApart c.args.chain.now.acts) (IsClean c.args.chain.now)
    (subst (λ acts. IsTrue c.are_apart.result ↔ AllPairs AreApart acts) c.items-acts.ensures c.are_apart.ensures)
    (λ clean. clean.apart) c.if-not-are_apart.true

pub returns : goal.returns
returns c =
    plain c.args.chain.now
    (passes c.are_apart.result (AllPairs AreApart c.args.chain.now.acts) (subst (λ acts. IsTrue c.are_apart.result ↔ AllPairs AreApart acts) c.items-acts.ensures c.are_apart.ensures) c.if-not-are_apart.false)
    (passes c.are_lasting.result (All IsLasting c.args.chain.now.acts) (subst (λ acts. IsTrue c.are_lasting.result ↔ All IsLasting acts) c.items-acts.ensures c.are_lasting.ensures) c.if-not-are_lasting.false)
    (passes c.have_two.result (All HasTwo c.args.chain.now.acts) (subst (λ acts. IsTrue c.have_two.result ↔ All HasTwo acts) c.items-acts.ensures c.have_two.ensures) c.if-not-have_two.false)
    c.has_exchange.result (subst (λ acts. c.has_exchange.result ≡ list_any is_exchange acts) c.items-acts.ensures c.has_exchange.ensures) c.if-has_exchange.false
