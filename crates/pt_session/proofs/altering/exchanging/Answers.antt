use Rattle.std.proofs.Common.{List, [], ◌∷◌, ◌++◌, ◌∙◌, ap}
use Rattle.pt_ddl_log.specs.declared.chain.Act.{Act}
use Rattle.pt_ddl_log.specs.declared.chain.Act.TheVariants.{Exchange}
use Rattle.pt_session.proofs.Swaps.{exchanging_asks}
use Rattle.pt_session.proofs.altering.exchanging.Goals as goal

pub returns-clause-of : goal.returns-clause-of
returns-clause-of c = record {
  name_is = c.name_fits.ensures;
  other_is = c.name_fits-2.ensures;
  a = c.held_file-a.result;
  b = c.held_file-b.result;
  here = c.held_file-a.ensures;
  beside = c.held_file-b.ensures;
  acts = c.in_ok-push.ensures.ok ∙ ap (λ (acts : List Act). acts ++ Exchange c.held_file-a.result c.held_file-b.result ∷ []) c.new-acts.ensures;
}

pub returns-clause-asks : goal.returns-clause-asks
returns-clause-asks c = exchanging_asks c.args.session.now c.args.name.now c.args.spot c.args.other.now _ c.requires.open (returns-clause-of c) c.requires.change
