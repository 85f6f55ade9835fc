use Rattle.std.proofs.Common.{arith}
use Rattle.pt_defs.proofs.Files.{reads}
use Rattle.pt_defs.proofs.Texts.{def_written}
use Rattle.pt_defs.proofs.put_def.def_bytes.Goals as goal

pub returns-clause-file : goal.returns-clause-file
returns-clause-file c = record {
  fits = c.def_fits.ensures;
  spells =
      def_written c.args.def.now _ _ _ _ _ _ _ c.len.result c.requires c.new-body.ensures.items c.in_ok-put_body.ensures c.new-bytes.ensures.items c.in_ok-put_bytes.ensures.ok
      (omega (arith, c.len.ensures, c.put_body.new.out.ok)) (omega (arith, c.len.ensures, c.put_body.new.out.ok, c.put_body.new.out.small)) c.in_ok-put_u64.ensures.ok c.deref.ensures.value c.in_ok-put_bytes-2.ensures.ok;
}

pub returns-clause-reads_back : goal.returns-clause-reads_back
returns-clause-reads_back c = reads _ c.args.def.now c.def_fits.ensures (returns-clause-file c).spells
