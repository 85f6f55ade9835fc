use Rattle.pt_defs.proofs.Files.{bytes_are, told_file, told_storable}
use Rattle.pt_defs.proofs.get_def.def_of_bytes.Goals as goal

pub returns-clause-file : goal.returns-clause-file
returns-clause-file c = told_file c.file_at.result c.args.bytes.now (bytes_are c.args.bytes.now c.type_inv.bytes) c.file_at.ensures

pub returns-clause-storable : goal.returns-clause-storable
returns-clause-storable c = told_storable c.file_at.result c.args.bytes.now (returns-clause-file c)
