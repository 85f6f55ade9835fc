-- Tests in the shape of the code.
use Rattle.std.specs.Prelude.{ℕ, Bool, List}
use Rattle.std.specs.List.{list_any}
use Rattle.std.specs.Str.{bytes_eq}
use Rattle.pt_ddl_log.specs.declared.chain.Act.{Act}
use Rattle.pt_ddl_log.specs.Chain.{names_of}

-- whether the name stands in the act
abbrev pub has : Act → List ℕ → Bool
has act name = list_any (bytes_eq name) (names_of act)

-- whether a name stands in both
abbrev pub meets : Act → Act → Bool
meets a b = list_any (has b) (names_of a)
