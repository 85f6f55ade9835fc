-- What a chain of acts makes of a directory's files.
use Rattle.std.specs.Prelude.{ℕ, List, [], ◌∷◌, None}
use Rattle.pt_host.specs.Disk.{Files, put, moved}
use Rattle.pt_ddl_log.specs.declared.chain.Act.{Act}
use Rattle.pt_ddl_log.specs.declared.chain.Act.TheVariants.{Delete, Rename, Replace, Exchange}

-- the names that stand in an act
abbrev pub names_of : Act → List (List ℕ)
names_of (Delete name) = name ∷ []
names_of (Rename from to) = from ∷ to ∷ []
names_of (Replace from to) = from ∷ to ∷ []
names_of (Exchange a b) = a ∷ b ∷ []

-- A delete takes a name away. A rename and a replacement give `to` the bytes of `from`, where it is there, and take `from`
-- away. An exchange swaps the bytes of two names.
abbrev pub after_act : Act → Files → Files
after_act (Delete name) files = put files name None
after_act (Rename from to) files = moved files from to (files from)
after_act (Replace from to) files = moved files from to (files from)
after_act (Exchange a b) files = put (put files a (files b)) b (files a)

-- the files after the acts, one after the other
abbrev pub act_on : List Act → Files → Files
act_on [] files = files
act_on (act ∷ acts) files = act_on acts (after_act act files)
