use Rattle.std.proofs.Common.{◌≡◌, ◌++◌, subst, List, ℕ}
use Rattle.pt_left.specs.Spelling.{number, spelled_file}
use Rattle.pt_store.proofs.Writing.{file_written}
use Rattle.pt_store.proofs.spell.put_file.Goals as goal

pub returns-clause-spelled : goal.returns-clause-spelled
unfolding number
returns-clause-spelled c =
    subst (λ (name : List ℕ). c.put_bytes-2.new.out.items ≡ c.args.out.now.items ++ spelled_file (name, c.args.bytes.now)) c.bytes-name.ensures.value
    (file_written _ _ _ _ _ _ _ c.in_ok-put_u8.ensures.ok c.in_ok-put_bytes.ensures.ok c.in_ok-put_u64.ensures.ok c.in_ok-put_bytes-2.ensures.ok)
