use Rattle.std.proofs.Common.{◌++◌, List, ℕ, subst, sym}
use Rattle.std.specs.Prelude.{codes}
use Rattle.pt_host.specs.Name.{IsName}
use Rattle.pt_names.proofs.Spots.{joined_leaf, leaf_is_name}
use Rattle.pt_names.proofs.made.leaf_name.Goals as goal

pub named-requires-clause-name : goal.named-requires-clause-name
named-requires-clause-name c =
    let table = c.args.table.now in
    let leaf = c.args.leaf.now in
    subst (λ (bytes : List ℕ). IsName (bytes ++ codes ".rows"))
    (sym (joined_leaf table leaf c.bytes-table.result.now c.bytes.result.now c.bytes-2.result.now _ _ _ c.bytes-table.ensures.value c.bytes.ensures.value c.bytes-2.ensures.value c.bytes-table.ensures.ident c.bytes.ensures.ident
    c.joined-marked.ensures c.lowered-small.ensures c.joined-both.ensures))
    (leaf_is_name table leaf c.bytes-table.ensures.ident c.bytes.ensures.ident)
