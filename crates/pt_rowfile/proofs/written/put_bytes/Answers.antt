use Rattle.std.proofs.Common.{◌≡◌, All, List, length, subst, rules}
use Rattle.pt_value.specs.declared.value.Value.{Value}
use Rattle.std.specs.List.{flat_map}
use Rattle.pt_rowfile.specs.Cells.{IsCell, cell_bytes}
use Rattle.pt_rowfile.proofs.WrittenParts.{put_record, put_written}
use Rattle.pt_rowfile.proofs.written.put_bytes.Goals as goal

pub returns-clause-written : goal.returns-clause-written
returns-clause-written c =
    let size : c.cells_size.result ≡ length (flat_map cell_bytes c.args.row.now.cells) = search rules in
    put_written c.args.out.now.items c.put_u32.new.out.items c.put_u8.new.out.items c.put_u64.new.out.items c.put_u32-2.new.out.items c.put_cells.new.out.items c.args.row.now c.cells_size.result size
    c.in_ok-put_u32.ensures.ok c.in_ok-put_u8.ensures.ok c.in_ok-put_u64.ensures.ok (search rules) (search rules)

pub returns-clause-record : goal.returns-clause-record
returns-clause-record c =
    let size : c.cells_size.result ≡ length (flat_map cell_bytes c.args.row.now.cells) = search rules in
    put_record c.args.row.now c.cells_size.result size c.cells_size.ensures.most c.requires
    (subst (λ (cells : List Value). All IsCell cells) c.items-cells.ensures c.in_ok-put_cells.ensures.cells)
