-- The column numbers of a storable definition.
use Rattle.std.proofs.Common.{ℕ, List, [], All, length, arith}
use Rattle.pt_ast.specs.declared.table.Column.{Column}
use Rattle.pt_ast.specs.declared.table.PartBy.{PartBy}
use Rattle.pt_ast.specs.declared.table.PartBy.TheVariants as by
use Rattle.pt_ast.specs.declared.table.TableDef.{TableDef}
use Rattle.pt_ast.specs.StorableDef.{IsStorableBy, IsStorableDef}
use Rattle.pt_place.specs.Valid.{AreBelow, ArePlaced, numbers_of}

none_below : (columns : List Column) → AreBelow columns []
none_below columns k d within = absurd (omega (arith, within))

by_below : (columns : List Column) (kind : PartBy) → IsStorableBy columns kind → AreBelow columns (numbers_of kind)
by_below columns by.Whole storable = none_below columns
by_below columns (by.Range expr) storable = none_below columns
by_below columns (by.List expr) storable = none_below columns
by_below columns (by.RangeColumns numbers) storable = storable.1.1
by_below columns (by.ListColumns numbers) storable = storable.1.1
by_below columns (by.Hash linear expr) storable = none_below columns
by_below columns (by.Key linear numbers) storable = storable.1

pub storable_placed : (def : TableDef) → IsStorableDef def → ArePlaced def
storable_placed def storable = record {
  keys = λ k d within. (storable.keys k d within).columns.1.1;
  by = by_below def.columns def.by storable.by;
  sub = by_below def.columns def.sub storable.sub.0;
}
