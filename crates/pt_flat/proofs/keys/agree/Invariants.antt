use Rattle.std.proofs.Common.{◌≡◌, drop, slice_index_or}
use Rattle.std.specs.List.{list_all}
use Rattle.pt_value.specs.declared.value.Value.TheVariants.{Null}
use Rattle.pt_ast.specs.Keys.{is_alike}
use Rattle.pt_flat.proofs.keys.agree.Given as goal

abbrev pub invariant-loop-column : goal.invariant-loop-column
invariant-loop-column l = list_all (λ column. is_alike (slice_index_or l.a column Null) (slice_index_or l.b column Null)) (drop l.column-index l.columns) ≡ list_all (λ column. is_alike (slice_index_or l.a column Null) (slice_index_or l.b column Null)) l.columns
