use Rattle.std.proofs.Common.{◌≡◌, ◌++◌, take}
use Rattle.std.specs.List.{flat_map}
use Rattle.pt_show.specs.Show.{factor_shown, parts_of, sum_shown}
use Rattle.pt_show.proofs.show_expr.+show_expr.Given as goal

abbrev pub invariant-show_sum-loop-i : goal.invariant-show_sum-loop-i
invariant-show_sum-loop-i l = l.out.items ≡ l.initial.out.items ++ sum_shown (parts_of (take l.i l.items))

abbrev pub invariant-show_factors-loop-op : goal.invariant-show_factors-loop-op
invariant-show_factors-loop-op l = l.out.items ≡ l.initial.out.items ++ flat_map factor_shown (parts_of (take l.op-index l.items))
