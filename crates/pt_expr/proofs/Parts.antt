-- Sums and products part by part.
use Rattle.std.proofs.Common.{◌≡◌, ℕ, ◌+◌, ◌<◌, ◌≤◌, Bool, true, false, List, [], ◌∷◌, length, drop, get_or, map, Option, Some, None, Ok, Err, refl, sym, ap, ◌∙◌, arith}
use Rattle.std.specs.Prelude.{◌^◌, ◌&&◌, if◌then◌else◌, nat_lt, fold}
use Rattle.std.specs.List.{list_all}
use Rattle.std.proofs.lemmas.List.{at_drop_more, at_drop_all}
use Rattle.pt_ast.specs.declared.table.Column.{Column}
use Rattle.pt_ast.specs.declared.tree.Op.{Op}
use Rattle.pt_ast.specs.declared.tree.Expr.{Expr}
use Rattle.pt_ast.specs.declared.tree.Expr.TheOpen.{Expr-F}
use Rattle.pt_ast.specs.declared.tree.Expr.TheVariants as tree
use Rattle.pt_ast.specs.declared.tree.Expr.TheVariants.{rolls-Sum, rolls-Product}
use Rattle.pt_ast.specs.declared.tree.Expr.TheFolds.{fold-roll-Expr}
use Rattle.std.proofs.lemmas.Bool.Decides.{nat_tests}
use Rattle.pt_expr.specs.declared.kind.CheckFault.{CheckFault}
use Rattle.pt_expr.specs.declared.kind.CheckFault.TheVariants.{Mismatch, TooWide}
use Rattle.pt_expr.specs.declared.found.Found.{Found}
use Rattle.pt_expr.specs.declared.running.Running.{Running}
use Rattle.pt_expr.specs.Found.{Finding, after, all_found, beside, bound_after, finding, finding_step, may_be_wide, narrow, product_bound, product_finding, sum_finding, takes, wide}
use Rattle.pt_expr.proofs.Gathering.{after-same, gather}
use Rattle.pt_expr.specs.Stepping.{begun, ended, plus_bound, plus_part, product_rest, sum_rest, times_bound, times_part}

-- ---- the steps of a loop

sum_next : (columns : List Column) (run : Running) (parts : List (Bool × Expr)) (i : ℕ) (part : Bool × Expr) → i < length parts → part ≡ get_or parts i part
    → sum_rest columns run (drop i parts) ≡ after (finding columns part.1) (λ found. sum_rest columns (plus_part run found) (drop (i + 1) parts))
unfolding sum_rest
sum_next columns run parts i part h is =
    at_drop_more (sum_rest columns run) parts i part h
    ∙ ap (λ (p : Bool × Expr). after (finding columns p.1) (λ found. sum_rest columns (plus_part run found) (drop (i + 1) parts))) (sym is)

pub sum_more : (whole : Finding) (columns : List Column) (run : Running) (parts : List (Bool × Expr)) (i : ℕ) (part : Bool × Expr) (found : Found) → i < length parts → part ≡ get_or parts i part
    → sum_rest columns run (drop i parts) ≡ whole → Ok found ≡ finding columns part.1 → sum_rest columns (plus_part run found) (drop (i + 1) parts) ≡ whole
sum_more whole columns run parts i part found h is so_far here =
    ap (λ (r : Finding). after r (λ found. sum_rest columns (plus_part run found) (drop (i + 1) parts))) here ∙ sym (sum_next columns run parts i part h is) ∙ so_far

pub sum_fault : (whole : Finding) (columns : List Column) (run : Running) (parts : List (Bool × Expr)) (i : ℕ) (part : Bool × Expr) (fault : CheckFault) → i < length parts → part ≡ get_or parts i part
    → sum_rest columns run (drop i parts) ≡ whole → Err fault ≡ finding columns part.1 → Err fault ≡ whole
sum_fault whole columns run parts i part fault h is so_far here =
    ap (λ (r : Finding). after r (λ found. sum_rest columns (plus_part run found) (drop (i + 1) parts))) here ∙ sym (sum_next columns run parts i part h is) ∙ so_far

pub sum_end : (whole : Finding) (columns : List Column) (run : Running) (parts : List (Bool × Expr)) (i : ℕ) → length parts ≤ i
    → sum_rest columns run (drop i parts) ≡ whole → ended run ≡ whole
unfolding sum_rest
sum_end whole columns run parts i h so_far = sym (at_drop_all (sum_rest columns run) parts i h) ∙ so_far

product_next : (columns : List Column) (run : Running) (parts : List (Op × Expr)) (i : ℕ) (part : Op × Expr) → i < length parts → part ≡ get_or parts i part
    → product_rest columns run (drop i parts) ≡ after (finding columns part.1) (λ found. product_rest columns (times_part run part.0 found) (drop (i + 1) parts))
unfolding product_rest
product_next columns run parts i part h is =
    at_drop_more (product_rest columns run) parts i part h
    ∙ ap (λ (p : Op × Expr). after (finding columns p.1) (λ found. product_rest columns (times_part run p.0 found) (drop (i + 1) parts))) (sym is)

pub product_more : (whole : Finding) (columns : List Column) (run : Running) (parts : List (Op × Expr)) (i : ℕ) (part : Op × Expr) (found : Found) → i < length parts → part ≡ get_or parts i part
    → product_rest columns run (drop i parts) ≡ whole → Ok found ≡ finding columns part.1 → product_rest columns (times_part run part.0 found) (drop (i + 1) parts) ≡ whole
product_more whole columns run parts i part found h is so_far here =
    ap (λ (r : Finding). after r (λ found. product_rest columns (times_part run part.0 found) (drop (i + 1) parts))) here ∙ sym (product_next columns run parts i part h is) ∙ so_far

pub product_fault : (whole : Finding) (columns : List Column) (run : Running) (parts : List (Op × Expr)) (i : ℕ) (part : Op × Expr) (fault : CheckFault) → i < length parts → part ≡ get_or parts i part
    → product_rest columns run (drop i parts) ≡ whole → Err fault ≡ finding columns part.1 → Err fault ≡ whole
product_fault whole columns run parts i part fault h is so_far here =
    ap (λ (r : Finding). after r (λ found. product_rest columns (times_part run part.0 found) (drop (i + 1) parts))) here ∙ sym (product_next columns run parts i part h is) ∙ so_far

pub product_end : (whole : Finding) (columns : List Column) (run : Running) (parts : List (Op × Expr)) (i : ℕ) → length parts ≤ i
    → product_rest columns run (drop i parts) ≡ whole → ended run ≡ whole
unfolding product_rest
product_end whole columns run parts i h so_far = sym (at_drop_all (product_rest columns run) parts i h) ∙ so_far

-- ---- what a loop comes to

mismatch_stays : (o : Option ℕ) (parts : List Found) → ended (fold plus_part (record { matches = false; bound = o }) parts) ≡ Err Mismatch
mismatch_stays o [] = refl
mismatch_stays o (part ∷ parts) = mismatch_stays (plus_bound o part.bound) parts

-- where a part of a sum was too wide, it stays so
plus_none : (m : Bool) (parts : List Found) → ended (fold plus_part (record { matches = m; bound = None }) parts) ≡ (if m && list_all (λ part. may_be_wide part.shape) parts then Err TooWide else Err Mismatch)
plus_none true [] = refl
plus_none false parts = mismatch_stays None parts
plus_none true (part ∷ parts) = plus_none (may_be_wide part.shape) parts

total : ℕ → List Found → ℕ
total b parts = fold (λ a (part : Found). a + part.bound) b parts

grows : (b : ℕ) (parts : List Found) → b ≤ total b parts
unfolding total
grows b [] = omega arith
grows b (part ∷ parts) = omega (arith, grows (b + part.bound) parts)

wide_total : (b : ℕ) (parts : List Found) → nat_lt b (2 ^ 126) ≡ false → nat_lt (total b parts) (2 ^ 126) ≡ false
wide_total b parts h = let more = grows b parts in grind (arith, nat_tests)

summed : Bool → ℕ → List Found → Finding
summed m b parts = if m && list_all (λ part. may_be_wide part.shape) parts then after (narrow (total b parts)) (λ bound. Ok (wide bound)) else Err Mismatch

plus_step : (m : Bool) (n : ℕ) (parts : List Found) (t : Bool) → nat_lt n (2 ^ 126) ≡ t
    → (nat_lt n (2 ^ 126) ≡ true → ended (fold plus_part (record { matches = m; bound = Some n }) parts) ≡ summed m n parts)
    → ended (fold plus_part (record { matches = m; bound = if t then Some n else None }) parts) ≡ summed m n parts
unfolding summed
plus_step m n parts true test more = more test
plus_step m n parts false test more = plus_none m parts ∙ rw (wide_total n parts test) refl

plus_all : (m : Bool) (b : ℕ) (parts : List Found) → nat_lt b (2 ^ 126) ≡ true → ended (fold plus_part (record { matches = m; bound = Some b }) parts) ≡ summed m b parts
unfolding summed total
plus_all true b [] h = rw h refl
plus_all false b parts h = mismatch_stays (Some b) parts
plus_all true b (part ∷ parts) h =
    plus_step (may_be_wide part.shape) (b + part.bound) parts (nat_lt (b + part.bound) (2 ^ 126)) refl (plus_all (may_be_wide part.shape) (b + part.bound) parts)

times_pair : Running → Op × Found → Running
times_pair run part = times_part run part.0 part.1

other_stays : (o : Option ℕ) (parts : List (Op × Found)) → ended (fold times_pair (record { matches = false; bound = o }) parts) ≡ Err Mismatch
unfolding times_pair
other_stays o [] = refl
other_stays o (part ∷ parts) = other_stays (times_bound o part.0 part.1.bound) parts

times_none : (m : Bool) (parts : List (Op × Found))
    → ended (fold times_pair (record { matches = m; bound = None }) parts) ≡ (if m && list_all (λ part. takes part.0 part.1) parts then Err TooWide else Err Mismatch)
unfolding times_pair
times_none true [] = refl
times_none false parts = other_stays None parts
times_none true (part ∷ parts) = times_none (takes part.0 part.1) parts

multiplied : Bool → ℕ → List (Op × Found) → Finding
multiplied m b parts = if m && list_all (λ part. takes part.0 part.1) parts then after (product_bound b parts) (λ bound. Ok (wide bound)) else Err Mismatch

times_step : (m : Bool) (n : ℕ) (parts : List (Op × Found)) (t : Bool)
    → ended (fold times_pair (record { matches = m; bound = Some n }) parts) ≡ multiplied m n parts
    → ended (fold times_pair (record { matches = m; bound = if t then Some n else None }) parts)
    ≡ (if m && list_all (λ part. takes part.0 part.1) parts
    then after (after (if t then Ok n else Err TooWide) (λ (next : ℕ). product_bound next parts)) (λ bound. Ok (wide bound)) else Err Mismatch)
unfolding multiplied
times_step m n parts true more = more
times_step m n parts false more = times_none m parts

times_all : (m : Bool) (b : ℕ) (parts : List (Op × Found)) → ended (fold times_pair (record { matches = m; bound = Some b }) parts) ≡ multiplied m b parts
unfolding multiplied times_pair
times_all true b [] = refl
times_all false b parts = other_stays (Some b) parts
times_all true b (part ∷ parts) =
    times_step (takes part.0 part.1) (bound_after b part.0 part.1.bound) parts (nat_lt (bound_after b part.0 part.1.bound) (2 ^ 126)) (times_all (takes part.0 part.1) (bound_after b part.0 part.1.bound) parts)

-- ---- parts that are found one by one

sum_gathered : (columns : List Column) (run : Running) (parts : List (Bool × Expr))
    → sum_rest columns run parts ≡ after (all_found (map (λ (part : Bool × Finding). part.1) (map (λ (part : Bool × Expr). (part.0, finding columns part.1)) parts))) (λ founds. ended (fold plus_part run founds))
unfolding sum_rest
sum_gathered columns run [] = refl
sum_gathered columns run (part ∷ parts) =
    gather (finding columns part.1) (all_found (map (λ (part : Bool × Finding). part.1) (map (λ (part : Bool × Expr). (part.0, finding columns part.1)) parts)))
    (λ found. sum_rest columns (plus_part run found) parts) (λ founds. ended (fold plus_part run founds)) (λ found. sum_gathered columns (plus_part run found) parts)

paired : (op : Op) (r : Finding) (k : Op × Found → Finding) → after r (λ found. k (op, found)) ≡ after (beside op r) k
paired op (Ok found) k = refl
paired op (Err fault) k = refl

product_gathered : (columns : List Column) (run : Running) (parts : List (Op × Expr))
    → product_rest columns run parts
    ≡ after (all_found (map (λ (part : Op × Finding). beside part.0 part.1) (map (λ (part : Op × Expr). (part.0, finding columns part.1)) parts))) (λ founds. ended (fold times_pair run founds))
unfolding product_rest times_pair
product_gathered columns run [] = refl
product_gathered columns run (part ∷ parts) =
    paired part.0 (finding columns part.1) (λ pair. product_rest columns (times_pair run pair) parts)
    ∙ gather (beside part.0 (finding columns part.1)) (all_found (map (λ (part : Op × Finding). beside part.0 part.1) (map (λ (part : Op × Expr). (part.0, finding columns part.1)) parts)))
    (λ pair. product_rest columns (times_pair run pair) parts) (λ founds. ended (fold times_pair run founds)) (λ pair. product_gathered columns (times_pair run pair) parts)

-- ---- whole sums and products

pub sum_whole : (columns : List Column) (expr : Expr) (parts : List (Bool × Expr)) → expr ≡ tree.Sum parts → sum_rest columns (begun (wide 0)) parts ≡ finding columns expr
unfolding summed total
sum_whole columns expr parts is =
    sum_gathered columns (begun (wide 0)) parts
    ∙ after-same (all_found (map (λ (part : Bool × Finding). part.1) (map (λ (part : Bool × Expr). (part.0, finding columns part.1)) parts))) _ sum_finding (λ founds. plus_all true 0 founds refl)
    ∙ sym (ap (finding columns) is ∙ ap (finding columns) (sym (rolls-Sum parts)) ∙ fold-roll-Expr Finding (finding_step columns) (Expr-F.Sum parts))

pub product_whole : (columns : List Column) (expr first : Expr) (parts : List (Op × Expr)) (found : Found) → expr ≡ tree.Product first parts → Ok found ≡ finding columns first
    → product_rest columns (begun found) parts ≡ finding columns expr
unfolding multiplied
product_whole columns expr first parts found is here =
    product_gathered columns (begun found) parts
    ∙ after-same (all_found (map (λ (part : Op × Finding). beside part.0 part.1) (map (λ (part : Op × Expr). (part.0, finding columns part.1)) parts))) _ (product_finding found)
    (λ founds. times_all (may_be_wide found.shape) found.bound founds)
    ∙ ap (λ (r : Finding). after r (λ found. after (all_found (map (λ (part : Op × Finding). beside part.0 part.1) (map (λ (part : Op × Expr). (part.0, finding columns part.1)) parts))) (product_finding found))) here
    ∙ sym (ap (finding columns) is ∙ ap (finding columns) (sym (rolls-Product first parts)) ∙ fold-roll-Expr Finding (finding_step columns) (Expr-F.Product first parts))
