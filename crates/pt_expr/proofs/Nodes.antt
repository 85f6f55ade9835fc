-- The value of each node agrees with what the node was found to be.
use Rattle.std.proofs.Common.{◌≡◌, ℕ, ◌+◌, ◌<◌, ◌≤◌, ◌^◌, Bool, true, false, List, [], ◌∷◌, Option, Some, None, Ok, Err, IfOk, refl, ap, ◌∙◌, arith, ℤ, pos, neg_ℤ, ◌+ℤ◌, length, drop, get_or}
use Rattle.std.specs.Prelude.{unsigned_abs, nat_lt, if◌then◌else◌, is_some, ◌≤ℤ◌}
use Rattle.std.proofs.lemmas.Int.{ints}
use Rattle.std.proofs.lemmas.Bool.Decides.{nat_tests}
use Rattle.pt_value.specs.Calendar.{days_after_monday, days_after_sunday}
use Rattle.pt_value.specs.Fits.{Fits, FitsDate}
use Rattle.pt_value.specs.declared.value.Value.{Value}
use Rattle.pt_value.specs.declared.value.Value.TheVariants as value
use Rattle.pt_value.specs.declared.value.Kind.{Kind}
use Rattle.pt_value.specs.declared.value.Kind.TheVariants as kind
use Rattle.pt_value.proofs.Parts.{are_parts}
use Rattle.pt_ast.specs.declared.table.Column.{Column}
use Rattle.pt_ast.specs.declared.tree.Func.{Func}
use Rattle.pt_ast.specs.declared.tree.Func.TheVariants as func
use Rattle.pt_expr.specs.declared.kind.CheckFault.TheVariants.{Mismatch, TooWide, BadDate}
use Rattle.pt_expr.specs.declared.found.Shape.{Shape}
use Rattle.pt_expr.specs.declared.found.Shape.TheVariants as shape
use Rattle.pt_expr.specs.declared.found.Found.{Found}
use Rattle.pt_expr.specs.Agrees.{Agrees, AgreesBy, FitsDay, FitsWide, IsBytes, IsDay, IsDayText, IsJust, IsNull, IsWithin}
use Rattle.pt_expr.specs.Columns.{AreFitting, cell_named, column_named, is_named}
use Rattle.pt_expr.specs.Found.{Finding, absolute, after, call_finding, column_finding, column_found, date_finding, day_part, may_be_wide, negated, negation, number_finding, number_found, other, signed, text_shape, wide}
use Rattle.pt_value.specs.Fits.{fits_date}
use Rattle.pt_value.specs.Text.{day_of}
use Rattle.pt_expr.specs.Values.{as_day, call, day_or_null, on_day, on_number, part_of_day}
use Rattle.pt_expr.proofs.Magnitudes.{abs-neg, fits_within, wide_within}
use Rattle.std.proofs.lemmas.List.{drop_more}
use Rattle.pt_expr.proofs.Gathering.{drop_at_item}
use Rattle.pt_value.proofs.Spelled.{day_of-spells}

-- ---- without parts

pub text_agrees : (bytes : List ℕ) → Agrees (other (text_shape (day_of bytes))) (value.Bytes bytes)
text_agrees bytes = by_day (day_of bytes) refl
  where
    by_day : (o : Option ℤ) → day_of bytes ≡ o → Agrees (other (text_shape o)) (value.Bytes bytes)
    by_day (Some day) e = record { by = ap is_some e; narrow = omega arith }
    by_day None e = record { by = tt; narrow = omega arith }

-- ---- columns

int_agrees : (k : Kind) (bound : ℕ) (v : Value) → ((n : ℤ) → Fits k (value.Int n) → unsigned_abs n ≤ bound) → ((day : ℤ) → ¬ (Fits k (value.Day day))) → ((bytes : List ℕ) → ¬ (Fits k (value.Bytes bytes)))
    → Fits k v → IsWithin bound v
int_agrees k bound value.Null number day bytes h = tt
int_agrees k bound (value.Int n) number day bytes h = number n h
int_agrees k bound (value.Day d) number day bytes h = day d h
int_agrees k bound (value.Bytes b) number day bytes h = bytes b h

day_agrees : (v : Value) → Fits kind.Date v → IsDay v
day_agrees value.Null h = tt
day_agrees (value.Int n) h = h
day_agrees (value.Day day) h = h
day_agrees (value.Bytes bytes) h = h

bytes_agree : (most : ℕ) (v : Value) → Fits (kind.Binary most) v → IsBytes v
bytes_agree most value.Null h = tt
bytes_agree most (value.Int n) h = h
bytes_agree most (value.Day day) h = h
bytes_agree most (value.Bytes bytes) h = tt

int_within : (n : ℤ) → Fits kind.Int (value.Int n) → unsigned_abs n ≤ 2_147_483_648
int_within n h = let low = h.0 in let high = h.1 in omega (arith, ints)

big_within : (n : ℤ) → Fits kind.BigInt (value.Int n) → unsigned_abs n ≤ 9_223_372_036_854_775_808
big_within n h = let low = h.0 in let high = h.1 in omega (arith, ints)

cell_agrees : (k : Kind) (v : Value) → Fits k v → Agrees (column_found k) v
cell_agrees kind.Int v h = record { by = int_agrees kind.Int 2_147_483_648 v int_within (λ day h. h) (λ bytes h. h) h; narrow = omega arith }
cell_agrees kind.BigInt v h = record { by = int_agrees kind.BigInt 9_223_372_036_854_775_808 v big_within (λ day h. h) (λ bytes h. h) h; narrow = omega arith }
cell_agrees kind.Date v h = record { by = day_agrees v h; narrow = omega arith }
cell_agrees (kind.Binary most) v h = record { by = bytes_agree most v h; narrow = omega arith }

pub column_agrees : (name : List ℕ) (columns : List Column) (cells : List Value) → AreFitting columns cells
    → IfOk (column_finding name (column_named name columns)) (λ found. Agrees found (cell_named name columns cells))
column_agrees name [] cells h = tt
column_agrees name (column ∷ columns) [] h = absurd h
column_agrees name (column ∷ columns) (cell ∷ cells) h = by_name (column_agrees name columns cells h.1) (is_named name column)
  where
    by_name : IfOk (column_finding name (column_named name columns)) (λ found. Agrees found (cell_named name columns cells)) → (b : Bool) → IfOk (column_finding name (if b then Some column else column_named name columns)) (λ found. Agrees found (if b then cell else cell_named name columns cells))
    by_name rest true = cell_agrees column.kind cell h.0
    by_name rest false = rest

pub fitting_length : (columns : List Column) (cells : List Value) → AreFitting columns cells → length columns ≡ length cells
fitting_length [] [] h = refl
fitting_length [] (cell ∷ cells) h = absurd h
fitting_length (column ∷ columns) [] h = absurd h
fitting_length (column ∷ columns) (cell ∷ cells) h = omega (arith, fitting_length columns cells h.1)

-- ---- numbers and dates as written

okay : Found → Finding
okay found = Ok found

pub number_agrees : (n : ℤ) → IfOk (number_finding n) (λ found. Agrees found (value.Int n))
unfolding okay
number_agrees n = by_size (nat_lt (unsigned_abs n) (2 ^ 126)) refl
  where
    by_size : (b : Bool) → nat_lt (unsigned_abs n) (2 ^ 126) ≡ b
        → IfOk (after (if b then Ok (unsigned_abs n) else Err TooWide) (λ (bound : ℕ). okay (number_found bound))) (λ found. Agrees found (value.Int n))
    by_size true e = record { by = refl; narrow = grind (arith, nat_tests) }
    by_size false e = tt

date_fits : (day : ℤ) → fits_date day ≡ true → FitsDate day
date_fits day h = grind (arith, ints)

pub date_agrees : (day : Option ℤ) → IfOk (date_finding day) (λ found. Agrees found (day_or_null day))
date_agrees None = tt
date_agrees (Some day) = by_fit (fits_date day) refl
  where
    by_fit : (b : Bool) → fits_date day ≡ b → IfOk (if b then Ok (other shape.Day) else Err BadDate) (λ found. Agrees found (value.Day day))
    by_fit true e = record { by = date_fits day e; narrow = omega arith }
    by_fit false e = tt

-- ---- a minus

neg_within : (b : ℕ) (v : Value) → IsWithin b v → IsWithin b (on_number neg_ℤ v)
neg_within b value.Null h = tt
neg_within b (value.Int n) h = rw (abs-neg n) h
neg_within b (value.Day day) h = absurd h
neg_within b (value.Bytes bytes) h = absurd h

neg_just : (b : ℕ) (v : Value) → IsJust b v → IsJust b (on_number neg_ℤ v)
neg_just b value.Null h = absurd h
neg_just b (value.Int n) h = abs-neg n ∙ h
neg_just b (value.Day day) h = absurd h
neg_just b (value.Bytes bytes) h = absurd h

signed_agrees : (s : Shape) (b : ℕ) (v : Value) → may_be_wide s ≡ true → AgreesBy s b v → AgreesBy (signed s) b (on_number neg_ℤ v)
signed_agrees shape.Number b v w a = neg_just b v a
signed_agrees shape.Null b v w a = neg_within b v (wide_within shape.Null b v w a)
signed_agrees shape.Signed b v w a = neg_within b v (wide_within shape.Signed b v w a)
signed_agrees shape.Wide b v w a = neg_within b v (wide_within shape.Wide b v w a)
signed_agrees shape.Day b v w a = neg_within b v (wide_within shape.Day b v w a)
signed_agrees shape.DayText b v w a = neg_within b v (wide_within shape.DayText b v w a)
signed_agrees shape.OtherText b v w a = neg_within b v (wide_within shape.OtherText b v w a)
signed_agrees shape.Bytes b v w a = neg_within b v (wide_within shape.Bytes b v w a)

pub negation_agrees : (part : Found) (v : Value) → Agrees part v → IfOk (negation part) (λ found. Agrees found (on_number neg_ℤ v))
negation_agrees part v h = by_kind (may_be_wide part.shape) refl
  where
    by_kind : (b : Bool) → may_be_wide part.shape ≡ b
        → IfOk (if b then Ok (negated part) else Err Mismatch) (λ found. Agrees found (on_number neg_ℤ v))
    by_kind true e = record { by = signed_agrees part.shape part.bound v e h.by; narrow = h.narrow }
    by_kind false e = tt

-- ---- functions

abs_within : (b : ℕ) (v : Value) → IsWithin b v → IsWithin b (on_number (λ n. pos (unsigned_abs n)) v)
abs_within b value.Null h = tt
abs_within b (value.Int n) h = h
abs_within b (value.Day day) h = absurd h
abs_within b (value.Bytes bytes) h = absurd h

absolute_agrees : (part : Found) (v : Value) → Agrees part v → IfOk (absolute part) (λ found. Agrees found (on_number (λ n. pos (unsigned_abs n)) v))
absolute_agrees part v h = by_kind (may_be_wide part.shape) refl
  where
    by_kind : (b : Bool) → may_be_wide part.shape ≡ b → IfOk (if b then Ok (wide part.bound) else Err Mismatch) (λ found. Agrees found (on_number (λ n. pos (unsigned_abs n)) v))
    by_kind true e = record { by = abs_within part.bound v (wide_within part.shape part.bound v e h.by); narrow = h.narrow }
    by_kind false e = tt

record IsPart (f : ℤ → ℤ) (n : ℕ) : Type 0 where
  within : (day : ℤ) → FitsDate day → unsigned_abs (f day) ≤ n
  narrow : n < 2 ^ 126

null_day : (f : ℤ → ℤ) (n : ℕ) (v : Value) → IsNull v → IsWithin n (on_day f (as_day v))
null_day f n value.Null h = tt
null_day f n (value.Int k) h = absurd h
null_day f n (value.Day day) h = absurd h
null_day f n (value.Bytes bytes) h = absurd h

own_day : (f : ℤ → ℤ) (n : ℕ) (v : Value) → IsPart f n → IsDay v → IsWithin n (on_day f (as_day v))
own_day f n value.Null p h = tt
own_day f n (value.Int k) p h = absurd h
own_day f n (value.Day day) p h = p.within day h
own_day f n (value.Bytes bytes) p h = absurd h

text_day : (f : ℤ → ℤ) (n : ℕ) (v : Value) → IsPart f n → IsDayText v → IsWithin n (on_day f (as_day v))
text_day f n value.Null p h = absurd h
text_day f n (value.Int k) p h = absurd h
text_day f n (value.Day day) p h = absurd h
text_day f n (value.Bytes bytes) p h = by_day (day_of bytes) refl
  where
    by_day : (o : Option ℤ) → day_of bytes ≡ o → IsWithin n (on_day f (day_or_null o))
    by_day (Some day) e = let spelled = day_of-spells bytes day e in p.within day spelled.fits
    by_day None e = tt

part_agrees : (f : ℤ → ℤ) (n : ℕ) (s : Shape) (b : ℕ) (v : Value) → IsPart f n → AgreesBy s b v → IfOk (day_part n s) (λ found. Agrees found (on_day f (as_day v)))
part_agrees f n shape.Null b v p h = record { by = null_day f n v h; narrow = p.narrow }
part_agrees f n shape.Number b v p h = tt
part_agrees f n shape.Signed b v p h = tt
part_agrees f n shape.Wide b v p h = tt
part_agrees f n shape.Day b v p h = record { by = own_day f n v p h; narrow = p.narrow }
part_agrees f n shape.DayText b v p h = record { by = text_day f n v p h; narrow = p.narrow }
part_agrees f n shape.OtherText b v p h = tt
part_agrees f n shape.Bytes b v p h = tt

year_part : (day : ℤ) → FitsDate day → unsigned_abs (part_of_day func.Year day) ≤ 9999
year_part day h = let p = are_parts day h in p.year.1

month_part : (day : ℤ) → FitsDate day → unsigned_abs (part_of_day func.Month day) ≤ 12
month_part day h = let p = are_parts day h in p.month.1

day_of_month_part : (day : ℤ) → FitsDate day → unsigned_abs (part_of_day func.DayOfMonth day) ≤ 31
day_of_month_part day h = let p = are_parts day h in p.day_of_month.1

day_of_year_part : (day : ℤ) → FitsDate day → unsigned_abs (part_of_day func.DayOfYear day) ≤ 366
day_of_year_part day h = let p = are_parts day h in p.place.1

day_of_week_part : (day : ℤ) → FitsDate day → unsigned_abs (part_of_day func.DayOfWeek day) ≤ 7
day_of_week_part day h = let p = are_parts day h in let low = p.sunday.0 in let high = p.sunday.1 in between_six (days_after_sunday day) low high
  where
    between_six : (z : ℤ) → pos 0 ≤ℤ z → z ≤ℤ pos 6 → unsigned_abs (z +ℤ pos 1) ≤ 7
    between_six z low high = omega (arith, ints)

weekday_part : (day : ℤ) → FitsDate day → unsigned_abs (part_of_day func.Weekday day) ≤ 6
weekday_part day h = let p = are_parts day h in let low = p.monday.0 in let high = p.monday.1 in up_to_six (days_after_monday day) low high
  where
    up_to_six : (z : ℤ) → pos 0 ≤ℤ z → z ≤ℤ pos 6 → unsigned_abs z ≤ 6
    up_to_six z low high = omega (arith, ints)

quarter_part : (day : ℤ) → FitsDate day → unsigned_abs (part_of_day func.Quarter day) ≤ 4
quarter_part day h = let p = are_parts day h in p.quarter.1

to_days_part : (day : ℤ) → FitsDate day → unsigned_abs (part_of_day func.ToDays day) ≤ 3_652_424
to_days_part day h = let low = h.0 in let high = h.1 in omega (arith, ints)

pub call_agrees : (f : Func) (part : Found) (v : Value) → Agrees part v → IfOk (call_finding f part) (λ found. Agrees found (call f v))
call_agrees func.Abs part v h = absolute_agrees part v h
call_agrees func.Year part v h = part_agrees (part_of_day func.Year) 9999 part.shape part.bound v (record { within = year_part; narrow = omega arith }) h.by
call_agrees func.Month part v h = part_agrees (part_of_day func.Month) 12 part.shape part.bound v (record { within = month_part; narrow = omega arith }) h.by
call_agrees func.DayOfMonth part v h = part_agrees (part_of_day func.DayOfMonth) 31 part.shape part.bound v (record { within = day_of_month_part; narrow = omega arith }) h.by
call_agrees func.DayOfYear part v h = part_agrees (part_of_day func.DayOfYear) 366 part.shape part.bound v (record { within = day_of_year_part; narrow = omega arith }) h.by
call_agrees func.DayOfWeek part v h = part_agrees (part_of_day func.DayOfWeek) 7 part.shape part.bound v (record { within = day_of_week_part; narrow = omega arith }) h.by
call_agrees func.Weekday part v h = part_agrees (part_of_day func.Weekday) 6 part.shape part.bound v (record { within = weekday_part; narrow = omega arith }) h.by
call_agrees func.Quarter part v h = part_agrees (part_of_day func.Quarter) 4 part.shape part.bound v (record { within = quarter_part; narrow = omega arith }) h.by
call_agrees func.ToDays part v h = part_agrees (part_of_day func.ToDays) 3_652_424 part.shape part.bound v (record { within = to_days_part; narrow = omega arith }) h.by

pub agrees_day : (s : Shape) (b : ℕ) (v : Value) → AgreesBy s b v → FitsDay v
agrees_day s b value.Null h = tt
agrees_day s b (value.Int n) h = tt
agrees_day shape.Day b (value.Day day) h = h
agrees_day shape.Null b (value.Day day) h = absurd h
agrees_day shape.Number b (value.Day day) h = absurd h
agrees_day shape.Signed b (value.Day day) h = absurd h
agrees_day shape.Wide b (value.Day day) h = absurd h
agrees_day shape.DayText b (value.Day day) h = absurd h
agrees_day shape.OtherText b (value.Day day) h = absurd h
agrees_day shape.Bytes b (value.Day day) h = absurd h
agrees_day s b (value.Bytes bytes) h = tt

number_within : (s : Shape) (b : ℕ) (n : ℤ) → AgreesBy s b (value.Int n) → unsigned_abs n ≤ b
number_within shape.Null b n h = absurd h
number_within shape.Number b n h = omega arith
number_within shape.Signed b n h = omega arith
number_within shape.Wide b n h = h
number_within shape.Day b n h = absurd h
number_within shape.DayText b n h = absurd h
number_within shape.OtherText b n h = absurd h
number_within shape.Bytes b n h = absurd h

-- a number that agrees has 128 bits
pub agrees_fits : (found : Found) (v : Value) → Agrees found v → FitsWide v
agrees_fits found value.Null h = tt
agrees_fits found (value.Int n) h = fits_within found.bound (value.Int n) h.narrow (number_within found.shape found.bound n h.by)
agrees_fits found (value.Day day) h = tt
agrees_fits found (value.Bytes bytes) h = tt

-- ---- the cell of a column, in a loop

pub cell_here : (name : List ℕ) (columns : List Column) (cells : List Value) (at : ℕ) (column : Column) (cell : Value) → at < length columns → at < length cells
    → column ≡ get_or columns at column → cell ≡ get_or cells at cell → is_named name column ≡ true → cell_named name (drop at columns) (drop at cells) ≡ cell
cell_here name columns cells at column cell first second this that named =
    ap (λ (cs : List Column). cell_named name cs (drop at cells)) (drop_at_item columns at column first this)
    ∙ ap (λ (vs : List Value). cell_named name (column ∷ drop (at + 1) columns) vs) (drop_at_item cells at cell second that) ∙ rw named refl

pub cell_further : (name : List ℕ) (columns : List Column) (cells : List Value) (at : ℕ) (column : Column) → at < length columns → at < length cells
    → column ≡ get_or columns at column → is_named name column ≡ false → cell_named name (drop at columns) (drop at cells) ≡ cell_named name (drop (at + 1) columns) (drop (at + 1) cells)
cell_further name columns cells at column first second this other =
    ap (λ (cs : List Column). cell_named name cs (drop at cells)) (drop_at_item columns at column first this)
    ∙ ap (λ (vs : List Value). cell_named name (column ∷ drop (at + 1) columns) vs) (drop_more cells at value.Null second) ∙ rw other refl
