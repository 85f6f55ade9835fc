-- In the shape of the code: columns and keys of a text, item by item. Nothing public cites these.
use Rattle.std.specs.Prelude.{ℕ, ◌+◌, ◌-◌, ◌*◌, ◌^◌, ℤ, pos, neg_ℤ, Bool, true, false, not, ◌&&◌, ◌||◌, ◌==◌, min, is_none, List, [], ◌∷◌, Option, Some, None, if◌then◌else◌}
use Rattle.std.specs.List.{list_any}
use Rattle.std.specs.Option.{option_map, option_or}
use Rattle.pt_value.specs.Fits.{fits_date}
use Rattle.pt_value.specs.declared.value.Value.TheVariants as value
use Rattle.pt_value.specs.declared.value.Kind.{Kind}
use Rattle.pt_value.specs.declared.value.Kind.TheVariants as kind
use Rattle.pt_ast.specs.declared.table.Column.{Column}
use Rattle.pt_ast.specs.declared.table.TableDef.{TableDef}
use Rattle.pt_ast.specs.declared.written.PartSpec.{PartSpec}
use Rattle.pt_ast.specs.declared.table.Rank.{Rank}
use Rattle.pt_ast.specs.declared.refusal.Arg.TheVariants as arg
use Rattle.pt_ast.specs.declared.refusal.Refusal.{Refusal}
use Rattle.pt_ast.specs.declared.refusal.Refusal.TheVariants as refusal
use Rattle.pt_ast.specs.declared.written.KindSpec.{KindSpec}
use Rattle.pt_ast.specs.declared.written.KindSpec.TheVariants as spec
use Rattle.pt_ast.specs.declared.written.Literal.{Literal}
use Rattle.pt_ast.specs.declared.written.Literal.TheVariants as literal
use Rattle.pt_place.specs.Checks.{is_default_out, is_default_wrong, is_primary_rank, key_of_none, lacking_key, sub_of_number, too_many}
use Rattle.pt_written.specs.Complete.{bad_list, bad_main, bad_sub, defined, is_without_written, other_written_subs}
use Rattle.pt_place.specs.First.{first_in, first_of, refused_if}
use Rattle.pt_place.specs.Fitting.{is_in_range}
use Rattle.pt_written.specs.Written.{KeyText, constant, integer_in, is_bad_constant, kind_of, natural_in, places_of}
use Rattle.pt_written.specs.WrittenParts.{part_count, sub_count}

-- a constant that is a date text of no date, or too large for a column
abbrev pub is_out : KindSpec → Literal → Bool
is_out written literal = is_bad_constant (kind_of written) (Some literal) || is_default_out (kind_of written) (constant (kind_of written) literal)

-- a constant of another kind than a column, or NULL in a NOT NULL column
abbrev pub is_wrong : KindSpec → Bool → Literal → Bool
is_wrong written not_null literal = is_default_wrong (kind_of written) not_null (constant (kind_of written) literal)

abbrev pub is_integer : KindSpec → Bool
is_integer spec.Int = true
is_integer spec.BigInt = true
is_integer _ = false

abbrev pub is_binary : KindSpec → Bool
is_binary (spec.Binary most) = true
is_binary _ = false

-- a column has room for a number with this sign
abbrev pub has_room : Kind → Bool → ℤ → Bool
has_room k minus n = is_in_range k (value.Int (if minus then neg_ℤ n else n))

-- a number that it has no room for, where there is a number
abbrev pub is_beyond : KindSpec → Option (Bool × ℤ) → Bool
is_beyond written (Some number) = not (has_room (kind_of written) number.0 number.1)
is_beyond written None = false

abbrev pub int_room : Bool → ℤ → Bool
int_room minus n = has_room kind.Int minus n

abbrev pub big_room : Bool → ℤ → Bool
big_room minus n = has_room kind.BigInt minus n

abbrev pub is_text_out : KindSpec → List ℕ → Bool
is_text_out written bytes = is_out written (literal.Text bytes)

abbrev pub is_date_out : List ℕ → Bool
is_date_out bytes = is_text_out spec.Date bytes

abbrev pub are_bytes_out : KindSpec → List ℕ → Bool
are_bytes_out written bytes = not (is_in_range (kind_of written) (value.Bytes bytes))

-- a text that is no integer, in an integer column
abbrev pub is_text_wrong : KindSpec → List ℕ → Bool
is_text_wrong written bytes = is_integer written && is_none (integer_in bytes)

-- a day that a date column has room for
abbrev pub is_day : Option ℤ → Bool
is_day (Some day) = fits_date day
is_day None = false

-- ---- numbers that digits write, cut at 2^64 - 1, which is beyond each range

abbrev pub cut : ℕ → ℕ
cut n = min n (2 ^ 64 - 1)

abbrev pub digit_step : ℕ → ℕ → ℕ
digit_step n digit = n * 10 + (digit - 48)

abbrev pub cut_step : ℕ → ℕ → ℕ
cut_step n digit = cut (digit_step n digit)

-- with a minus or without
abbrev pub sign : Bool → Option ℕ → Option (Bool × ℤ)
sign minus size = option_map (λ n. (minus, pos (cut n))) size

-- whether there is a minus, and the number without it
abbrev pub sized : List ℕ → Option (Bool × ℤ)
sized [] = None
sized (b ∷ bytes) = if b == 45 then sign true (natural_in bytes) else sign false (natural_in (b ∷ bytes))

-- ---- KEY

-- the columns that it names, else these
abbrev pub key_numbers : List Column → List ℕ → List (List ℕ) → List ℕ
key_numbers columns instead [] = instead
key_numbers columns instead (name ∷ names) = places_of columns (name ∷ names)

-- ---- keys, where a primary key stands before or not

abbrev pub bad_key_after : List Column → Bool → Rank → List (List ℕ) → Option Refusal
bad_key_after columns seen rank names = option_or (bad_list columns names) (refused_if (is_primary_rank rank && seen) (refusal.DuplicateColumn arg.Primary))

abbrev pub bad_keys_after : List Column → Bool → List KeyText → Option Refusal
bad_keys_after columns seen [] = None
bad_keys_after columns seen (key ∷ keys) = option_or (bad_key_after columns seen key.rank key.columns) (bad_keys_after columns (seen || is_primary_rank key.rank) keys)

abbrev pub is_primary_text : KeyText → Bool
is_primary_text key = is_primary_rank key.rank

abbrev pub has_primary_text : List KeyText → Bool
has_primary_text keys = list_any is_primary_text keys

-- ---- the checks of a partitioning before its partitions are made

-- what a table is partitioned by, as written beside as it is made
abbrev pub bad_written_kinds : List ℕ → TableDef → PartSpec → Option Refusal
bad_written_kinds table def spec = first_of (
    sub_of_number table def.by def.sub
    ∷ key_of_none def.by
    ∷ key_of_none def.sub
    ∷ bad_main table def.columns spec.main
    ∷ bad_sub table def.columns spec.sub
    ∷ lacking_key def.columns def.keys def.by def.sub
    ∷ [])

-- numbers of partitions and subpartitions
abbrev pub bad_written_counts : List ℕ → PartSpec → Option Refusal
bad_written_counts table spec = first_of (
    refused_if (is_without_written spec) (refusal.NoPartitions table)
    ∷ too_many (part_count spec * sub_count spec)
    ∷ first_in (other_written_subs spec) (defined spec)
    ∷ [])
