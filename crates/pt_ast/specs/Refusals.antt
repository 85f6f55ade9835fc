-- What a refusal prints: `error CODE NAME ARG`.
use Rattle.std.specs.Prelude.{ℕ, List, codes}
use Rattle.pt_ast.specs.declared.refusal.Arg.{Arg}
use Rattle.pt_ast.specs.declared.refusal.Arg.TheVariants.{Name, Number}
use Rattle.pt_ast.specs.declared.refusal.Refusal.{Refusal}
use Rattle.pt_ast.specs.declared.refusal.Refusal.TheVariants as refusal

pub record Listed : Type 0 where
  pub code : ℕ
  pub name : List ℕ
  pub arg : Arg

abbrev pub entry : ℕ → List ℕ → Arg → Listed
entry code name arg = record { code = code; name = name; arg = arg }

-- the table of refusals: codes below 10 are of reading, 10 to 19 of tables and rows, 30 to 39 of definitions, 40 and above of partitions
abbrev pub listed : Refusal → Listed
listed (refusal.Syntax piece) = entry 1 (codes "syntax") (Number piece)
listed (refusal.TooDeep piece) = entry 2 (codes "too_deep") (Number piece)
listed (refusal.LongName piece) = entry 3 (codes "long_name") (Number piece)
listed (refusal.TableExists name) = entry 10 (codes "table_exists") (Name name)
listed (refusal.NoSuchTable name) = entry 11 (codes "no_such_table") (Name name)
listed (refusal.NoSuchColumn name) = entry 12 (codes "no_such_column") (Name name)
listed (refusal.DuplicateColumn arg) = entry 13 (codes "duplicate_column") arg
listed (refusal.TypeMismatch arg) = entry 14 (codes "type_mismatch") arg
listed (refusal.TooWide arg) = entry 15 (codes "too_wide") arg
listed (refusal.OutOfRange arg) = entry 16 (codes "out_of_range") arg
listed (refusal.NullNotAllowed row) = entry 17 (codes "null_not_allowed") (Number row)
listed (refusal.WrongCount row) = entry 18 (codes "wrong_count") (Number row)
listed (refusal.DuplicateKey row) = entry 19 (codes "duplicate_key") (Number row)
listed (refusal.NotIncreasing name) = entry 30 (codes "not_increasing") (Name name)
listed (refusal.MaxvalueNotLast name) = entry 31 (codes "maxvalue_not_last") (Name name)
listed (refusal.ValueTwice name) = entry 32 (codes "value_twice") (Name name)
listed (refusal.DuplicatePartition name) = entry 33 (codes "duplicate_partition") (Name name)
listed (refusal.TooManyPartitions number) = entry 34 (codes "too_many_partitions") (Number number)
listed (refusal.KeyNeedsColumns arg) = entry 35 (codes "key_needs_columns") arg
listed (refusal.BadFunction name) = entry 36 (codes "bad_function") (Name name)
listed (refusal.WrongValues name) = entry 37 (codes "wrong_values") (Name name)
listed (refusal.NoPartitions name) = entry 38 (codes "no_partitions") (Name name)
listed (refusal.SubpartitionsDiffer name) = entry 39 (codes "subpartitions_differ") (Name name)
listed (refusal.NoPartition row) = entry 40 (codes "no_partition") (Number row)
listed (refusal.UnknownPartition name) = entry 41 (codes "unknown_partition") (Name name)
listed (refusal.NotInGivenSet row) = entry 42 (codes "not_in_given_set") (Number row)
listed (refusal.NotPartitioned name) = entry 43 (codes "not_partitioned") (Name name)
listed (refusal.OnlyRangeList name) = entry 44 (codes "only_range_list") (Name name)
listed (refusal.OnlyHashKey name) = entry 45 (codes "only_hash_key") (Name name)
listed (refusal.DropAll name) = entry 46 (codes "drop_all") (Name name)
listed (refusal.NotAdjacent name) = entry 47 (codes "not_adjacent") (Name name)
listed (refusal.RangeChanged name) = entry 48 (codes "range_changed") (Name name)
listed (refusal.CoalesceZero name) = entry 49 (codes "coalesce_zero") (Name name)
listed (refusal.OtherIsPartitioned name) = entry 51 (codes "other_is_partitioned") (Name name)
listed (refusal.TablesDiffer name) = entry 52 (codes "tables_differ") (Name name)
listed (refusal.RowNotInPartition row) = entry 53 (codes "row_not_in_partition") (Number row)
listed (refusal.UseSubpartition name) = entry 54 (codes "use_subpartition") (Name name)
listed (refusal.SerialsUsed row) = entry 55 (codes "serials_used") (Number row)
