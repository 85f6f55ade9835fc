-- The reading of partitionings, as functions on lists of symbols. (In the shape of the code.)
use Rattle.std.specs.Prelude.{ℕ, ℤ, List, [], ◌∷◌, Bool, true, false, Option, Some, None}
use Rattle.pt_ast.specs.declared.tree.Expr.{Expr}
use Rattle.pt_ast.specs.declared.written.BoundSpec.{BoundSpec}
use Rattle.pt_ast.specs.declared.written.BoundSpec.TheVariants as bound
use Rattle.pt_ast.specs.declared.written.Entry.{Entry}
use Rattle.pt_ast.specs.declared.written.Entry.TheVariants as entry
use Rattle.pt_ast.specs.declared.written.ValuesSpec.{ValuesSpec}
use Rattle.pt_ast.specs.declared.written.ValuesSpec.TheVariants as values
use Rattle.pt_ast.specs.declared.written.HashSpec.{HashSpec}
use Rattle.pt_ast.specs.declared.written.HashSpec.TheVariants as hash
use Rattle.pt_ast.specs.declared.written.MainSpec.{MainSpec}
use Rattle.pt_ast.specs.declared.written.MainSpec.TheVariants as main
use Rattle.pt_ast.specs.declared.written.SubSpec.{SubSpec}
use Rattle.pt_ast.specs.declared.written.PartItem.{PartItem}
use Rattle.pt_ast.specs.declared.written.PartSpec.{PartSpec}
use Rattle.pt_parse_expr.specs.declared.alphabet.Mark.TheVariants.{Open, In, Other}
use Rattle.pt_parse_expr.specs.declared.alphabet.Reserved.TheVariants as word
use Rattle.pt_parse_expr.specs.declared.alphabet.Symbol.TheVariants.{Fixed}
use Rattle.pt_parse_expr.specs.Grammar.{Symbols}
use Rattle.pt_parse_expr.specs.Reader.{Reading, Reader, mapped, or_else, many, close}
use Rattle.pt_parse_ddl.specs.declared.words.Keyword.{Keyword}
use Rattle.pt_parse_ddl.specs.declared.words.Keyword.TheVariants as keyword
use Rattle.pt_parse_ddl.specs.Steps.{and_then, if_read, optional, in_parens, tuple, named, numbered, worded}
use Rattle.pt_parse_ddl.specs.ColumnReader.{part_option}

-- ---- numbers and columns

unfoldable pub past_linear : Reader (Unit {0})
past_linear (Fixed (Other word.Linear) ∷ ts) = Some (tt, ts)
past_linear _ = None

unfoldable pub no_columns : Reader (List (List ℕ))
no_columns (Fixed Open ∷ ts) = close [] ts
no_columns _ = None

-- ( [name {, name}] )
unfoldable pub key_columns : Reader (List (List ℕ))
key_columns ts = or_else (no_columns ts) (tuple named ts)

unfoldable pub counted : Keyword → Reader ℤ
counted k ts = and_then (worded k ts) (λ u us. numbered us)

-- all options of a partition
abbrev pub past_options : Symbols → Symbols
past_options ts = (many part_option ts).1

abbrev pub count : Reader ℤ
count = counted keyword.Partitions

abbrev pub sub_count : Reader ℤ
sub_count = counted keyword.Subpartitions

unfoldable pub subpart : Reader (List ℕ)
subpart ts = and_then (worded keyword.Subpartition ts) (λ u us. and_then (named us) (λ name vs. Some (name, past_options vs)))

abbrev pub subparts : Reader (List (List ℕ))
subparts = tuple subpart

unfoldable pub less_than : Reader (Unit {0})
less_than ts = and_then (worded keyword.Less ts) (λ u us. worded keyword.Than us)

-- a list of two and more
abbrev pub two_or_more : {A : Type 0} → List A → Symbols → Reading (List A)
two_or_more [] ts = None
two_or_more (x ∷ []) ts = None
two_or_more (x ∷ y ∷ xs) ts = Some (x ∷ y ∷ xs, ts)

-- the same, with the place behind it
abbrev pub two_or_more_at : {A : Type 0} → List A → ℕ → Option (List A × ℕ)
two_or_more_at [] at = None
two_or_more_at (x ∷ []) at = None
two_or_more_at (x ∷ y ∷ xs) at = Some (x ∷ y ∷ xs, at)

abbrev pub by_key : Bool → Reader HashSpec
by_key is_linear ts = mapped (hash.Key is_linear) (key_columns ts)

abbrev pub with_subs : List ℕ → Option ValuesSpec → Option (List (List ℕ)) × Symbols → Reading PartItem
with_subs name spec p = Some (record { name = name; values = spec; subs = p.0 }, p.1)

abbrev pub with_values : List ℕ → Option ValuesSpec × Symbols → Reading PartItem
with_values name p = with_subs name p.0 (optional subparts (past_options p.1))

-- ---- over the reader of expressions

module _ (expr : Reader Expr) where
  abbrev pub by_hash : Bool → Reader HashSpec
  by_hash is_linear ts = and_then (worded keyword.Hash ts) (λ u us. mapped (hash.Hash is_linear) (in_parens expr us))

  unfoldable pub hash_of : Bool → Reader HashSpec
  hash_of is_linear (Fixed (Other word.Key) ∷ ts) = by_key is_linear ts
  hash_of is_linear ts = by_hash is_linear ts

  unfoldable pub hashed : Reader HashSpec
  hashed ts = if_read (past_linear ts) (λ u us. hash_of true us) (hash_of false ts)

  unfoldable pub ranged : Reader MainSpec
  ranged ts = if_read (worded keyword.Columns ts) (λ u us. mapped main.RangeColumns (tuple named us)) (mapped main.Range (in_parens expr ts))

  unfoldable pub among : Reader MainSpec
  among ts = if_read (worded keyword.Columns ts) (λ u us. mapped main.ListColumns (tuple named us)) (mapped main.List (in_parens expr ts))

  abbrev pub among_or_hashed : Reader MainSpec
  among_or_hashed ts = if_read (worded keyword.List ts) (λ u us. among us) (mapped main.Hash (hashed ts))

  unfoldable pub main_of : Reader MainSpec
  main_of (Fixed (Other word.Range) ∷ ts) = ranged ts
  main_of ts = among_or_hashed ts

  abbrev pub sub_counted : HashSpec → Option ℤ × Symbols → Reading SubSpec
  sub_counted h p = Some (record { hash = h; count = p.0 }, p.1)

  unfoldable pub sub_behind : Reader SubSpec
  sub_behind (Fixed (Other word.By) ∷ ts) = and_then (hashed ts) (λ h us. sub_counted h (optional sub_count us))
  sub_behind _ = None

  unfoldable pub sub_by : Reader SubSpec
  sub_by ts = and_then (worded keyword.Subpartition ts) (λ u us. sub_behind us)

  -- ---- partitions

  abbrev pub value_bound : Reader BoundSpec
  value_bound ts = mapped bound.Value (expr ts)

  unfoldable pub bound_of : Reader BoundSpec
  bound_of (Fixed (Other word.MaxValue) ∷ ts) = Some (bound.Max, ts)
  bound_of ts = value_bound ts

  unfoldable pub pair : Reader (List BoundSpec)
  pair ts = and_then (tuple bound_of ts) two_or_more

  unfoldable pub entry_of : Reader Entry
  entry_of ts = if_read (pair ts) (λ bs us. Some (entry.Many bs, us)) (mapped entry.One (bound_of ts))

  abbrev pub less_bounds : Reader ValuesSpec
  less_bounds ts = mapped values.Less (tuple bound_of ts)

  unfoldable pub less : Reader ValuesSpec
  less (Fixed (Other word.MaxValue) ∷ ts) = Some (values.LessMax, ts)
  less ts = less_bounds ts

  abbrev pub entries : Reader ValuesSpec
  entries ts = mapped values.Among (tuple entry_of ts)

  abbrev pub below : Reader ValuesSpec
  below ts = and_then (less_than ts) (λ u us. less us)

  unfoldable pub values_behind : Reader ValuesSpec
  values_behind (Fixed In ∷ ts) = entries ts
  values_behind ts = below ts

  unfoldable pub valued : Reader ValuesSpec
  valued (Fixed (Other word.Values) ∷ ts) = values_behind ts
  valued _ = None

  unfoldable pub part_behind : Reader PartItem
  part_behind ts = and_then (named ts) (λ name us. with_values name (optional valued us))

  unfoldable pub part_of : Reader PartItem
  part_of (Fixed (Other word.Partition) ∷ ts) = part_behind ts
  part_of _ = None

  -- ---- the whole

  abbrev pub parts_of : Reader (List PartItem)
  parts_of = tuple part_of

  abbrev pub with_parts : MainSpec → Option ℤ → Option SubSpec → Option (List PartItem) × Symbols → Reading PartSpec
  with_parts m n s p = Some (record { main = m; count = n; sub = s; parts = p.0 }, p.1)

  abbrev pub with_sub : MainSpec → Option ℤ → Option SubSpec × Symbols → Reading PartSpec
  with_sub m n p = with_parts m n p.0 (optional parts_of p.1)

  abbrev pub with_count : MainSpec → Option ℤ × Symbols → Reading PartSpec
  with_count m p = with_sub m p.0 (optional sub_by p.1)

  unfoldable pub part_behind_by : Reader PartSpec
  part_behind_by (Fixed (Other word.By) ∷ ts) = and_then (main_of ts) (λ m us. with_count m (optional count us))
  part_behind_by _ = None

  unfoldable pub part_by : Reader PartSpec
  part_by (Fixed (Other word.Partition) ∷ ts) = part_behind_by ts
  part_by _ = None
