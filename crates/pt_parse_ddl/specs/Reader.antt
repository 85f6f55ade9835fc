-- The reading of statements, as functions on lists of symbols. (In the shape of the code.)
use Rattle.std.specs.Prelude.{ℕ, List, [], ◌∷◌, drop, Bool, true, false, Option, Some, None}
use Rattle.pt_ast.specs.declared.tree.Expr.{Expr}
use Rattle.pt_ast.specs.declared.statement.Stmt.{Stmt}
use Rattle.pt_ast.specs.declared.statement.Stmt.TheVariants as stmt
use Rattle.pt_ast.specs.declared.written.Item.{Item}
use Rattle.pt_ast.specs.declared.written.PartSpec.{PartSpec}
use Rattle.pt_ast.specs.declared.written.TableSpec.{TableSpec}
use Rattle.pt_parse_expr.specs.declared.alphabet.Mark.TheVariants.{Other, Not}
use Rattle.pt_parse_expr.specs.declared.alphabet.Reserved.TheVariants as word
use Rattle.pt_parse_expr.specs.declared.alphabet.Symbol.TheVariants.{Fixed}
use Rattle.pt_parse_expr.specs.Grammar.{Symbols}
use Rattle.pt_parse_expr.specs.Reader.{Reading, Reader, mapped, many}
use Rattle.pt_parse_ddl.specs.Steps.{and_then, optional, tuple, named}
use Rattle.pt_parse_ddl.specs.ColumnReader.{table_option}
use Rattle.pt_parse_ddl.specs.KeyReader.{table_item}
use Rattle.pt_parse_ddl.specs.PartReader.{part_by}

-- ---- IF EXISTS and IF NOT EXISTS

unfoldable pub exists : Reader Bool
exists (Fixed (Other word.Exists) ∷ ts) = Some (true, ts)
exists _ = None

unfoldable pub not_exists : Reader Bool
not_exists (Fixed Not ∷ ts) = exists ts
not_exists _ = None

unfoldable pub if_exists : Reader Bool
if_exists (Fixed (Other word.If) ∷ ts) = exists ts
if_exists ts = Some (false, ts)

unfoldable pub if_not_exists : Reader Bool
if_not_exists (Fixed (Other word.If) ∷ ts) = not_exists ts
if_not_exists ts = Some (false, ts)

-- ---- statements

unfoldable pub dropped : Reader Stmt
dropped (Fixed (Other word.Table) ∷ ts) = and_then (if_exists ts) (λ if_there us. mapped (stmt.Drop if_there) (named us))
dropped _ = None

unfoldable pub shown_table : Reader Stmt
shown_table (Fixed (Other word.Table) ∷ ts) = mapped stmt.Show (named ts)
shown_table _ = None

unfoldable pub shown : Reader Stmt
shown (Fixed (Other word.Create) ∷ ts) = shown_table ts
shown _ = None

abbrev pub with_by : List Item → Option PartSpec × Symbols → Reading TableSpec
with_by items p = Some (record { items = items; «by» = p.0 }, p.1)

abbrev pub like : Bool → List ℕ → Reader Stmt
like only_new name ts = mapped (stmt.Like only_new name) (named ts)

-- over the reader of expressions
module _ (expr : Reader Expr) where
  abbrev pub behind_items : List Item → Symbols → Reading TableSpec
  behind_items items ts = with_by items (optional (part_by expr) (many table_option ts).1)

  unfoldable pub new_spec : Reader TableSpec
  new_spec ts = and_then (tuple table_item ts) behind_items

  abbrev pub created : Bool → List ℕ → Reader Stmt
  created only_new name ts = mapped (stmt.Create only_new name) (new_spec ts)

  unfoldable pub create_or_like : Bool → List ℕ → Reader Stmt
  create_or_like only_new name (Fixed (Other word.Like) ∷ ts) = like only_new name ts
  create_or_like only_new name ts = created only_new name ts

  unfoldable pub new_table : Reader Stmt
  new_table (Fixed (Other word.Table) ∷ ts) = and_then (if_not_exists ts) (λ only_new us. and_then (named us) (create_or_like only_new))
  new_table _ = None

  unfoldable pub statement : Reader Stmt
  statement (Fixed (Other word.Create) ∷ ts) = new_table ts
  statement (Fixed (Other word.Drop) ∷ ts) = dropped ts
  statement (Fixed (Other word.Show) ∷ ts) = shown ts
  statement _ = None

-- ---- the whole

abbrev pub at_end : {A : Type 0} → A → Symbols → Option A
at_end x [] = Some x
at_end x (t ∷ ts) = None

abbrev pub finished : {A : Type 0} → Reading A → Option A
finished (Some p) = at_end p.0 p.1
finished None = None

-- with the symbols behind a place, in place of the place
abbrev pub placed : {A : Type 0} → Symbols → Option (A × ℕ) → Reading A
placed all (Some p) = Some (p.0, drop p.1 all)
placed all None = None
