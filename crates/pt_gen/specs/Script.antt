-- The generated script of n INSERTs, as the statements that its text spells:
--
--     CREATE TABLE gen (id BIGINT NOT NULL, v INT, PRIMARY KEY (id)) PARTITION BY HASH (id) PARTITIONS 4;
--     INSERT INTO gen VALUES (1, 1), (2, 4), .. (10, 3);
--     .. an INSERT of the next ten rows each
--     DELETE FROM gen WHERE id % 3 = 0;
--     ALTER TABLE gen COALESCE PARTITION 1;
--     ALTER TABLE gen ADD PARTITION PARTITIONS 2;
--     SELECT id FROM gen
use Rattle.std.specs.Prelude.{ℕ, ◌+◌, ◌*◌, ◌%◌, pos, false, List, [], ◌∷◌, ◌++◌, map, slice_index_or, Some, None, codes}
use Rattle.std.specs.List.{range_with_len}
use Rattle.pt_ast.specs.declared.table.Rank.TheVariants as rank
use Rattle.pt_ast.specs.declared.tree.Expr.{Expr}
use Rattle.pt_ast.specs.declared.tree.Expr.TheVariants as expr
use Rattle.pt_ast.specs.declared.tree.Cond.{Cond}
use Rattle.pt_ast.specs.declared.tree.Cond.TheVariants as cond
use Rattle.pt_ast.specs.declared.tree.Cmp.TheVariants as cmp
use Rattle.pt_ast.specs.declared.tree.Op.TheVariants as op
use Rattle.pt_ast.specs.declared.written.KindSpec.TheVariants as kind
use Rattle.pt_ast.specs.declared.written.ColOption.TheVariants as option
use Rattle.pt_ast.specs.declared.written.Item.{Item}
use Rattle.pt_ast.specs.declared.written.Item.TheVariants as item
use Rattle.pt_ast.specs.declared.written.HashSpec.TheVariants as hash
use Rattle.pt_ast.specs.declared.written.MainSpec.TheVariants as main
use Rattle.pt_ast.specs.declared.written.PartSpec.{PartSpec}
use Rattle.pt_ast.specs.declared.statement.ValueSpec.{ValueSpec}
use Rattle.pt_ast.specs.declared.statement.ValueSpec.TheVariants as value
use Rattle.pt_ast.specs.declared.statement.Tail.{Tail}
use Rattle.pt_ast.specs.declared.statement.Stmt.{Stmt}
use Rattle.pt_ast.specs.declared.statement.Stmt.TheVariants as stmt

-- the table and its columns
abbrev pub gen : List ℕ
gen = codes "gen"

abbrev pub id : List ℕ
id = codes "id"

abbrev pub v : List ℕ
v = codes "v"

abbrev pub number : ℕ → Expr
number n = expr.Number (pos n)

-- ---- CREATE TABLE

-- id BIGINT NOT NULL, v INT, PRIMARY KEY (id)
abbrev pub items : List Item
items =
    item.Column id kind.BigInt (option.NotNull ∷ [])
    ∷ item.Column v kind.Int []
    ∷ item.Key rank.Primary None (id ∷ [])
    ∷ []

-- PARTITION BY HASH (id) PARTITIONS 4
abbrev pub by_hash : PartSpec
by_hash = record { main = main.Hash (hash.Hash false (expr.Column id)); count = Some (pos 4); sub = None; parts = None }

abbrev pub created : Stmt
created = stmt.Create false gen (record { items = items; «by» = Some by_hash })

-- ---- INSERT

-- (i, (i · i) mod 97)
abbrev pub values : ℕ → List ValueSpec
values i = value.Value (number i) ∷ value.Value (number (i * i % 97)) ∷ []

-- the rows of 10k + 1 to 10k + 10
abbrev pub inserted : ℕ → Stmt
inserted k =
    stmt.Insert false (record {
      table = gen;
      parts = None;
      columns = None;
      rows = map values (range_with_len (10 * k + 1) 10);
    })

-- ---- the last four

-- a statement that takes the rows of this condition, and all where there is none
abbrev pub all_rows : Tail
all_rows = record { cond = None; order = []; limit = None }

-- id % 3 = 0
abbrev pub divided_by_three : Cond
divided_by_three = cond.Compare cmp.Eq (expr.Product (expr.Column id) ((op.Mod, number 3) ∷ [])) (number 0)

abbrev pub deleted : Stmt
deleted = stmt.Delete gen None (record all_rows { cond = Some divided_by_three })

abbrev pub selected : Stmt
selected = stmt.Select (record { items = Some (expr.Column id ∷ []); table = gen; parts = None; tail = all_rows })

abbrev pub last_four : List Stmt
last_four = deleted ∷ stmt.Coalesce gen (pos 1) ∷ stmt.AddCount gen (pos 2) ∷ selected ∷ []

-- ---- the script

-- its statements, with n INSERTs
abbrev pub script : ℕ → List Stmt
script n = created ∷ (map inserted (range_with_len 0 n) ++ last_four)

-- the one at i, from 0
unfoldable pub gen_statement : ℕ → ℕ → Stmt
gen_statement n i = slice_index_or (script n) i selected
