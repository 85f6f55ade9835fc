-- The words and the signs of the grammar. Words ignore ASCII case.
use Rattle.std.specs.Prelude.{ℕ, List, [], ◌∷◌, codes}
use Rattle.pt_ast.specs.declared.tree.Cmp.TheVariants.{Eq, Ne, Lt, Le, Gt, Ge}
use Rattle.pt_ast.specs.declared.tree.Func.{Func}
use Rattle.pt_ast.specs.declared.tree.Func.TheVariants as func
use Rattle.pt_parse_expr.specs.declared.alphabet.Mark.{Mark}
use Rattle.pt_parse_expr.specs.declared.alphabet.Mark.TheVariants.{Open, Close, Comma, Plus, Minus, Star, Percent, Compare, And, Between, Div, In, Is, Mod, Not, Null, Or, Other}
use Rattle.pt_parse_expr.specs.declared.alphabet.Reserved.TheVariants as word

-- The reserved words: they are no names unless they stand between backquotes. Each is reserved by the manual's chapter "Keywords
-- and Reserved Words" too, which has more.
abbrev pub reserved_words : List (List ℕ × Mark)
reserved_words =
    (codes "ADD", Other word.Add) ∷ (codes "ALL", Other word.All) ∷ (codes "ALTER", Other word.Alter) ∷ (codes "AND", And)
    ∷ (codes "ASC", Other word.Asc) ∷ (codes "BETWEEN", Between) ∷ (codes "BIGINT", Other word.BigInt) ∷ (codes "BY", Other word.By)
    ∷ (codes "CHARACTER", Other word.Character) ∷ (codes "CREATE", Other word.Create) ∷ (codes "DEFAULT", Other word.Default)
    ∷ (codes "DELETE", Other word.Delete) ∷ (codes "DESC", Other word.Desc) ∷ (codes "DIV", Div) ∷ (codes "DROP", Other word.Drop)
    ∷ (codes "EXISTS", Other word.Exists) ∷ (codes "EXPLAIN", Other word.Explain) ∷ (codes "FROM", Other word.From)
    ∷ (codes "GROUP", Other word.Group) ∷ (codes "IF", Other word.If) ∷ (codes "IGNORE", Other word.Ignore) ∷ (codes "IN", In)
    ∷ (codes "INDEX", Other word.Index) ∷ (codes "INSERT", Other word.Insert) ∷ (codes "INT", Other word.Int)
    ∷ (codes "INTEGER", Other word.Integer) ∷ (codes "INTO", Other word.Into) ∷ (codes "IS", Is) ∷ (codes "KEY", Other word.Key)
    ∷ (codes "LIKE", Other word.Like) ∷ (codes "LIMIT", Other word.Limit) ∷ (codes "LINEAR", Other word.Linear)
    ∷ (codes "MAXVALUE", Other word.MaxValue) ∷ (codes "MOD", Mod) ∷ (codes "NOT", Not) ∷ (codes "NULL", Null) ∷ (codes "OR", Or)
    ∷ (codes "ORDER", Other word.Order) ∷ (codes "PARTITION", Other word.Partition) ∷ (codes "PRIMARY", Other word.Primary)
    ∷ (codes "RANGE", Other word.Range) ∷ (codes "REPLACE", Other word.Replace) ∷ (codes "SELECT", Other word.Select)
    ∷ (codes "SET", Other word.Set) ∷ (codes "SHOW", Other word.Show) ∷ (codes "TABLE", Other word.Table)
    ∷ (codes "UNIQUE", Other word.Unique) ∷ (codes "UPDATE", Other word.Update) ∷ (codes "VALUES", Other word.Values)
    ∷ (codes "VARBINARY", Other word.VarBinary) ∷ (codes "VARCHAR", Other word.VarChar) ∷ (codes "WHERE", Other word.Where)
    ∷ (codes "WITH", Other word.With) ∷ []

-- What each sign stands for; `<>` and `!=` are one. After the manual's topic "Comparison Functions and Operators".
abbrev pub sign_marks : List (List ℕ × Mark)
sign_marks =
    (codes "(", Open) ∷ (codes ")", Close) ∷ (codes ",", Comma)
    ∷ (codes "=", Compare Eq) ∷ (codes "<", Compare Lt) ∷ (codes ">", Compare Gt)
    ∷ (codes "<=", Compare Le) ∷ (codes ">=", Compare Ge) ∷ (codes "<>", Compare Ne) ∷ (codes "!=", Compare Ne)
    ∷ (codes "+", Plus) ∷ (codes "-", Minus) ∷ (codes "*", Star) ∷ (codes "%", Percent) ∷ []

-- The functions of one expression; DAY and DAYOFMONTH are one. After the manual's topics "Mathematical Functions" and "Date and
-- Time Functions".
abbrev pub function_names : List (List ℕ × Func)
function_names =
    (codes "ABS", func.Abs) ∷ (codes "YEAR", func.Year) ∷ (codes "MONTH", func.Month) ∷ (codes "DAY", func.DayOfMonth)
    ∷ (codes "DAYOFMONTH", func.DayOfMonth) ∷ (codes "DAYOFYEAR", func.DayOfYear) ∷ (codes "DAYOFWEEK", func.DayOfWeek)
    ∷ (codes "WEEKDAY", func.Weekday) ∷ (codes "QUARTER", func.Quarter) ∷ (codes "TO_DAYS", func.ToDays) ∷ []
