-- The symbols that definitions and changes of tables are written in: reserved words, names, and words that are reserved nowhere.
use Rattle.std.specs.Prelude.{◌≡◌, ℕ, Bool, true, List, ◌∷◌, codes}
use Rattle.std.specs.Str.{str_eq_ignore_ascii_case}
use Rattle.pt_parse_expr.specs.declared.alphabet.Mark.TheVariants.{Other}
use Rattle.pt_parse_expr.specs.declared.alphabet.Reserved.{Reserved}
use Rattle.pt_parse_expr.specs.declared.alphabet.Symbol.{Symbol}
use Rattle.pt_parse_expr.specs.declared.alphabet.Symbol.TheVariants.{Fixed, Word, Quoted}
use Rattle.pt_parse_expr.specs.Grammar.{Symbols}
use Rattle.pt_parse_ddl.specs.declared.words.Keyword.{Keyword}
use Rattle.pt_parse_ddl.specs.declared.words.Keyword.TheVariants as keyword

-- a reserved word
abbrev pub the : Reserved → Symbol
the word = Fixed (Other word)

-- a name: a word that isn't reserved, or a quoted name
pub data IsName : Symbols → List ℕ → Symbols → Type 0 where
  plain_name : {rest : Symbols} {x : List ℕ} → IsName (Word x ∷ rest) x rest
  quoted_name : {rest : Symbols} {x : List ℕ} → IsName (Quoted x ∷ rest) x rest

-- how a word that is reserved nowhere is spelled
abbrev pub spelling : Keyword → List ℕ
spelling keyword.Binary = codes "BINARY"
spelling keyword.Charset = codes "CHARSET"
spelling keyword.Coalesce = codes "COALESCE"
spelling keyword.Columns = codes "COLUMNS"
spelling keyword.Comment = codes "COMMENT"
spelling keyword.Date = codes "DATE"
spelling keyword.Engine = codes "ENGINE"
spelling keyword.Exchange = codes "EXCHANGE"
spelling keyword.Hash = codes "HASH"
spelling keyword.Less = codes "LESS"
spelling keyword.List = codes "LIST"
spelling keyword.Partitioning = codes "PARTITIONING"
spelling keyword.Partitions = codes "PARTITIONS"
spelling keyword.Remove = codes "REMOVE"
spelling keyword.Reorganize = codes "REORGANIZE"
spelling keyword.Subpartition = codes "SUBPARTITION"
spelling keyword.Subpartitions = codes "SUBPARTITIONS"
spelling keyword.Than = codes "THAN"
spelling keyword.Truncate = codes "TRUNCATE"
spelling keyword.Validation = codes "VALIDATION"

-- a name is that word, in any case of its letters
abbrev pub is_word : Keyword → List ℕ → Bool
is_word k name = str_eq_ignore_ascii_case name (spelling k)

-- A word that is reserved nowhere, not quoted. Each of them may be a name as well.
pub data IsWord (k : Keyword) : Symbols → Unit {0} → Symbols → Type 0 where
  word : {rest : Symbols} {name : List ℕ} → is_word k name ≡ true → IsWord k (Word name ∷ rest) tt rest
