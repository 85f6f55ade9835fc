-- The whole file: what is written is read, and what is read was written.
use Rattle.std.proofs.Common.{◌≡◌, ℕ, ◌≤◌, Bool, true, false, cond, ◌==◌, List, [], ◌++◌, length, refl, sym, ap, ap₂, ◌∙◌, subst, append-nil}
use Rattle.std.specs.Prelude.{Result, Ok, Err}
use Rattle.std.specs.List.{flat_map, AllByRecursion}
use Rattle.std.proofs.lemmas.Bool.{eqb-true}
use Rattle.std.proofs.lemmas.List.{nil_from_length}
use Rattle.pt_bytes.specs.Numbers.{AreBytes, le_bytes}
use Rattle.pt_ast.specs.declared.table.Column.{Column}
use Rattle.pt_ast.specs.declared.table.KeyDef.{KeyDef}
use Rattle.pt_ast.specs.declared.table.PartBy.{PartBy}
use Rattle.pt_ast.specs.declared.table.PartBy.TheVariants as by
use Rattle.pt_ast.specs.declared.table.PartDef.{PartDef}
use Rattle.pt_ast.specs.declared.table.TableDef.{TableDef}
use Rattle.pt_ast.specs.Storable.{HasAtLeast}
use Rattle.pt_defs.specs.Spelling.{behind_text, body_text, by_text, column_text, key_text, list_text, part_text}
use Rattle.pt_defs.specs.Reading.{◌>>=◌, Read, Reader, behind_at, body_at, by_at, column_at, count_at, key_at, list_at, many, part_def_at}
use Rattle.pt_defs.proofs.Steps.{Codec, Was, first, from_bind, in_row, last, one_ok, same_pair}
use Rattle.pt_defs.proofs.Items.{AreSoMany, IsCount, count, so_many}
use Rattle.pt_defs.proofs.Columns.{IsColumn, column}
use Rattle.pt_defs.proofs.Parts.{IsBy, IsPart, KeyIs, at_least, is_by, is_part, one_key}

-- ---- behind the partitioning

abbrev Behind : Type 0
Behind = PartBy × List PartDef

-- the subpartitioning and the partitions
abbrev parts_text : List Column → PartBy → Behind → List ℕ
parts_text columns main p = by_text columns p.0 ++ list_text (part_text main p.0) p.1

abbrev pair_text : List Column → PartBy → Behind → List ℕ
pair_text columns by.Whole p = []
pair_text columns main p = parts_text columns main p

behind_is : (def : TableDef) (main : PartBy) → behind_text def main ≡ pair_text def.columns main (def.sub, def.parts)
unfolding behind_text
behind_is def by.Whole = refl
behind_is def (by.Range e) = refl
behind_is def (by.List e) = refl
behind_is def (by.RangeColumns numbers) = refl
behind_is def (by.ListColumns numbers) = refl
behind_is def (by.Hash linear e) = refl
behind_is def (by.Key linear numbers) = refl

module _ (columns : List Column) (few : length columns ≤ 1_000_000) (room : ℕ) where
  abbrev PartsIs : PartBy → Behind → Type 0
  PartsIs main p = IsBy columns few room false p.0 × HasAtLeast 0 p.1 × AllByRecursion (IsPart main p.0) p.1

  abbrev pub BehindIs : PartBy → Behind → Type 0
  BehindIs by.Whole p = (p.0 ≡ by.Whole) × (p.1 ≡ [])
  BehindIs main p = PartsIs main p

  abbrev sub_then : PartBy → PartBy × List ℕ → Read Behind
  sub_then main sub = list_at 0 (part_def_at main sub.0) sub.1 >>= λ (parts : List PartDef × List ℕ). Ok ((sub.0, parts.0), parts.1)

  abbrev parts_read : PartBy → Reader Behind
  parts_read main bytes = by_at false columns room bytes >>= sub_then main

  abbrev items : (main sub : PartBy) → Codec (list_at 0 (part_def_at main sub)) (list_text (part_text main sub)) (λ xs. HasAtLeast 0 xs × AllByRecursion (IsPart main sub) xs)
  items main sub = at_least 0 (part_def_at main sub) (part_text main sub) (IsPart main sub) (is_part main sub)

  parts_complete : (main : PartBy) (p : Behind) (rest : List ℕ) → PartsIs main p → parts_read main (parts_text columns main p ++ rest) ≡ Ok (p, rest)
  parts_complete main p rest is = first (is_by columns few room false) p.0 _ rest (sub_then main) is.0 ∙ last (items main p.0) p.1 rest _ (is.1, is.2)

  parts_sound : (main : PartBy) (bytes : List ℕ) (p : Behind) (rest : List ℕ) → AreBytes bytes → parts_read main bytes ≡ Ok (p, rest) → Was (PartsIs main) (parts_text columns main) bytes p rest
  parts_sound main bytes p rest are e =
      let a = from_bind (sub_then main) (by_at false columns room bytes) (p, rest) e in
      let s = (is_by columns few room false).sound bytes a.0.0 a.0.1 are a.1 in
      let b = from_bind _ (list_at 0 (part_def_at main a.0.0) a.0.1) (p, rest) a.2 in
      let t = (items main a.0.0).sound a.0.1 b.0.0 b.0.1 s.are b.1 in
      let q : Behind × List ℕ = ((a.0.0, b.0.0), b.0.1) in
      same_pair (PartsIs main) (parts_text columns main) bytes q (p, rest) (one_ok q (p, rest) b.2)
      (record { is = (s.is, t.is.0, t.is.1); text_is = in_row bytes (by_text columns a.0.0) a.0.1 (list_text (part_text main a.0.0) b.0.0) b.0.1 s.text_is t.text_is; are = t.are })

  none_complete : (p : Behind) (rest : List ℕ) → (p.0 ≡ by.Whole) × (p.1 ≡ []) → ◌≡◌ {A = Read Behind} (Ok ((by.Whole, []), rest)) (Ok (p, rest))
  none_complete p rest is = ap₂ (λ (a : PartBy) (b : List PartDef). Ok ((a, b), rest)) (sym is.0) (sym is.1)

  none_sound : (bytes : List ℕ) (p : Behind) (rest : List ℕ) → AreBytes bytes → ◌≡◌ {A = Read Behind} (Ok ((by.Whole, []), bytes)) (Ok (p, rest))
      → Was (λ p. (p.0 ≡ by.Whole) × (p.1 ≡ [])) (λ p. []) bytes p rest
  none_sound bytes p rest are e =
      let q : Behind × List ℕ = ((by.Whole, []), bytes) in
      same_pair (λ (p : Behind). (p.0 ≡ by.Whole) × (p.1 ≡ [])) (λ p. []) bytes q (p, rest) (one_ok q (p, rest) e) (record { is = (refl, refl); text_is = refl; are = are })

  behind : (main : PartBy) → Codec (behind_at columns room main) (pair_text columns main) (BehindIs main)
  unfolding behind_at
  behind by.Whole = record { complete = none_complete; sound = none_sound }
  behind (by.Range e) = record { complete = parts_complete (by.Range e); sound = parts_sound (by.Range e) }
  behind (by.List e) = record { complete = parts_complete (by.List e); sound = parts_sound (by.List e) }
  behind (by.RangeColumns numbers) = record { complete = parts_complete (by.RangeColumns numbers); sound = parts_sound (by.RangeColumns numbers) }
  behind (by.ListColumns numbers) = record { complete = parts_complete (by.ListColumns numbers); sound = parts_sound (by.ListColumns numbers) }
  behind (by.Hash linear e) = record { complete = parts_complete (by.Hash linear e); sound = parts_sound (by.Hash linear e) }
  behind (by.Key linear numbers) = record { complete = parts_complete (by.Key linear numbers); sound = parts_sound (by.Key linear numbers) }

-- ---- the body

pub record IsBody (room : ℕ) (def : TableDef) : Type 0 where
  pub some : IsCount 1 1_000_000 (length def.columns)
  pub few : length def.columns ≤ 1_000_000
  pub columns : AllByRecursion IsColumn def.columns
  pub keys : HasAtLeast 0 def.keys × AllByRecursion (KeyIs def.columns few) def.keys
  pub by : IsBy def.columns few room true def.by
  pub behind : BehindIs def.columns few room def.by (def.sub, def.parts)

abbrev so_many_columns : (n : ℕ) → Codec (many column_at n) (flat_map column_text) (AreSoMany column_at column_text IsColumn column n)
so_many_columns n = so_many column_at column_text IsColumn column n

abbrev keys_of : (columns : List Column) (few : length columns ≤ 1_000_000) → Codec (list_at 0 (key_at (length columns))) (list_text key_text) (λ xs. HasAtLeast 0 xs × AllByRecursion (KeyIs columns few) xs)
keys_of columns few = at_least 0 (key_at (length columns)) key_text (KeyIs columns few) (one_key columns few)

abbrev finish : List Column → List KeyDef → PartBy → Behind × List ℕ → Result TableDef ℕ
finish columns keys main p = cond (length p.1 == 0) (Ok (record { columns = columns; keys = keys; by = main; sub = p.0.0; parts = p.0.1 })) (Err (length p.1))

abbrev after_by : ℕ → List Column → List KeyDef → PartBy × List ℕ → Result TableDef ℕ
after_by room columns keys main = behind_at columns room main.0 main.1 >>= finish columns keys main.0

abbrev after_keys : ℕ → List Column → List KeyDef × List ℕ → Result TableDef ℕ
after_keys room columns keys = by_at true columns room keys.1 >>= after_by room columns keys.0

abbrev after_columns : ℕ → List Column × List ℕ → Result TableDef ℕ
after_columns room columns = list_at 0 (key_at (length columns.0)) columns.1 >>= after_keys room columns.0

abbrev after_count : ℕ → ℕ × List ℕ → Result TableDef ℕ
after_count room n = many column_at n.0 n.1 >>= after_columns room

pub body_complete : (room : ℕ) (def : TableDef) → IsBody room def → body_at room (body_text def) ≡ Ok def
unfolding body_at body_text list_text
body_complete room def is =
    let n = length def.columns in
    let keys = list_text key_text def.keys in
    let main = by_text def.columns def.by in
    let tail = behind_text def def.by in
    let none : tail ≡ pair_text def.columns def.by (def.sub, def.parts) ++ [] = behind_is def def.by ∙ sym (append-nil _) in
    first (count 1 1_000_000) n (flat_map column_text def.columns) (keys ++ (main ++ tail)) (after_count room) is.some
    ∙ last (so_many_columns n) def.columns (keys ++ (main ++ tail)) (after_columns room) (record { each = is.columns; number = refl })
    ∙ last (keys_of def.columns is.few) def.keys (main ++ tail) (after_keys room def.columns) is.keys
    ∙ last (is_by def.columns is.few room true) def.by tail (after_by room def.columns def.keys) is.by
    ∙ ap (λ (x : List ℕ). behind_at def.columns room def.by x >>= finish def.columns def.keys def.by) none
    ∙ last (behind def.columns is.few room def.by) (def.sub, def.parts) [] (finish def.columns def.keys def.by) is.behind

pub record WasBody (room : ℕ) (bytes : List ℕ) (def : TableDef) : Type 0 where
  pub is : IsBody room def
  pub text_is : bytes ≡ body_text def

from_finish : (columns : List Column) (keys : List KeyDef) (main : PartBy) (p : Behind × List ℕ) (def : TableDef) → finish columns keys main p ≡ Ok def
    → (p.1 ≡ []) × (◌≡◌ {A = TableDef} (record { columns = columns; keys = keys; by = main; sub = p.0.0; parts = p.0.1 }) def)
from_finish columns keys main p def e = go (length p.1 == 0) refl e
  where
    go : (b : Bool) → (length p.1 == 0) ≡ b → cond b (Ok (record { columns = columns; keys = keys; by = main; sub = p.0.0; parts = p.0.1 })) (Err (length p.1)) ≡ Ok def
        → (p.1 ≡ []) × (◌≡◌ {A = TableDef} (record { columns = columns; keys = keys; by = main; sub = p.0.0; parts = p.0.1 }) def)
    go true h f = (nil_from_length p.1 (eqb-true (length p.1) 0 h), one_ok _ def f)
    go false h f = absurd (let bad : ◌≡◌ {A = Result TableDef ℕ} (Err (length p.1)) (Ok def) = f in cc)

pub body_sound : (room : ℕ) (bytes : List ℕ) (def : TableDef) → AreBytes bytes → body_at room bytes ≡ Ok def → WasBody room bytes def
unfolding body_at body_text list_text
body_sound room bytes def are e =
    let a = from_bind (after_count room) (count_at 1 1_000_000 bytes) def e in
    let n = (count 1 1_000_000).sound bytes a.0.0 a.0.1 are a.1 in
    let b = from_bind (after_columns room) (many column_at a.0.0 a.0.1) def a.2 in
    let c = (so_many_columns a.0.0).sound a.0.1 b.0.0 b.0.1 n.are b.1 in
    let columns = b.0.0 in
    let some : IsCount 1 1_000_000 (length columns) = subst (IsCount 1 1_000_000) (sym c.is.number) n.is in
    let few : length columns ≤ 1_000_000 = some.1 in
    let d = from_bind (after_keys room columns) (list_at 0 (key_at (length columns)) b.0.1) def b.2 in
    let k = (keys_of columns few).sound b.0.1 d.0.0 d.0.1 c.are d.1 in
    let f = from_bind (after_by room columns d.0.0) (by_at true columns room d.0.1) def d.2 in
    let m = (is_by columns few room true).sound d.0.1 f.0.0 f.0.1 k.are f.1 in
    let g = from_bind (finish columns d.0.0 f.0.0) (behind_at columns room f.0.0 f.0.1) def f.2 in
    let t = (behind columns few room f.0.0).sound f.0.1 g.0.0 g.0.1 m.are g.1 in
    let h = from_finish columns d.0.0 f.0.0 g.0 def g.2 in
    let own : TableDef = record { columns = columns; keys = d.0.0; by = f.0.0; sub = g.0.0.0; parts = g.0.0.1 } in
    let tail : f.0.1 ≡ behind_text own f.0.0 = t.text_is ∙ ap (λ (x : List ℕ). pair_text columns f.0.0 g.0.0 ++ x) h.0 ∙ append-nil _ ∙ sym (behind_is own f.0.0) in
    subst (λ (x : TableDef). WasBody room bytes x) h.1
    (record {
      is = record { some = some; few = few; columns = c.is.each; keys = k.is; by = m.is; behind = t.is };
      text_is =
          in_row bytes (le_bytes 4 (length columns)) a.0.1 (flat_map column_text columns) b.0.1 (n.text_is ∙ ap (λ m. le_bytes 4 m ++ a.0.1) (sym c.is.number)) c.text_is
          ∙ ap (λ (x : List ℕ). list_text column_text columns ++ x)
          (k.text_is ∙ ap (λ (x : List ℕ). list_text key_text d.0.0 ++ x) (m.text_is ∙ ap (λ (x : List ℕ). by_text columns f.0.0 ++ x) tail));
    })
