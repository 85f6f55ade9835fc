-- The files of rows that are given, one after the other.
use Rattle.std.proofs.Common.{◌≡◌, ℕ, ◌+◌, ◌<◌, List, [], ◌∷◌, ◌++◌, length, map, take, get_or, sym, ap, ap₂, ◌∙◌, subst, append-nil, append_assoc}
use Rattle.std.specs.List.{All}
use Rattle.std.proofs.lemmas.Grind.{flat_map-append}
use Rattle.std.proofs.lemmas.List.{map-append, take_more}
use Rattle.std.proofs.lemmas.List.Elements.{All-more}
use Rattle.pt_host.specs.Listed.{FileList}
use Rattle.pt_ast.specs.declared.database.Row.{Row}
use Rattle.pt_ast.specs.declared.database.Spot.{Spot}
use Rattle.pt_ast.specs.declared.table.TableDef.{TableDef}
use Rattle.pt_rowfile.specs.declared.record.Record.TheVariants.{Put}
use Rattle.pt_rowfile.specs.Records.{IsRecord, record_bytes}
use Rattle.pt_holds.specs.Acts.{AreRecords, rows_text}
use Rattle.pt_holds.specs.Holds.{spot_file}
use Rattle.pt_session.specs.Shaping.{given_file}

-- one row more
pub text_more : (rows : List Row) (k : ℕ) (row : Row) (text more : List ℕ) → k < length rows → row ≡ get_or rows k row → (text ≡ rows_text (take k rows)) × All (λ (r : Row). IsRecord (Put r)) (take k rows)
    → more ≡ text ++ record_bytes (Put row) → IsRecord (Put row) → (more ≡ rows_text (take (k + 1) rows)) × All (λ (r : Row). IsRecord (Put r)) (take (k + 1) rows)
text_more rows k row text more within is before put record_is = (
  put
      ∙ ap₂ (λ (a : List ℕ) (r : Row). a ++ record_bytes (Put r)) before.0 is
      ∙ ap (λ (last : List ℕ). rows_text (take k rows) ++ last) (sym (append-nil (record_bytes (Put (get_or rows k row)))))
      ∙ sym (ap rows_text (take_more rows k row within) ∙ flat_map-append (λ (r : Row). record_bytes (Put r)) (take k rows) (get_or rows k row ∷ [])),
  All-more (λ (r : Row). IsRecord (Put r)) rows k row within before.1 (subst (λ (r : Row). IsRecord (Put r)) is record_is),
)

-- one spot more
module _ (name : List ℕ) (def : TableDef) (fresh : List (Spot × List Row)) (k : ℕ) (item : Spot × List Row) (within : k < length fresh) (is : item ≡ get_or fresh k item) where
  pub given_more : (initial files later : FileList) (file text : List ℕ) (rows : List Row) → rows ≡ item.1 → text ≡ rows_text rows → All (λ (r : Row). IsRecord (Put r)) rows → file ≡ spot_file name def item.0
      → later ≡ files ++ (file, text) ∷ [] → (files ≡ initial ++ map (given_file name def) (take k fresh)) × All AreRecords (take k fresh)
      → (later ≡ initial ++ map (given_file name def) (take (k + 1) fresh)) × All AreRecords (take (k + 1) fresh)
  given_more initial files later file text rows same text_is records file_is push before = (
    push
        ∙ ap (λ (front : FileList). front ++ (file, text) ∷ []) before.0
        ∙ append_assoc initial (map (given_file name def) (take k fresh)) ((file, text) ∷ [])
        ∙ ap (λ (last : List ℕ × List ℕ). initial ++ (map (given_file name def) (take k fresh) ++ last ∷ [])) entry
        ∙ ap (λ (files : FileList). initial ++ files) (sym (ap (map (given_file name def)) (take_more fresh k item within) ∙ map-append (given_file name def) (take k fresh) (get_or fresh k item ∷ []))),
    All-more AreRecords fresh k item within before.1 (subst (All (λ (r : Row). IsRecord (Put r))) (same ∙ ap (λ (i : Spot × List Row). i.1) is) records),
  )
    where
      entry : (file, text) ≡ given_file name def (get_or fresh k item)
      entry = ap₂ (λ (a b : List ℕ). (a, b)) (file_is ∙ ap (λ (i : Spot × List Row). spot_file name def i.0) is) (text_is ∙ ap rows_text (same ∙ ap (λ (i : Spot × List Row). i.1) is))
