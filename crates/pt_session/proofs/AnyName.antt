-- Whether a definition is valid doesn't turn on the name of its table.
use Rattle.std.proofs.Common.{◌≡◌, ℕ, Bool, true, false, true≢false, List, is_some, Option, Some, None, refl, sym, ap, ◌∙◌}
use Rattle.std.specs.Prelude.{Ok, Err}
use Rattle.std.specs.Option.{option_or}
use Rattle.pt_ast.specs.declared.table.Column.{Column}
use Rattle.pt_ast.specs.declared.table.PartBy.{PartBy}
use Rattle.pt_ast.specs.declared.table.PartBy.TheVariants as by
use Rattle.pt_ast.specs.declared.table.TableDef.{TableDef}
use Rattle.pt_ast.specs.declared.refusal.Refusal.{Refusal}
use Rattle.pt_ast.specs.declared.refusal.Refusal.TheVariants as refusal
use Rattle.pt_place.specs.Checks.{key_of_none, lacking_key, of_finding, sub_of_number}
use Rattle.pt_place.specs.First.{refused_if}
use Rattle.pt_place.specs.Valid.{IsValid, bad_by, bad_items, bad_kinds, bad_parts, is_without_parts, refusal_of}

or_alike : (a b c d : Option Refusal) → (a ≡ None → c ≡ None) → (b ≡ None → d ≡ None) → option_or a b ≡ None → option_or c d ≡ None
or_alike (Some r) b c d f g h = let bad : Some r ≡ None = h in cc
or_alike None b c d f g h = rw (f refl) (g h)

refused_alike : (t : Bool) (r s : Refusal) → refused_if t r ≡ None → refused_if t s ≡ None
refused_alike true r s h = let bad : Some r ≡ None = h in cc
refused_alike false r s h = refl

module _ (a b : List ℕ) where
  expr_alike : (names : Bool) (found : _) → of_finding a names found ≡ None → of_finding b names found ≡ None
  expr_alike names (Err fault) h = cc
  expr_alike names (Ok kind) h = refused_alike _ (refusal.BadFunction a) (refusal.BadFunction b) h

  by_alike : (columns : List Column) (kind : PartBy) → bad_by a columns kind ≡ None → bad_by b columns kind ≡ None
  by_alike columns by.Whole h = h
  by_alike columns (by.Range expr) h = expr_alike _ _ h
  by_alike columns (by.List expr) h = expr_alike _ _ h
  by_alike columns (by.RangeColumns numbers) h = h
  by_alike columns (by.ListColumns numbers) h = h
  by_alike columns (by.Hash linear expr) h = expr_alike _ _ h
  by_alike columns (by.Key linear numbers) h = h

  module _ (def : TableDef) where
    kinds_alike : bad_kinds a def ≡ None → bad_kinds b def ≡ None
    kinds_alike =
        let same : (o : Option Refusal) → o ≡ None → o ≡ None = λ o h. h in
        let lacking : Option Refusal = option_or (lacking_key def.columns def.keys def.by def.sub) None in
        or_alike (sub_of_number a def.by def.sub) _ (sub_of_number b def.by def.sub) _ (refused_alike _ (refusal.OnlyRangeList a) (refusal.OnlyRangeList b))
        (or_alike (key_of_none def.by) _ (key_of_none def.by) _ (same (key_of_none def.by))
        (or_alike (key_of_none def.sub) _ (key_of_none def.sub) _ (same (key_of_none def.sub))
        (or_alike (bad_by a def.columns def.by) _ (bad_by b def.columns def.by) _ (by_alike def.columns def.by)
        (or_alike (bad_by a def.columns def.sub) lacking (bad_by b def.columns def.sub) lacking (by_alike def.columns def.sub) (same lacking)))))

    parts_alike : bad_parts a def ≡ None → bad_parts b def ≡ None
    parts_alike =
        or_alike (refused_if (is_without_parts def.by def.sub def.parts) (refusal.NoPartitions a)) _ (refused_if (is_without_parts def.by def.sub def.parts) (refusal.NoPartitions b)) _
        (refused_alike _ (refusal.NoPartitions a) (refusal.NoPartitions b)) (λ h. h)

    alike : refusal_of a def ≡ None → refusal_of b def ≡ None
    alike =
        or_alike (bad_items def) (option_or (bad_kinds a def) (option_or (bad_parts a def) None)) (bad_items def) (option_or (bad_kinds b def) (option_or (bad_parts b def) None)) (λ h. h)
        (or_alike (bad_kinds a def) (option_or (bad_parts a def) None) (bad_kinds b def) (option_or (bad_parts b def) None) kinds_alike
        (or_alike (bad_parts a def) None (bad_parts b def) None parts_alike (λ h. h)))

-- a definition that is refused under one name is valid under none
pub none_valid : (name : List ℕ) (def : TableDef) (found : Option Refusal) → found ≡ refusal_of name def → is_some found ≡ true → IsValid def → ⊥
none_valid name def found is some valid = true≢false (sym some ∙ ap is_some (is ∙ alike valid.0 name def valid.1))
