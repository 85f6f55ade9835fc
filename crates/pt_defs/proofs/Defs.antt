-- A definition that is storable and fits its types is one whose body is read, and the other way round.
use Rattle.std.proofs.Common.{◌≡◌, ℕ, ◌≤◌, true, false, List, [], length, refl, sym, subst, arith, All, Option, Some, None, IfSome}
use Rattle.std.specs.List.{AllByRecursion}
use Rattle.std.proofs.lemmas.Bool.{true≢false}
use Rattle.std.proofs.lemmas.List.Elements.{All-from_recursion, recursion_from_All}
use Rattle.pt_value.specs.Ident.{IsIdent}
use Rattle.pt_value.specs.declared.value.Value.{Value}
use Rattle.pt_ast.specs.declared.tree.Expr.{Expr}
use Rattle.pt_ast.specs.declared.table.Column.{Column}
use Rattle.pt_ast.specs.declared.table.KeyDef.{KeyDef}
use Rattle.pt_ast.specs.declared.table.PartBy.{PartBy}
use Rattle.pt_ast.specs.declared.table.PartBy.TheVariants as by
use Rattle.pt_ast.specs.declared.table.Bound.{Bound}
use Rattle.pt_ast.specs.declared.table.PartDef.{PartDef}
use Rattle.pt_ast.specs.declared.table.TableDef.{TableDef}
use Rattle.pt_ast.specs.Storable.{HasAtLeast, IsCounted}
use Rattle.pt_ast.specs.StorableDef.{AreBoundsOf, AreSubsOf, IsKeptExpr, IsShortValue, IsStorableBy, IsStorableColumn, IsStorableDef, IsStorableKey, IsStorablePartDef, IsStorableTuple, IsSub, IsWholeAlone}
use Rattle.pt_defs.specs.Fitting.{FitsBound, FitsBy, FitsCell, FitsColumn, FitsDef, FitsExpr, FitsPart}
use Rattle.pt_defs.proofs.Columns.{IsCell, IsColumn}
use Rattle.pt_defs.proofs.Exprs.{Good, all_map}
use Rattle.pt_defs.proofs.Parts.{BoundsOf, GoodBy, IsBy, IsPart, MayBe, SubsOf, join_all, split_all}
use Rattle.pt_defs.proofs.Whole.{BehindIs, IsBody}

-- how deep an expression of a file nests at most
abbrev pub most_deep : ℕ
most_deep = 300

none_all : {A : Type 0} (P : A → Type 0) (xs : List A) → xs ≡ [] → All P xs
none_all P xs e = subst (λ ys. All P ys) (sym e) (λ k d lt. absurd (omega arith))

-- ---- columns

cells_in : (d : Option Value) → IfSome d IsShortValue → IfSome d FitsCell → IfSome d IsCell
cells_in None a b = tt
cells_in (Some c) a b = record { short = a; fits = b }

cells_short : (d : Option Value) → IfSome d IsCell → IfSome d IsShortValue
cells_short None a = tt
cells_short (Some c) a = a.short

cells_fit : (d : Option Value) → IfSome d IsCell → IfSome d FitsCell
cells_fit None a = tt
cells_fit (Some c) a = a.fits

columns_in : (xs : List Column) → All IsStorableColumn xs → All FitsColumn xs → AllByRecursion IsColumn xs
columns_in xs a b =
    all_map (λ c. IsStorableColumn c × FitsColumn c) IsColumn (λ c h. record { name = h.1.name; kind = h.1.kind; default = cells_in c.default h.0 h.1.default }) xs (join_all IsStorableColumn FitsColumn xs a b)

columns_out : (xs : List Column) → AllByRecursion IsColumn xs → All IsStorableColumn xs × All FitsColumn xs
columns_out xs all =
    split_all IsStorableColumn FitsColumn xs
    (all_map IsColumn (λ c. IsStorableColumn c × FitsColumn c) (λ c h. (cells_short c.default h.default, record { name = h.name; kind = h.kind; default = cells_fit c.default h.default })) xs all)

-- ---- partitionings

module _ (columns : List Column) (few : length columns ≤ 1_000_000) where
  good_in : (e : Expr) → IsKeptExpr columns e → FitsExpr e → Good columns few most_deep e
  good_in e kept fits = record { storable = kept.storable.nodes; kept = kept.nodes; fits = fits; shallow = kept.storable.depth }

  good_out : (e : Expr) → Good columns few most_deep e → IsKeptExpr columns e
  good_out e good = record { storable = record { nodes = good.storable; depth = good.shallow }; nodes = good.kept }

  by_in : (p : PartBy) → IsStorableBy columns p → FitsBy p → GoodBy columns few most_deep p
  by_in by.Whole is fits = tt
  by_in (by.Range e) is fits = good_in e is fits
  by_in (by.List e) is fits = good_in e is fits
  by_in (by.RangeColumns numbers) is fits = is
  by_in (by.ListColumns numbers) is fits = is
  by_in (by.Hash linear e) is fits = good_in e is fits
  by_in (by.Key linear numbers) is fits = is

  by_out : (p : PartBy) → GoodBy columns few most_deep p → IsStorableBy columns p
  by_out by.Whole is = tt
  by_out (by.Range e) is = good_out e is
  by_out (by.List e) is = good_out e is
  by_out (by.RangeColumns numbers) is = is
  by_out (by.ListColumns numbers) is = is
  by_out (by.Hash linear e) is = good_out e is
  by_out (by.Key linear numbers) is = is

  by_fits : (p : PartBy) → GoodBy columns few most_deep p → FitsBy p
  by_fits by.Whole is = tt
  by_fits (by.Range e) is = is.fits
  by_fits (by.List e) is = is.fits
  by_fits (by.RangeColumns numbers) is = tt
  by_fits (by.ListColumns numbers) is = tt
  by_fits (by.Hash linear e) is = is.fits
  by_fits (by.Key linear numbers) is = tt

main_may : (p : PartBy) → MayBe [] (omega arith) 0 true p
main_may by.Whole = tt
main_may (by.Range e) = refl
main_may (by.List e) = refl
main_may (by.RangeColumns numbers) = refl
main_may (by.ListColumns numbers) = refl
main_may (by.Hash linear e) = tt
main_may (by.Key linear numbers) = tt

sub_may : (p : PartBy) → IsSub p → MayBe [] (omega arith) 0 false p
sub_may by.Whole is = tt
sub_may (by.Range e) is = absurd is
sub_may (by.List e) is = absurd is
sub_may (by.RangeColumns numbers) is = absurd is
sub_may (by.ListColumns numbers) is = absurd is
sub_may (by.Hash linear e) is = tt
sub_may (by.Key linear numbers) is = tt

may_sub : (p : PartBy) → MayBe [] (omega arith) 0 false p → IsSub p
may_sub by.Whole is = tt
may_sub (by.Range e) is = absurd (true≢false (sym is))
may_sub (by.List e) is = absurd (true≢false (sym is))
may_sub (by.RangeColumns numbers) is = absurd (true≢false (sym is))
may_sub (by.ListColumns numbers) is = absurd (true≢false (sym is))
may_sub (by.Hash linear e) is = tt
may_sub (by.Key linear numbers) is = tt

-- ---- partitions

abbrev AllFit : List (List Bound) → Type 0
AllFit tuples = All (λ tuple. All FitsBound tuple) tuples

bounds_in : (main : PartBy) (tuples : List (List Bound)) → AreBoundsOf main tuples → AllFit tuples → BoundsOf main tuples
bounds_in by.Whole tuples is fits = absurd is
bounds_in (by.Range e) tuples is fits = (is.0, join_all (IsStorableTuple 1) (λ tuple. All FitsBound tuple) tuples is.1 fits)
bounds_in (by.List e) tuples is fits = (is.0, join_all (IsStorableTuple 1) (λ tuple. All FitsBound tuple) tuples is.1 fits)
bounds_in (by.RangeColumns numbers) tuples is fits = (is.0, join_all (IsStorableTuple (length numbers)) (λ tuple. All FitsBound tuple) tuples is.1 fits)
bounds_in (by.ListColumns numbers) tuples is fits = (is.0, join_all (IsStorableTuple (length numbers)) (λ tuple. All FitsBound tuple) tuples is.1 fits)
bounds_in (by.Hash linear e) tuples is fits = is
bounds_in (by.Key linear numbers) tuples is fits = is

-- there is a partitioning
abbrev IsSplit : PartBy → Type 0
IsSplit by.Whole = ⊥
IsSplit _ = Unit {0}

bounds_out : (main : PartBy) (tuples : List (List Bound)) → IsSplit main → BoundsOf main tuples → AreBoundsOf main tuples
bounds_out by.Whole tuples some is = absurd some
bounds_out (by.Range e) tuples some is = (is.0, (split_all (IsStorableTuple 1) (λ tuple. All FitsBound tuple) tuples is.1).0)
bounds_out (by.List e) tuples some is = (is.0, (split_all (IsStorableTuple 1) (λ tuple. All FitsBound tuple) tuples is.1).0)
bounds_out (by.RangeColumns numbers) tuples some is = (is.0, (split_all (IsStorableTuple (length numbers)) (λ tuple. All FitsBound tuple) tuples is.1).0)
bounds_out (by.ListColumns numbers) tuples some is = (is.0, (split_all (IsStorableTuple (length numbers)) (λ tuple. All FitsBound tuple) tuples is.1).0)
bounds_out (by.Hash linear e) tuples some is = is
bounds_out (by.Key linear numbers) tuples some is = is

bounds_fit : (main : PartBy) (tuples : List (List Bound)) → BoundsOf main tuples → AllFit tuples
bounds_fit by.Whole tuples is = none_all (λ tuple. All FitsBound tuple) tuples is
bounds_fit (by.Range e) tuples is = (split_all (IsStorableTuple 1) (λ tuple. All FitsBound tuple) tuples is.1).1
bounds_fit (by.List e) tuples is = (split_all (IsStorableTuple 1) (λ tuple. All FitsBound tuple) tuples is.1).1
bounds_fit (by.RangeColumns numbers) tuples is = (split_all (IsStorableTuple (length numbers)) (λ tuple. All FitsBound tuple) tuples is.1).1
bounds_fit (by.ListColumns numbers) tuples is = (split_all (IsStorableTuple (length numbers)) (λ tuple. All FitsBound tuple) tuples is.1).1
bounds_fit (by.Hash linear e) tuples is = none_all (λ tuple. All FitsBound tuple) tuples is
bounds_fit (by.Key linear numbers) tuples is = none_all (λ tuple. All FitsBound tuple) tuples is

subs_in : (sub : PartBy) (names : List (List ℕ)) → AreSubsOf sub names → All IsIdent names → SubsOf sub names
subs_in by.Whole names is fits = is
subs_in (by.Range e) names is fits = ((omega arith, is), recursion_from_All IsIdent names fits)
subs_in (by.List e) names is fits = ((omega arith, is), recursion_from_All IsIdent names fits)
subs_in (by.RangeColumns numbers) names is fits = ((omega arith, is), recursion_from_All IsIdent names fits)
subs_in (by.ListColumns numbers) names is fits = ((omega arith, is), recursion_from_All IsIdent names fits)
subs_in (by.Hash linear e) names is fits = ((omega arith, is), recursion_from_All IsIdent names fits)
subs_in (by.Key linear numbers) names is fits = ((omega arith, is), recursion_from_All IsIdent names fits)

subs_out : (sub : PartBy) (names : List (List ℕ)) → SubsOf sub names → AreSubsOf sub names × All IsIdent names
subs_out by.Whole names is = (is, none_all IsIdent names is)
subs_out (by.Range e) names is = (is.0.1, All-from_recursion IsIdent names is.1)
subs_out (by.List e) names is = (is.0.1, All-from_recursion IsIdent names is.1)
subs_out (by.RangeColumns numbers) names is = (is.0.1, All-from_recursion IsIdent names is.1)
subs_out (by.ListColumns numbers) names is = (is.0.1, All-from_recursion IsIdent names is.1)
subs_out (by.Hash linear e) names is = (is.0.1, All-from_recursion IsIdent names is.1)
subs_out (by.Key linear numbers) names is = (is.0.1, All-from_recursion IsIdent names is.1)

module _ (main sub : PartBy) where
  part_in : (p : PartDef) → IsStorablePartDef main sub p × FitsPart p → IsPart main sub p
  part_in p h = record { name = h.1.name; bounds = bounds_in main p.bounds h.0.bounds h.1.bounds; subs = subs_in sub p.subs h.0.subs h.1.subs }

  part_out : IsSplit main → (p : PartDef) → IsPart main sub p → IsStorablePartDef main sub p × FitsPart p
  part_out some p is =
      let names = subs_out sub p.subs is.subs in
      (record { bounds = bounds_out main p.bounds some is.bounds; subs = names.0 }, record { name = is.name; bounds = bounds_fit main p.bounds is.bounds; subs = names.1 })

-- ---- the whole

module _ (columns : List Column) (few : length columns ≤ 1_000_000) (sub : PartBy) (parts : List PartDef) where
  -- what a file says of what stands behind the partitioning
  record IsEnd (main : PartBy) : Type 0 where
    by : IsStorableBy columns sub
    sub_is : IsSub sub
    alone : IsWholeAlone main sub parts
    counted : IsCounted parts
    parts_are : All (IsStorablePartDef main sub) parts
    sub_fits : FitsBy sub
    parts_fit : All FitsPart parts

  parts_in : (main : PartBy) → IsEnd main → IsBy columns few most_deep false sub × HasAtLeast 0 parts × AllByRecursion (IsPart main sub) parts
  parts_in main is = (
    (by_in columns few sub is.by is.sub_fits, sub_may sub is.sub_is),
    (omega arith, is.counted),
    all_map (λ p. IsStorablePartDef main sub p × FitsPart p) (IsPart main sub) (part_in main sub) parts (join_all (IsStorablePartDef main sub) FitsPart parts is.parts_are is.parts_fit),
  )

  end_in : (main : PartBy) → IsEnd main → BehindIs columns few most_deep main (sub, parts)
  end_in by.Whole is = is.alone
  end_in (by.Range e) is = parts_in (by.Range e) is
  end_in (by.List e) is = parts_in (by.List e) is
  end_in (by.RangeColumns numbers) is = parts_in (by.RangeColumns numbers) is
  end_in (by.ListColumns numbers) is = parts_in (by.ListColumns numbers) is
  end_in (by.Hash linear e) is = parts_in (by.Hash linear e) is
  end_in (by.Key linear numbers) is = parts_in (by.Key linear numbers) is

  parts_out : (main : PartBy) → IsSplit main → IsWholeAlone main sub parts → IsBy columns few most_deep false sub × HasAtLeast 0 parts × AllByRecursion (IsPart main sub) parts → IsEnd main
  parts_out main some alone is =
      let both = split_all (IsStorablePartDef main sub) FitsPart parts (all_map (IsPart main sub) (λ p. IsStorablePartDef main sub p × FitsPart p) (part_out main sub some) parts is.2) in
      let counted = is.1 in
      record {
        by = by_out columns few sub is.0.0;
        sub_is = may_sub sub is.0.1;
        alone = alone;
        counted = counted.1;
        parts_are = both.0;
        sub_fits = by_fits columns few sub is.0.0;
        parts_fit = both.1;
      }

  whole_out : (sub ≡ by.Whole) × (parts ≡ []) → IsEnd by.Whole
  whole_out is = record {
    by = subst (λ p. IsStorableBy columns p) (sym is.0) tt;
    sub_is = subst IsSub (sym is.0) tt;
    alone = is;
    counted = subst (λ ps. IsCounted ps) (sym is.1) (omega arith);
    parts_are = none_all (IsStorablePartDef by.Whole sub) parts is.1;
    sub_fits = subst FitsBy (sym is.0) tt;
    parts_fit = none_all FitsPart parts is.1;
  }

  end_out : (main : PartBy) → BehindIs columns few most_deep main (sub, parts) → IsEnd main
  end_out by.Whole is = whole_out is
  end_out (by.Range e) is = parts_out (by.Range e) tt tt is
  end_out (by.List e) is = parts_out (by.List e) tt tt is
  end_out (by.RangeColumns numbers) is = parts_out (by.RangeColumns numbers) tt tt is
  end_out (by.ListColumns numbers) is = parts_out (by.ListColumns numbers) tt tt is
  end_out (by.Hash linear e) is = parts_out (by.Hash linear e) tt tt is
  end_out (by.Key linear numbers) is = parts_out (by.Key linear numbers) tt tt is

pub body_of : (def : TableDef) → IsStorableDef def → FitsDef def → IsBody most_deep def
body_of def is fits =
    let some = is.some in
    record {
      some = (some.0, is.most, some.1);
      few = is.most;
      columns = columns_in def.columns is.columns fits.columns;
      keys = ((omega arith, is.few), join_all (IsStorableKey (length def.columns)) (λ key. IsIdent key.name) def.keys is.keys fits.keys);
      by = (by_in def.columns is.most def.by is.by fits.by, main_may def.by);
      behind = end_in def.columns is.most def.sub def.parts def.by
          (record { by = is.sub.0; sub_is = is.sub.1; alone = is.alone; counted = is.counted; parts_are = is.parts; sub_fits = fits.sub; parts_fit = fits.parts });
    }

pub storable_of : (def : TableDef) → IsBody most_deep def → IsStorableDef def × FitsDef def
storable_of def is =
    let some = is.some in
    let columns = columns_out def.columns is.columns in
    let counted = is.keys.0 in
    let keys = split_all (IsStorableKey (length def.columns)) (λ (key : KeyDef). IsIdent key.name) def.keys is.keys.1 in
    let end = end_out def.columns is.few def.sub def.parts def.by is.behind in (
      record {
        some = (some.0, some.2);
        most = is.few;
        columns = columns.0;
        few = counted.1;
        keys = keys.0;
        by = by_out def.columns is.few def.by is.by.0;
        sub = (end.by, end.sub_is);
        alone = end.alone;
        counted = end.counted;
        parts = end.parts_are;
      },
      record { columns = columns.1; keys = keys.1; by = by_fits def.columns is.few def.by is.by.0; sub = end.sub_fits; parts = end.parts_fit },
    )
