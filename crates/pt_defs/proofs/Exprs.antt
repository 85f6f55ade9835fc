-- Expressions: what is written is read, and what is read was written.
use Rattle.std.proofs.Common.{◌≡◌, ℕ, zero, suc, ◌-◌, ◌<◌, ◌≤◌, ◌^◌, Bool, false, List, [], ◌∷◌, ◌++◌, length, map, Option, Some, None, refl, sym, ap, ap₂, ◌∙◌, subst, arith}
use Rattle.std.specs.Prelude.{Ok, Err}
use Rattle.std.specs.List.{flat_map, AllByRecursion}
use Rattle.std.proofs.lemmas.List.{length-map}
use Rattle.pt_bytes.specs.Numbers.{AreBytes, le_bytes}
use Rattle.pt_ast.specs.declared.tree.Func.{Func}
use Rattle.pt_ast.specs.declared.tree.Func.TheVariants as func
use Rattle.pt_ast.specs.declared.tree.Op.{Op}
use Rattle.pt_ast.specs.declared.tree.Expr.{Expr, every-Expr, every_here-Expr, fold_out-Expr, fold-roll-Expr, map-Expr, out-Expr, roll-Expr, roll-out-Expr}
use Rattle.pt_ast.specs.declared.tree.Expr.TheOpen.{Expr-F}
use Rattle.pt_ast.specs.declared.tree.Expr.TheVariants as tree
use Rattle.pt_ast.specs.declared.tree.Expr.TheVariants.{rolls-Number, rolls-Text, rolls-Hex, rolls-Date, rolls-Null, rolls-Column, rolls-Neg, rolls-Sum, rolls-Product, rolls-Call}
use Rattle.pt_ast.specs.declared.table.Column.{Column}
use Rattle.pt_ast.specs.Storable.{HasAtLeast}
use Rattle.pt_ast.specs.StorableExpr.{BeginsWithPlus, IsStorableNode, depth, depth_step}
use Rattle.pt_ast.specs.StorableDef.{IsKeptNode}
use Rattle.pt_defs.specs.Spelling.{expr_text, factor_text, flag, func_code, list_text, node_text, op_code, term_text}
use Rattle.pt_defs.specs.Reading.{Read, Reader, byte_at, call_at, count_at, date_at, expr_at, factors_at, flag_at, func_of, made, many, named_at, node_behind, op_at, pair_at, plus_at, product_at, string_at, terms_at, whole_at}
use Rattle.pt_defs.specs.Fitting.{FitsNode}
use Rattle.pt_defs.proofs.Steps.{Codec, Was, AreBytes-behind, either, first, from_bind, from_made, in_row, last, one_ok, same_pair}
use Rattle.pt_defs.proofs.Items.{AreCounted, byte_sound, count, so_many, string}
use Rattle.pt_defs.proofs.Columns.{is_flag, list}
use Rattle.pt_defs.proofs.Nodes.{depth_kids, depth_roll, every_kids, every_roll, kids}
use Rattle.pt_defs.proofs.Leaves.{date, func_only, is_op, named_column, pair, plus, whole}

-- ---- facts of lists

pub all_map : {A : Type 0} (P Q : A → Type 0) → ((x : A) → P x → Q x) → (xs : List A) → AllByRecursion P xs → AllByRecursion Q xs
all_map P Q f [] all = tt
all_map P Q f (x ∷ xs) all = (f x all.0, all_map P Q f xs all.1)

texts_map : {A B : Type 0} (text : B → List ℕ) (f : A → B) (xs : List A) → flat_map text (map f xs) ≡ flat_map (λ x. text (f x)) xs
texts_map text f [] = refl
texts_map text f (x ∷ xs) = ap (λ (rest : List ℕ). text (f x) ++ rest) (texts_map text f xs)

list_map : {A B : Type 0} (text : B → List ℕ) (f : A → B) (xs : List A) → list_text text (map f xs) ≡ list_text (λ x. text (f x)) xs
unfolding list_text
list_map text f xs = ap₂ (λ (n : ℕ) (rest : List ℕ). le_bytes 4 n ++ rest) (length-map xs f) (texts_map text f xs)

-- a node takes a level
step_some : (layer : Expr-F ℕ) → 1 ≤ depth_step layer
step_some (Expr-F.Number n) = omega arith
step_some (Expr-F.Text bytes) = omega arith
step_some (Expr-F.Hex bytes) = omega arith
step_some (Expr-F.Date day) = omega arith
step_some Expr-F.Null = omega arith
step_some (Expr-F.Column name) = omega arith
step_some (Expr-F.Neg part) = omega arith
step_some (Expr-F.Sum parts) = omega arith
step_some (Expr-F.Product first parts) = omega arith
step_some (Expr-F.Call called part) = omega arith

depth_some : (x : Expr) → 1 ≤ depth x
depth_some x = omega (arith, fold_out-Expr ℕ depth_step x, step_some (map-Expr Expr ℕ depth (out-Expr x)))

module _ (columns : List Column) (few : length columns ≤ 1_000_000) where
  -- what is said of a node
  pub record Here (layer : Expr-F Expr) : Type 0 where
    pub storable : IsStorableNode layer
    pub kept : IsKeptNode columns layer
    pub fits : FitsNode layer

  -- of each node, and how deep the whole nests
  pub record Good (most : ℕ) (x : Expr) : Type 0 where
    pub storable : every-Expr IsStorableNode x
    pub kept : every-Expr (IsKeptNode columns) x
    pub fits : every-Expr FitsNode x
    pub shallow : depth x ≤ most

  all_good : (most : ℕ) (xs : List Expr) → AllByRecursion (every-Expr IsStorableNode) xs → AllByRecursion (every-Expr (IsKeptNode columns)) xs → AllByRecursion (every-Expr FitsNode) xs
      → AllByRecursion (λ y. depth y ≤ most) xs → AllByRecursion (Good most) xs
  all_good most [] a b c d = tt
  all_good most (x ∷ xs) a b c d = (record { storable = a.0; kept = b.0; fits = c.0; shallow = d.0 }, all_good most xs a.1 b.1 c.1 d.1)

  here : (most : ℕ) (x : Expr) → Good most x → Here (out-Expr x)
  here most x good = record {
    storable = every_here-Expr IsStorableNode x good.storable;
    kept = every_here-Expr (IsKeptNode columns) x good.kept;
    fits = every_here-Expr FitsNode x good.fits;
  }

  below : (most : ℕ) (x : Expr) → Good (suc most) x → AllByRecursion (Good most) (kids (out-Expr x))
  below most x good =
      all_good most (kids (out-Expr x)) (every_kids IsStorableNode x good.storable) (every_kids (IsKeptNode columns) x good.kept) (every_kids FitsNode x good.fits) (depth_kids most x good.shallow)

  rolled : (most : ℕ) (layer : Expr-F Expr) → Here layer → AllByRecursion (Good most) (kids layer) → Good (suc most) (roll-Expr layer)
  rolled most layer is all = record {
    storable = every_roll IsStorableNode layer is.storable (all_map (Good most) (every-Expr IsStorableNode) (λ x g. g.storable) (kids layer) all);
    kept = every_roll (IsKeptNode columns) layer is.kept (all_map (Good most) (every-Expr (IsKeptNode columns)) (λ x g. g.kept) (kids layer) all);
    fits = every_roll FitsNode layer is.fits (all_map (Good most) (every-Expr FitsNode) (λ x g. g.fits) (kids layer) all);
    shallow = depth_roll most layer (all_map (Good most) (λ y. depth y ≤ most) (λ x g. g.shallow) (kids layer) all);
  }

  abbrev text : Expr → List ℕ
  text = expr_text columns

  abbrev layer_text : Expr-F Expr → List ℕ
  layer_text layer = node_text columns (map-Expr Expr (List ℕ) text layer)

  -- ---- a level, above those that nest so deep

  module _ (room : ℕ) (inner : Codec (expr_at columns room) (expr_text columns) (Good room)) where
    abbrev read : Reader Expr
    read = expr_at columns room

    abbrev term_of : Bool × Expr → List ℕ
    term_of term = flag term.0 ∷ text term.1

    abbrev factor_of : Op × Expr → List ℕ
    factor_of factor = op_code factor.0 ∷ text factor.1

    abbrev IsTerm : Bool × Expr → Type 0
    IsTerm term = Unit {0} × Good room term.1

    abbrev IsFactor : Op × Expr → Type 0
    IsFactor factor = Unit {0} × Good room factor.1

    term : Codec (pair_at flag_at read) term_of IsTerm
    term = pair flag_at read (λ b. flag b ∷ []) text (λ b. Unit {0}) (Good room) is_flag inner

    plus_term : Codec (pair_at plus_at read) term_of (λ t. (t.0 ≡ false) × Good room t.1)
    plus_term = pair plus_at read (λ b. flag b ∷ []) text (λ b. b ≡ false) (Good room) plus inner

    factor : Codec (pair_at op_at read) factor_of IsFactor
    factor = pair op_at read (λ o. op_code o ∷ []) text (λ o. Unit {0}) (Good room) is_op inner

    pub record AreTerms (parts : List (Bool × Expr)) : Type 0 where
      pub enough : HasAtLeast 2 parts
      pub begins : BeginsWithPlus parts
      pub each : AllByRecursion IsTerm parts

    terms_complete : (parts : List (Bool × Expr)) (rest : List ℕ) → AreTerms parts → terms_at read (list_text term_of parts ++ rest) ≡ Ok (parts, rest)
    unfolding terms_at list_text
    terms_complete [] rest is = let h = is.enough.0 in absurd (omega arith)
    terms_complete (p ∷ ps) rest is =
        let enough = is.enough in
        first (count 2 (2 ^ 32)) (length (p ∷ ps)) (flat_map term_of (p ∷ ps)) rest _ (enough.0, omega (arith, enough.1), enough.1)
        ∙ first plus_term p (flat_map term_of ps) rest _ (is.begins, is.each.0.1)
        ∙ last (so_many (pair_at flag_at read) term_of IsTerm term (length (p ∷ ps) - 1)) ps rest _ (record { each = is.each.1; number = omega arith })

    terms_sound : (bytes : List ℕ) (parts : List (Bool × Expr)) (rest : List ℕ) → AreBytes bytes → terms_at read bytes ≡ Ok (parts, rest) → Was AreTerms (list_text term_of) bytes parts rest
    unfolding terms_at list_text
    terms_sound bytes parts rest are e =
        let a = from_bind _ (count_at 2 (2 ^ 32) bytes) (parts, rest) e in
        let n = (count 2 (2 ^ 32)).sound bytes a.0.0 a.0.1 are a.1 in
        let b = from_bind _ (pair_at plus_at read a.0.1) (parts, rest) a.2 in
        let p = plus_term.sound a.0.1 b.0.0 b.0.1 n.are b.1 in
        let d = from_bind _ (many (pair_at flag_at read) (a.0.0 - 1) b.0.1) (parts, rest) b.2 in
        let ps = (so_many (pair_at flag_at read) term_of IsTerm term (a.0.0 - 1)).sound b.0.1 d.0.0 d.0.1 p.are d.1 in
        let q : List (Bool × Expr) × List ℕ = (b.0.0 ∷ d.0.0, d.0.1) in
        let two : 2 ≤ a.0.0 = n.is.0 in
        let low : a.0.0 < 2 ^ 32 = n.is.2 in
        let long : length d.0.0 ≡ a.0.0 - 1 = ps.is.number in
        let all : length (b.0.0 ∷ d.0.0) ≡ a.0.0 = omega arith in
        same_pair AreTerms (list_text term_of) bytes q (parts, rest) (one_ok q (parts, rest) d.2)
        (record {
          is = record { enough = (omega (arith, all), omega (arith, all)); begins = p.is.0; each = ((tt, p.is.1), ps.is.each) };
          text_is = in_row bytes (le_bytes 4 (length (b.0.0 ∷ d.0.0))) a.0.1 (term_of b.0.0 ++ flat_map term_of d.0.0) d.0.1
              (n.text_is ∙ ap (λ m. le_bytes 4 m ++ a.0.1) (sym all))
              (in_row a.0.1 (term_of b.0.0) b.0.1 (flat_map term_of d.0.0) d.0.1 p.text_is ps.text_is);
          are = ps.are;
        })

    abbrev AreFactors : List (Op × Expr) → Type 0
    AreFactors parts = AreCounted (pair_at op_at read) factor_of IsFactor factor 1 (2 ^ 32) parts

    factors : Codec (factors_at read) (list_text factor_of) AreFactors
    unfolding factors_at
    factors = list (pair_at op_at read) factor_of IsFactor factor 1

    -- the facts of the parts of a list, with what stands before each and without
    bare_parts : {A : Type 0} (ps : List (A × Expr)) → AllByRecursion (λ p. Unit {0} × Good room p.1) ps → AllByRecursion (Good room) (map (λ p. p.1) ps)
    bare_parts [] all = tt
    bare_parts (p ∷ ps) all = (all.0.1, bare_parts ps all.1)

    each_part : {A : Type 0} (ps : List (A × Expr)) → AllByRecursion (Good room) (map (λ p. p.1) ps) → AllByRecursion (λ p. Unit {0} × Good room p.1) ps
    each_part [] all = tt
    each_part (p ∷ ps) all = ((tt, all.0), each_part ps all.1)

    terms_are : (parts : List (Bool × Expr)) → list_text term_text (map (λ p. (p.0, text p.1)) parts) ≡ list_text term_of parts
    terms_are parts = list_map term_text (λ (p : Bool × Expr). (p.0, text p.1)) parts

    factors_are : (parts : List (Op × Expr)) → list_text factor_text (map (λ p. (p.0, text p.1)) parts) ≡ list_text factor_of parts
    factors_are parts = list_map factor_text (λ (p : Op × Expr). (p.0, text p.1)) parts

    abbrev next : Reader Expr
    next = expr_at columns (suc room)

    abbrev Gives : Expr-F Expr → List ℕ → Type 0
    Gives layer rest = next (layer_text layer ++ rest) ≡ Ok (roll-Expr layer, rest)

    -- a variant as its layer rolled up
    rolls_to : (x y : Expr) (rest : List ℕ) → y ≡ x → ◌≡◌ {A = Read Expr} (Ok (x, rest)) (Ok (y, rest))
    rolls_to x y rest e = ap (λ (z : Expr). Ok (z, rest)) (sym e)

    product_complete : (x : Expr) (parts : List (Op × Expr)) (rest : List ℕ) → Good room x → AreFactors parts → product_at read ((text x ++ list_text factor_of parts) ++ rest) ≡ Ok (tree.Product x parts, rest)
    unfolding product_at
    product_complete x parts rest good are = first inner x (list_text factor_of parts) rest _ good ∙ last factors parts rest _ are

    call_complete : (called : Func) (x : Expr) (rest : List ℕ) → Good room x → Gives (Expr-F.Call called x) rest
    unfolding expr_at node_behind byte_at call_at
    call_complete func.Abs x rest good = ap (made (tree.Call func.Abs)) (inner.complete x rest good) ∙ rolls_to _ _ rest (rolls-Call func.Abs x)
    call_complete func.Year x rest good = ap (made (tree.Call func.Year)) (inner.complete x rest good) ∙ rolls_to _ _ rest (rolls-Call func.Year x)
    call_complete func.Month x rest good = ap (made (tree.Call func.Month)) (inner.complete x rest good) ∙ rolls_to _ _ rest (rolls-Call func.Month x)
    call_complete func.DayOfMonth x rest good = ap (made (tree.Call func.DayOfMonth)) (inner.complete x rest good) ∙ rolls_to _ _ rest (rolls-Call func.DayOfMonth x)
    call_complete func.DayOfYear x rest good = ap (made (tree.Call func.DayOfYear)) (inner.complete x rest good) ∙ rolls_to _ _ rest (rolls-Call func.DayOfYear x)
    call_complete func.DayOfWeek x rest good = ap (made (tree.Call func.DayOfWeek)) (inner.complete x rest good) ∙ rolls_to _ _ rest (rolls-Call func.DayOfWeek x)
    call_complete func.Weekday x rest good = ap (made (tree.Call func.Weekday)) (inner.complete x rest good) ∙ rolls_to _ _ rest (rolls-Call func.Weekday x)
    call_complete func.Quarter x rest good = ap (made (tree.Call func.Quarter)) (inner.complete x rest good) ∙ rolls_to _ _ rest (rolls-Call func.Quarter x)
    call_complete func.ToDays x rest good = ap (made (tree.Call func.ToDays)) (inner.complete x rest good) ∙ rolls_to _ _ rest (rolls-Call func.ToDays x)

    node_complete : (layer : Expr-F Expr) (rest : List ℕ) → Here layer → AllByRecursion (Good room) (kids layer) → Gives layer rest
    unfolding expr_at node_behind byte_at
    node_complete (Expr-F.Number n) rest is all = ap (made tree.Number) (whole.complete n rest (record { least = is.storable; fits = is.fits })) ∙ rolls_to _ _ rest (rolls-Number n)
    node_complete (Expr-F.Text bytes) rest is all = ap (made tree.Text) (string.complete bytes rest (is.kept, is.fits)) ∙ rolls_to _ _ rest (rolls-Text bytes)
    node_complete (Expr-F.Hex bytes) rest is all = ap (made tree.Hex) (string.complete bytes rest (is.kept, is.fits)) ∙ rolls_to _ _ rest (rolls-Hex bytes)
    node_complete (Expr-F.Date day) rest is all = ap (made tree.Date) (date.complete day rest is.kept) ∙ rolls_to _ _ rest (rolls-Date day)
    node_complete Expr-F.Null rest is all = rolls_to _ _ rest rolls-Null
    node_complete (Expr-F.Column name) rest is all = ap (made tree.Column) ((named_column columns few).complete name rest is.kept) ∙ rolls_to _ _ rest (rolls-Column name)
    node_complete (Expr-F.Neg part) rest is all = ap (made tree.Neg) (inner.complete part rest all.0) ∙ rolls_to _ _ rest (rolls-Neg part)
    node_complete (Expr-F.Sum parts) rest is all =
        let both = is.storable in
        ap (λ (x : List ℕ). next (6 ∷ (x ++ rest))) (terms_are parts)
        ∙ ap (made tree.Sum) (terms_complete parts rest (record { enough = both.0; begins = both.1; each = each_part parts all }))
        ∙ rolls_to _ _ rest (rolls-Sum parts)
    node_complete (Expr-F.Product x parts) rest is all =
        let some = is.storable in
        ap (λ (t : List ℕ). next (7 ∷ ((text x ++ t) ++ rest))) (factors_are parts)
        ∙ product_complete x parts rest all.0 (record { each = each_part parts all.1; count = (some.0, omega (arith, some.1), some.1) })
        ∙ rolls_to _ _ rest (rolls-Product x parts)
    node_complete (Expr-F.Call called part) rest is all = call_complete called part rest all.0

    expr_complete : (x : Expr) (rest : List ℕ) → Good (suc room) x → next (text x ++ rest) ≡ Ok (x, rest)
    expr_complete x rest good =
        ap (λ (t : List ℕ). next (t ++ rest)) (fold_out-Expr (List ℕ) (node_text columns) x)
        ∙ node_complete (out-Expr x) rest (here (suc room) x good) (below room x good)
        ∙ ap (λ (y : Expr). Ok (y, rest)) (roll-out-Expr x)

    -- ---- what is read was written

    abbrev Found : List ℕ → Expr → List ℕ → Type 0
    Found bytes x more = Was (Good (suc room)) (expr_text columns) bytes x more

    by_layer : (layer : Expr-F Expr) (bytes : List ℕ) (x : Expr) (more : List ℕ) → roll-Expr layer ≡ x → Here layer → AllByRecursion (Good room) (kids layer) → bytes ≡ layer_text layer ++ more → AreBytes more
        → Found bytes x more
    by_layer layer bytes x more rolls is all e are =
        let own : Found bytes (roll-Expr layer) more = record {
          is = rolled room layer is all;
          text_is = e ∙ ap (λ (t : List ℕ). t ++ more) (sym (fold-roll-Expr (List ℕ) (node_text columns) layer));
          are = are;
        } in
        subst (λ (y : Expr). Found bytes y more) rolls own

    -- a node that is made of one field
    module _ (node : ℕ) (rest : List ℕ) (x : Expr) (more : List ℕ) (are : AreBytes rest) where
      of_field : {A : Type 0} (reader : Reader A) (t : A → List ℕ) (P : A → Type 0) (codec : Codec reader t P) (f : A → Expr) (layer : A → Expr-F Expr) → ((a : A) → roll-Expr (layer a) ≡ f a)
          → ((a : A) → P a → Here (layer a)) → ((a : A) → P a → AllByRecursion (Good room) (kids (layer a))) → ((a : A) → layer_text (layer a) ≡ node ∷ t a)
          → made f (reader rest) ≡ Ok (x, more) → Found (node ∷ rest) x more
      of_field reader t P codec f layer rolls is all spelled e =
          let g = from_made f (reader rest) (x, more) e in
          let was = codec.sound rest g.0.0 g.0.1 are g.1 in
          same_pair (Good (suc room)) (expr_text columns) (node ∷ rest) (f g.0.0, g.0.1) (x, more) g.2
          (by_layer (layer g.0.0) (node ∷ rest) (f g.0.0) g.0.1 (rolls g.0.0) (is g.0.0 was.is) (all g.0.0 was.is)
          (ap (λ (b : List ℕ). node ∷ b) was.text_is ∙ ap (λ (b : List ℕ). b ++ g.0.1) (sym (spelled g.0.0))) was.are)

    terms : Codec (terms_at read) (list_text term_of) AreTerms
    terms = record { complete = terms_complete; sound = terms_sound }

    factors_few : (parts : List (Op × Expr)) → AreFactors parts → HasAtLeast 1 parts
    factors_few parts is = let h = is.count in (h.0, h.2)

    product_sound : (rest : List ℕ) (x : Expr) (more : List ℕ) → AreBytes rest → product_at read rest ≡ Ok (x, more) → Found (7 ∷ rest) x more
    unfolding product_at
    product_sound rest x more are e =
        let a = from_bind _ (read rest) (x, more) e in
        let y = inner.sound rest a.0.0 a.0.1 are a.1 in
        let b = from_bind _ (factors_at read a.0.1) (x, more) a.2 in
        let ps = factors.sound a.0.1 b.0.0 b.0.1 y.are b.1 in
        let p : Expr × List ℕ = (tree.Product a.0.0 b.0.0, b.0.1) in
        same_pair (Good (suc room)) (expr_text columns) (7 ∷ rest) p (x, more) (one_ok p (x, more) b.2)
        (by_layer (Expr-F.Product a.0.0 b.0.0) (7 ∷ rest) (tree.Product a.0.0 b.0.0) b.0.1 (rolls-Product a.0.0 b.0.0)
        (record { storable = factors_few b.0.0 ps.is; kept = tt; fits = tt }) (y.is, bare_parts b.0.0 ps.is.each)
        (ap (λ (t : List ℕ). 7 ∷ t) (in_row rest (text a.0.0) a.0.1 (list_text factor_of b.0.0) b.0.1 y.text_is ps.text_is)
        ∙ ap (λ (t : List ℕ). 7 ∷ ((text a.0.0 ++ t) ++ b.0.1)) (sym (factors_are b.0.0)))
        ps.are)

    call_sound : (start : List ℕ) (node : ℕ) (rest : List ℕ) (x : Expr) (more : List ℕ) → AreBytes rest → call_at read start (func_of node) rest ≡ Ok (x, more) → Found (node ∷ rest) x more
    unfolding call_at
    call_sound start node rest x more are e = go (func_of node) refl e
      where
        go : (o : Option Func) → func_of node ≡ o → call_at read start o rest ≡ Ok (x, more) → Found (node ∷ rest) x more
        go None h f = absurd (let bad : ◌≡◌ {A = Read Expr} (Err (length start)) (Ok (x, more)) = f in cc)
        go (Some called) h f =
            subst (λ n. Found (n ∷ rest) x more) (sym (func_only node called h))
            (of_field (func_code called) rest x more are read text (Good room) inner (tree.Call called) (Expr-F.Call called) (λ a. rolls-Call called a) (λ a is. record { storable = tt; kept = tt; fits = tt }) (λ a is. (is, tt))
            (λ a. refl) f)

    node_sound : (start : List ℕ) (node : ℕ) (rest : List ℕ) (x : Expr) (more : List ℕ) → AreBytes rest → node_behind columns read start node rest ≡ Ok (x, more) → Found (node ∷ rest) x more
    unfolding node_behind
    node_sound start node rest x more are e =
        either node 1 _ _ _ e (λ h f. moved 1 h (of_field 1 rest x more are whole_at _ _ whole tree.Number Expr-F.Number (λ a. rolls-Number a) (λ a is. record { storable = is.least; kept = tt; fits = is.fits }) (λ a is. tt) (λ a. refl) f)) (λ e.
        either node 2 _ _ _ e (λ h f. moved 2 h (of_field 2 rest x more are date_at _ _ date tree.Date Expr-F.Date (λ a. rolls-Date a) (λ a is. record { storable = tt; kept = is; fits = tt }) (λ a is. tt) (λ a. refl) f)) (λ e.
        either node 3 _ _ _ e (λ h f. moved 3 h (null f)) (λ e.
        either node 4 _ _ _ e (λ h f. moved 4 h (of_field 4 rest x more are (named_at columns) _ _ (named_column columns few) tree.Column Expr-F.Column (λ a. rolls-Column a) (λ a is. record { storable = tt; kept = is; fits = tt }) (λ a is. tt) (λ a. refl) f)) (λ e.
        either node 5 _ _ _ e (λ h f. moved 5 h (of_field 5 rest x more are read text (Good room) inner tree.Neg Expr-F.Neg (λ a. rolls-Neg a) (λ a is. record { storable = tt; kept = tt; fits = tt }) (λ a is. (is, tt)) (λ a. refl) f)) (λ e.
        either node 6 _ _ _ e (λ h f. moved 6 h (of_field 6 rest x more are (terms_at read) (list_text term_of) AreTerms terms tree.Sum Expr-F.Sum (λ a. rolls-Sum a)
        (λ a is. record { storable = (is.enough, is.begins); kept = tt; fits = tt }) (λ a is. bare_parts a is.each) (λ a. ap (λ (t : List ℕ). 6 ∷ t) (terms_are a)) f)) (λ e.
        either node 7 _ _ _ e (λ h f. moved 7 h (product_sound rest x more are f)) (λ e.
        either node 17 _ _ _ e (λ h f. moved 17 h (of_field 17 rest x more are string_at _ _ string tree.Text Expr-F.Text (λ a. rolls-Text a) (λ a is. record { storable = (let short = is.0 in omega arith); kept = is.0; fits = is.1 }) (λ a is. tt) (λ a. refl) f)) (λ e.
        either node 18 _ _ _ e (λ h f. moved 18 h (of_field 18 rest x more are string_at _ _ string tree.Hex Expr-F.Hex (λ a. rolls-Hex a) (λ a is. record { storable = (let short = is.0 in omega arith); kept = is.0; fits = is.1 }) (λ a is. tt) (λ a. refl) f)) (λ e.
        call_sound start node rest x more are e)))))))))
      where
        moved : (k : ℕ) → node ≡ k → Found (k ∷ rest) x more → Found (node ∷ rest) x more
        moved k h was = subst (λ n. Found (n ∷ rest) x more) (sym h) was

        null : ◌≡◌ {A = Read Expr} (Ok (tree.Null, rest)) (Ok (x, more)) → Found (3 ∷ rest) x more
        null f =
            let p : Expr × List ℕ = (tree.Null, rest) in
            same_pair (Good (suc room)) (expr_text columns) (3 ∷ rest) p (x, more) (one_ok p (x, more) f)
            (by_layer Expr-F.Null (3 ∷ rest) tree.Null rest rolls-Null (record { storable = tt; kept = tt; fits = tt }) tt refl are)

    expr_sound : (bytes : List ℕ) (x : Expr) (rest : List ℕ) → AreBytes bytes → next bytes ≡ Ok (x, rest) → Found bytes x rest
    unfolding expr_at
    expr_sound bytes x rest are e =
        let f = from_bind (λ (node : ℕ × List ℕ). node_behind columns read bytes node.0 node.1) (byte_at bytes) (x, rest) e in
        let at : bytes ≡ f.0.0 ∷ f.0.1 = byte_sound bytes f.0.0 f.0.1 f.1 in
        subst (λ (b : List ℕ). Found b x rest) (sym at) (node_sound bytes f.0.0 f.0.1 x rest (AreBytes-behind bytes (f.0.0 ∷ []) f.0.1 are at) f.2)

    pub level : Codec (expr_at columns (suc room)) (expr_text columns) (Good (suc room))
    level = record { complete = expr_complete; sound = expr_sound }

  none_complete : (x : Expr) (rest : List ℕ) → Good 0 x → expr_at columns 0 (text x ++ rest) ≡ Ok (x, rest)
  none_complete x rest good = absurd (omega (arith, good.shallow, depth_some x))

  none_sound : (bytes : List ℕ) (x : Expr) (rest : List ℕ) → AreBytes bytes → expr_at columns 0 bytes ≡ Ok (x, rest) → Was (Good 0) (expr_text columns) bytes x rest
  unfolding expr_at
  none_sound bytes x rest are e = absurd (let bad : ◌≡◌ {A = Read Expr} (Err (length bytes)) (Ok (x, rest)) = e in cc)

  pub expr : (room : ℕ) → Codec (expr_at columns room) (expr_text columns) (Good room)
  expr zero = record { complete = none_complete; sound = none_sound }
  expr (suc room) = level room (expr room)
