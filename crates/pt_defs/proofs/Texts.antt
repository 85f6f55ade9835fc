-- Texts written one behind the other.
use Rattle.std.proofs.Common.{subst, ◌≡◌, ℕ, ◌<◌, ◌≤◌, map, take, ap₂, ◌/◌, ◌%◌, ◌^◌, List, [], ◌∷◌, ◌++◌, length, Some, None, refl, sym, ap, ◌∙◌, append_assoc, arith, cond, Bool, true, false, ltb}
use Rattle.std.specs.Prelude.{Result, Ok, Err, OnOk}
use Rattle.std.specs.List.{position, position_or_len}
use Rattle.std.specs.List.{flat_map}
use Rattle.std.specs.Prelude.{not}
use Rattle.std.proofs.lemmas.Bool.{ltb-false}
use Rattle.std.proofs.lemmas.List.Sums.{prefix_len-le-length}
use Rattle.std.proofs.lemmas.List.{take_all, length-map}
use Rattle.pt_bytes.specs.Numbers.{le_bytes}
use Rattle.pt_ast.specs.declared.tree.Func.{Func}
use Rattle.pt_ast.specs.declared.tree.Op.{Op}
use Rattle.pt_ast.specs.declared.tree.Expr.{Expr, fold-roll-Expr}
use Rattle.pt_ast.specs.declared.tree.Expr.TheOpen.{Expr-F}
use Rattle.pt_ast.specs.declared.tree.Expr.TheVariants as tree
use Rattle.pt_ast.specs.declared.tree.Expr.TheVariants.{rolls-Text, rolls-Hex, rolls-Call, rolls-Product}
use Rattle.pt_ast.specs.declared.table.Column.{Column}
use Rattle.pt_ast.specs.declared.table.TableDef.{TableDef}
use Rattle.pt_ast.specs.StorableDef.{IsStorableDef}
use Rattle.pt_defs.specs.Spelling.{Spells, body_text, def_text, head_text, list_text, string_text, expr_text, node_text, func_code, factors_text}

-- the bytes of a number are those of its low bytes
pub two_low : (n : ℕ) → le_bytes 2 (n % 65_536) ≡ le_bytes 2 n
unfolding le_bytes
two_low n =
    let a : n % 65_536 % 256 ≡ n % 256 = omega arith in
    let b : n % 65_536 / 256 % 256 ≡ n / 256 % 256 = omega arith in
    rw (a, b) refl

pub four_low : (n : ℕ) → le_bytes 4 (n % 4_294_967_296) ≡ le_bytes 4 n
unfolding le_bytes
four_low n =
    let a : n % 4_294_967_296 % 256 ≡ n % 256 = omega arith in
    let b : n % 4_294_967_296 / 256 % 256 ≡ n / 256 % 256 = omega arith in
    let c : n % 4_294_967_296 / 256 / 256 % 256 ≡ n / 256 / 256 % 256 = omega arith in
    let d : n % 4_294_967_296 / 256 / 256 / 256 % 256 ≡ n / 256 / 256 / 256 % 256 = omega arith in
    rw (a, b, c, d) refl

pub found_place : {A : Type 0} (p : A → Bool) (xs : List A) (i : ℕ) → position p xs ≡ Some i → position_or_len p xs ≡ i
found_place p xs i e = go (ltb (position_or_len p xs) (length xs)) e
  where
    go : (b : Bool) → cond b (Some (position_or_len p xs)) None ≡ Some i → position_or_len p xs ≡ i
    go true same = cc
    go false same = absurd cc

pub no_place : {A : Type 0} (p : A → Bool) (xs : List A) (n : ℕ) → position p xs ≡ None → n ≡ length xs → n ≡ position_or_len p xs
no_place p xs n e long = go (ltb (position_or_len p xs) (length xs)) refl e
  where
    go : (b : Bool) → ltb (position_or_len p xs) (length xs) ≡ b → cond b (Some (position_or_len p xs)) None ≡ None → n ≡ position_or_len p xs
    go true is same = absurd cc
    go false is same = omega (arith, long, ltb-false (position_or_len p xs) (length xs) is, prefix_len-le-length (λ x. not (p x)) xs)

-- a byte, and a text behind it
pub behind_byte : {A E : Type 0} (r : Result A E) (old mid new : List ℕ) (byte : ℕ) (text : List ℕ) → mid ≡ old ++ byte ∷ [] → OnOk r (new ≡ mid ++ text) → OnOk r (new ≡ old ++ byte ∷ text)
behind_byte (Ok x) old mid new byte text first second = second ∙ ap (λ (m : List ℕ). m ++ text) first ∙ append_assoc old (byte ∷ []) text
behind_byte (Err e) old mid new byte text first second = tt

-- a text, and another behind it
pub behind_text : {A E : Type 0} (r : Result A E) (old mid new a b : List ℕ) → mid ≡ old ++ a → OnOk r (new ≡ mid ++ b) → OnOk r (new ≡ old ++ (a ++ b))
behind_text (Ok x) old mid new a b first second = second ∙ ap (λ (m : List ℕ). m ++ b) first ∙ append_assoc old a b
behind_text (Err e) old mid new a b first second = tt

-- a list, item by item behind how many they are
pub list_written : {A : Type 0} (old start new : List ℕ) (text : A → List ℕ) (items xs : List A) (i : ℕ) → items ≡ xs → start ≡ old ++ le_bytes 4 (length items) → length items ≤ i
    → new ≡ start ++ flat_map text (take i items) → new ≡ old ++ list_text text xs
unfolding list_text
list_written {A = A} old start new text items xs i same begin all written =
    written ∙ ap₂ (λ (s : List ℕ) (ys : List A). s ++ flat_map text ys) begin (take_all i items all) ∙ append_assoc old (le_bytes 4 (length items)) (flat_map text items)
    ∙ ap (λ (ys : List A). old ++ (le_bytes 4 (length ys) ++ flat_map text ys)) same

-- the same of parts with a byte before each
pub parts_written : {A B : Type 0} (old start new : List ℕ) (text : B → List ℕ) (f : A → B) (items xs : List A) (i : ℕ) → items ≡ xs → start ≡ old ++ le_bytes 4 (length items) → length items ≤ i
    → new ≡ start ++ flat_map text (map f (take i items)) → new ≡ old ++ list_text text (map f xs)
unfolding list_text
parts_written {A = A} old start new text f items xs i same begin all written =
    written ∙ ap₂ (λ (s : List ℕ) (ys : List A). s ++ flat_map text (map f ys)) begin (take_all i items all) ∙ append_assoc old (le_bytes 4 (length items)) (flat_map text (map f items))
    ∙ ap (λ n. old ++ (le_bytes 4 n ++ flat_map text (map f items))) (sym (length-map items f))
    ∙ ap (λ (ys : List A). old ++ (le_bytes 4 (length (map f ys)) ++ flat_map text (map f ys))) same

-- ---- expressions

text_node : (columns : List Column) (bytes : List ℕ) → expr_text columns (tree.Text bytes) ≡ 17 ∷ string_text bytes
text_node columns bytes = ap (expr_text columns) (sym (rolls-Text bytes)) ∙ fold-roll-Expr (List ℕ) (node_text columns) (Expr-F.Text bytes)

hex_node : (columns : List Column) (bytes : List ℕ) → expr_text columns (tree.Hex bytes) ≡ 18 ∷ string_text bytes
hex_node columns bytes = ap (expr_text columns) (sym (rolls-Hex bytes)) ∙ fold-roll-Expr (List ℕ) (node_text columns) (Expr-F.Hex bytes)

call_node : (columns : List Column) (called : Func) (part : Expr) → expr_text columns (tree.Call called part) ≡ func_code called ∷ expr_text columns part
call_node columns called part = ap (expr_text columns) (sym (rolls-Call called part)) ∙ fold-roll-Expr (List ℕ) (node_text columns) (Expr-F.Call called part)

product_node : (columns : List Column) (first : Expr) (parts : List (Op × Expr)) → expr_text columns (tree.Product first parts) ≡ 7 ∷ (expr_text columns first ++ factors_text columns parts)
product_node columns first parts = ap (expr_text columns) (sym (rolls-Product first parts)) ∙ fold-roll-Expr (List ℕ) (node_text columns) (Expr-F.Product first parts)

module _ {A E : Type 0} (r : Result A E) (columns : List Column) (expr : Expr) (old mid new : List ℕ) where
  spelled : (text : List ℕ) → expr_text columns expr ≡ text → OnOk r (new ≡ old ++ text) → OnOk r (new ≡ old ++ expr_text columns expr)
  spelled text e h = subst (λ (t : List ℕ). OnOk r (new ≡ old ++ t)) (sym e) h

  pub text_written : (bytes b : List ℕ) → expr ≡ tree.Text bytes → b ≡ bytes → mid ≡ old ++ 17 ∷ [] → OnOk r (new ≡ mid ++ string_text b) → OnOk r (new ≡ old ++ expr_text columns expr)
  text_written bytes b is same first second =
      spelled (17 ∷ string_text b) (ap (expr_text columns) is ∙ text_node columns bytes ∙ ap (λ (x : List ℕ). 17 ∷ string_text x) (sym same)) (behind_byte r old mid new 17 (string_text b) first second)

  pub hex_written : (bytes b : List ℕ) → expr ≡ tree.Hex bytes → b ≡ bytes → mid ≡ old ++ 18 ∷ [] → OnOk r (new ≡ mid ++ string_text b) → OnOk r (new ≡ old ++ expr_text columns expr)
  hex_written bytes b is same first second =
      spelled (18 ∷ string_text b) (ap (expr_text columns) is ∙ hex_node columns bytes ∙ ap (λ (x : List ℕ). 18 ∷ string_text x) (sym same)) (behind_byte r old mid new 18 (string_text b) first second)

  pub call_written : (called : Func) (part p : Expr) (code : ℕ) → expr ≡ tree.Call called part → p ≡ part → code ≡ func_code called → mid ≡ old ++ code ∷ [] → OnOk r (new ≡ mid ++ expr_text columns p)
      → OnOk r (new ≡ old ++ expr_text columns expr)
  call_written called part p code is same is_code first second =
      spelled (code ∷ expr_text columns p)
      (ap (expr_text columns) is ∙ call_node columns called part ∙ ap₂ (λ (n : ℕ) (x : Expr). n ∷ expr_text columns x) (sym is_code) (sym same))
      (behind_byte r old mid new code (expr_text columns p) first second)

  pub product_written : (front : List ℕ) (first f : Expr) (parts : List (Op × Expr)) → expr ≡ tree.Product first parts → f ≡ first → front ≡ old ++ 7 ∷ [] → mid ≡ front ++ expr_text columns f
      → OnOk r (new ≡ mid ++ factors_text columns parts) → OnOk r (new ≡ old ++ expr_text columns expr)
  product_written front first f parts is same one two three =
      spelled (7 ∷ (expr_text columns f ++ factors_text columns parts))
      (ap (expr_text columns) is ∙ product_node columns first parts ∙ ap (λ (x : Expr). 7 ∷ (expr_text columns x ++ factors_text columns parts)) (sym same))
      (behind_byte r old front new 7 (expr_text columns f ++ factors_text columns parts) one (behind_text r front mid new (expr_text columns f) (factors_text columns parts) two three))

-- ---- the whole

pub def_written : (def : TableDef) (start body none head long all b : List ℕ) (n : ℕ) → IsStorableDef def → start ≡ [] → body ≡ start ++ body_text def → none ≡ [] → head ≡ none ++ head_text → n ≡ length body → n < 2 ^ 64
    → long ≡ head ++ le_bytes 8 n → b ≡ body → all ≡ long ++ b → Spells all def
unfolding def_text
def_written def start body none head long all b n storable e0 e1 e2 e3 e4 few e5 e6 e7 =
    let is_body : body ≡ body_text def = e1 ∙ ap (λ (x : List ℕ). x ++ body_text def) e0 in
    let is_head : head ≡ head_text = e3 ∙ ap (λ (x : List ℕ). x ++ head_text) e2 in
    let many : n ≡ length (body_text def) = e4 ∙ ap (λ (x : List ℕ). length x) is_body in
    record {
      storable = storable;
      few = omega (arith, many, few);
      text = e7 ∙ ap₂ (λ (x y : List ℕ). x ++ y) (e5 ∙ ap₂ (λ (x : List ℕ) (k : ℕ). x ++ le_bytes 8 k) is_head many) (e6 ∙ is_body) ∙ append_assoc head_text (le_bytes 8 (length (body_text def))) (body_text def);
    }
