-- Files of definitions: reading gives a definition exactly where the bytes spell it.
use Rattle.std.proofs.Common.{Fits, get_or, ◌≡◌, ℕ, zero, suc, ◌-◌, ◌+◌, ◌<◌, ◌≤◌, ◌^◌, Bool, true, false, cond, ◌==◌, List, [], ◌∷◌, ◌++◌, length, take, drop, refl, sym, ap, ap₂, ◌∙◌, subst, arith, append_assoc, length-append, length-take, length-drop}
use Rattle.std.specs.Prelude.{Result, Ok, Err, IfOk, nat_le}
use Rattle.std.specs.Int.{w8}
use Rattle.std.specs.Str.{bytes_eq}
use Rattle.std.proofs.lemmas.Bool.{and_from, and_parts, eq-eqb, eqb-true, le-leb, leb-true}
use Rattle.std.proofs.lemmas.List.{take_at, drop_at, drop-drop, take-append-drop}
use Rattle.std.proofs.lemmas.Slice.Eq.{bytes_eq-Decides}
use Rattle.pt_bytes.specs.Numbers.{AreBytes, le_bytes, number_of}
use Rattle.pt_bytes.proofs.Numbers.{again, back, below, length-le_bytes}
use Rattle.pt_ast.specs.declared.table.TableDef.{TableDef}
use Rattle.pt_ast.specs.StorableDef.{IsStorableDef}
use Rattle.pt_defs.specs.Spelling.{Spells, body_text, def_text, head_text}
use Rattle.pt_defs.specs.Reading.{body_at, def_at, has_length, placed}
use Rattle.pt_defs.specs.Fitting.{FitsDef}
use Rattle.pt_defs.specs.Files.{IsFileOf, IsReadFrom}
use Rattle.pt_defs.specs.Given.{Tells}
use Rattle.pt_defs.specs.declared.fault.DefRead.{DefRead}
use Rattle.pt_defs.specs.declared.fault.DefRead.TheVariants as told
use Rattle.pt_defs.specs.Laws.{OneSpelling}
use Rattle.pt_defs.proofs.Steps.{AreBytes-behind, AreBytes-front, one_ok}
use Rattle.pt_defs.proofs.Whole.{body_complete, body_sound}
use Rattle.pt_defs.proofs.Defs.{body_of, storable_of}

-- ---- what is spelled is read

module _ (body : List ℕ) (few : length body < 2 ^ 64) where
  abbrev long : List ℕ
  long = le_bytes 8 (length body)

  abbrev file : List ℕ
  file = head_text ++ (long ++ body)

  is_long : length long ≡ 8
  is_long = length-le_bytes 8 (length body)

  begins_so : bytes_eq (take 4 file) head_text ≡ true
  begins_so = (bytes_eq-Decides (take 4 file) head_text).1 (take_at head_text (long ++ body) 4 refl)

  behind_head : drop 4 file ≡ long ++ body
  behind_head = drop_at head_text (long ++ body) 4 refl

  behind_long : drop 12 file ≡ body
  behind_long = ap (drop 12) (sym (append_assoc head_text long body)) ∙ drop_at (head_text ++ long) body 12 (length-append head_text long ∙ omega (arith, is_long))

  size : length file ≡ 12 + length body
  size = length-append head_text (long ++ body) ∙ omega (arith, length-append long body, is_long)

  says : number_of (take 8 (drop 4 file)) ≡ length body
  says = ap (λ (x : List ℕ). number_of (take 8 x)) behind_head ∙ ap number_of (take_at long body 8 is_long) ∙ again 8 (length body) (omega (arith, few))

  has_it : has_length file ≡ true
  unfolding has_length
  has_it = and_from _ _ (le-leb 12 (length file) (omega (arith, size))) (eq-eqb _ (length file - 12) (says ∙ omega (arith, size)))

  file_read : def_at file ≡ placed (length file) (body_at 300 body)
  unfolding def_at
  file_read =
      ap (λ b. cond b (cond (has_length file) (placed (length file) (body_at 300 (drop 12 file))) (Err 4)) (Err 0)) begins_so
      ∙ ap (λ b. cond b (placed (length file) (body_at 300 (drop 12 file))) (Err 4)) has_it
      ∙ ap (λ (x : List ℕ). placed (length file) (body_at 300 x)) behind_long

pub reads : (bytes : List ℕ) (def : TableDef) → FitsDef def → Spells bytes def → def_at bytes ≡ Ok def
unfolding def_text
reads bytes def fits spells =
    ap def_at spells.text
    ∙ file_read (body_text def) spells.few
    ∙ ap (placed (length (file (body_text def) spells.few))) (body_complete 300 def (body_of def spells.storable fits))

-- ---- what is read is spelled

from_placed : (long : ℕ) (r : Result TableDef ℕ) (def : TableDef) → placed long r ≡ Ok def → r ≡ Ok def
from_placed long (Ok x) def e = e
from_placed long (Err left) def e = absurd cc

record IsFile (bytes : List ℕ) (def : TableDef) : Type 0 where
  head : take 4 bytes ≡ head_text
  long : 12 ≤ length bytes
  says : number_of (take 8 (drop 4 bytes)) ≡ length bytes - 12
  read : body_at 300 (drop 12 bytes) ≡ Ok def

opened : (bytes : List ℕ) (def : TableDef) → def_at bytes ≡ Ok def → IsFile bytes def
unfolding def_at has_length
opened bytes def e = first (bytes_eq (take 4 bytes) head_text) refl e
  where
    second : take 4 bytes ≡ head_text → (b : Bool) → has_length bytes ≡ b → cond b (placed (length bytes) (body_at 300 (drop 12 bytes))) (Err 4) ≡ Ok def → IsFile bytes def
    second head true h f =
        let both = and_parts (nat_le 12 (length bytes)) (number_of (take 8 (drop 4 bytes)) == length bytes - 12) h in
        record { head = head; long = leb-true 12 (length bytes) both.0; says = eqb-true _ _ both.1; read = from_placed (length bytes) (body_at 300 (drop 12 bytes)) def f }
    second head false h f = absurd (let bad : ◌≡◌ {A = Result TableDef ℕ} (Err 4) (Ok def) = f in cc)

    first : (b : Bool) → bytes_eq (take 4 bytes) head_text ≡ b → cond b (cond (has_length bytes) (placed (length bytes) (body_at 300 (drop 12 bytes))) (Err 4)) (Err 0) ≡ Ok def → IsFile bytes def
    first true h f = second ((bytes_eq-Decides (take 4 bytes) head_text).0 h) (has_length bytes) refl f
    first false h f = absurd (let bad : ◌≡◌ {A = Result TableDef ℕ} (Err 0) (Ok def) = f in cc)

pub spells : (bytes : List ℕ) (def : TableDef) → AreBytes bytes → def_at bytes ≡ Ok def → IsFileOf bytes def
unfolding def_text
spells bytes def are e =
    let is = opened bytes def e in
    let rest = drop 4 bytes in
    let number = take 8 rest in
    let body = drop 8 rest in
    let enough : 12 ≤ length bytes = is.long in
    let front : bytes ≡ take 4 bytes ++ rest = sym (take-append-drop 4 bytes) in
    let are_rest : AreBytes rest = AreBytes-behind bytes (take 4 bytes) rest are front in
    let middle : rest ≡ number ++ body = sym (take-append-drop 8 rest) in
    let are_number : AreBytes number = AreBytes-front rest number body are_rest middle in
    let are_body : AreBytes body = AreBytes-behind rest number body are_rest middle in
    let rest_long : length rest ≡ length bytes - 4 = length-drop 4 bytes in
    let eight : length number ≡ 8 = omega (arith, length-take 8 rest, rest_long, enough) in
    let body_long : length body ≡ length bytes - 12 = omega (arith, length-drop 8 rest, rest_long) in
    let same : drop 12 bytes ≡ body = sym (drop-drop 8 4 bytes) in
    let was = body_sound 300 body def are_body (ap (body_at 300) (sym same) ∙ is.read) in
    let text_long : length body ≡ length (body_text def) = ap (λ (x : List ℕ). length x) was.text_is in
    let says : number_of number ≡ length (body_text def) = is.says ∙ sym body_long ∙ text_long in
    let few : number_of number < 256 ^ 8 = subst (λ k. number_of number < 256 ^ k) eight (below number are_number) in
    let spelled : number ≡ le_bytes 8 (length (body_text def)) = sym (back number are_number) ∙ ap₂ (λ (k n : ℕ). le_bytes k n) eight says in
    let both = storable_of def was.is in
    record {
      fits = both.1;
      spells = record {
        storable = both.0;
        few = omega (arith, few, says);
        text = front ∙ ap₂ (λ (x y : List ℕ). x ++ y) is.head (middle ∙ ap₂ (λ (x y : List ℕ). x ++ y) spelled was.text_is);
      };
    }

pub one_spelling : OneSpelling
one_spelling = record {
  read = λ bytes def are. (spells bytes def are, λ is. reads bytes def is.fits is.spells);
  one_text = λ a b def x y. x.text ∙ sym y.text;
  one_def = λ bytes a b x y. one_ok a b (sym (reads bytes a x.fits x.spells) ∙ reads bytes b y.fits y.spells);
}

-- ---- what the calls tell

pub bytes_are : (bytes : List ℕ) → ((i : ℕ) → Fits w8 (get_or bytes i 0)) → AreBytes bytes
bytes_are [] fit k d lt = absurd (omega arith)
bytes_are (b ∷ bytes) fit zero d lt = let h : Fits w8 b = fit 0 in omega arith
bytes_are (b ∷ bytes) fit (suc k) d lt = bytes_are bytes (λ i. fit (suc i)) k d (omega arith)

pub told_file : (r : Result TableDef DefRead) (bytes : List ℕ) → AreBytes bytes → Tells r (def_at bytes) → IsReadFrom r bytes
told_file (Ok def) bytes are told = spells bytes def are told
told_file (Err (told.Bad place)) bytes are told = λ def is. let bad : ◌≡◌ {A = Result TableDef ℕ} (Ok def) (Err place) = sym (reads bytes def is.fits is.spells) ∙ told in absurd cc
told_file (Err told.NoMemory) bytes are told = tt

pub told_storable : (r : Result TableDef DefRead) (bytes : List ℕ) → IsReadFrom r bytes → IfOk r IsStorableDef
told_storable (Ok def) bytes is = is.spells.storable
told_storable (Err fault) bytes is = tt
