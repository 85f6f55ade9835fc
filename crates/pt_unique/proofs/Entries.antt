-- The entry of a row, key by key.
use Rattle.std.proofs.Common.{◌≡◌, ℕ, ◌+◌, ◌<◌, List, [], ◌∷◌, ◌++◌, map, length, take, get_or, sym, ap, ap₂, ◌∙◌, arith, add-one}
use Rattle.std.specs.List.{enumerate_from}
use Rattle.std.proofs.Math.Seq.{take-suc}
use Rattle.std.proofs.lemmas.List.{length-map, get_or-map, length-take}
use Rattle.std.proofs.lemmas.List.FromFn.{length-enumerate_from, get_or-enumerate_from}
use Rattle.pt_value.specs.declared.value.Value.{Value}
use Rattle.pt_ast.specs.Bounds.{cells_at}
use Rattle.pt_unique.specs.Book.{entry_of}
use Rattle.pt_unique.proofs.Marks.{Mark}

pub length-entry_of : (keys : List (List ℕ)) (cells : List Value) → length (entry_of keys cells) ≡ length keys
length-entry_of keys cells = length-enumerate_from 0 (map (cells_at cells) keys) ∙ length-map keys (cells_at cells)

enumerate_push : {X Y : Type 0} (f : X → Y) (n : ℕ) (xs : List X) (x : X) → enumerate_from n (map f (xs ++ x ∷ [])) ≡ enumerate_from n (map f xs) ++ (n + length xs, f x) ∷ []
enumerate_push f n [] x = ap (λ k. (k, f x) ∷ []) (omega arith)
enumerate_push {Y = Y} f n (y ∷ ys) x =
    ap (λ (more : List (ℕ × Y)). (n, f y) ∷ more)
    (enumerate_push f (n + 1) ys x ∙ ap (λ k. enumerate_from (n + 1) (map f ys) ++ (k, f x) ∷ []) (omega arith))

take_more : {X : Type 0} (xs : List X) (i : ℕ) (x : X) → i < length xs → x ≡ get_or xs i x → take (i + 1) xs ≡ take i xs ++ x ∷ []
take_more xs i x within is = ap (λ n. take n xs) (add-one i) ∙ take-suc xs i x within ∙ ap (λ y. take i xs ++ y ∷ []) (sym is)

length_take : {X : Type 0} (xs : List X) (i : ℕ) → i < length xs → length (take i xs) ≡ i
length_take xs i within = length-take i xs ∙ omega arith

-- with one key more
entry_more : (keys : List (List ℕ)) (cells : List Value) (i : ℕ) (key : List ℕ) → i < length keys → key ≡ get_or keys i key
    → entry_of (take (i + 1) keys) cells ≡ entry_of (take i keys) cells ++ (i, cells_at cells key) ∷ []
entry_more keys cells i key within is =
    ap (λ ks. entry_of ks cells) (take_more keys i key within is)
    ∙ enumerate_push (cells_at cells) 0 (take i keys) key
    ∙ ap (λ n. entry_of (take i keys) cells ++ (n, cells_at cells key) ∷ []) (let l = length_take keys i within in omega (arith, l))

pub entry_pushed : (keys : List (List ℕ)) (cells : List Value) (i : ℕ) (key : List ℕ) (entry later : List Mark) (tuple : List Value) → i < length keys → key ≡ get_or keys i key
    → entry ≡ entry_of (take i keys) cells → tuple ≡ cells_at cells key → later ≡ entry ++ (i, tuple) ∷ [] → later ≡ entry_of (take (i + 1) keys) cells
entry_pushed keys cells i key entry later tuple within is so_far own pushed =
    pushed ∙ ap₂ (λ (es : List Mark) (t : List Value). es ++ (i, t) ∷ []) so_far own ∙ sym (entry_more keys cells i key within is)

pub entry_checked : (keys : List (List ℕ)) (cells : List Value) (i : ℕ) (key : List ℕ) (entry : List Mark) (mark : Mark) → i < length keys → i < length entry → key ≡ get_or keys i key
    → mark ≡ get_or entry i mark → mark ≡ (i, cells_at cells key) → take i entry ≡ entry_of (take i keys) cells → take (i + 1) entry ≡ entry_of (take (i + 1) keys) cells
entry_checked keys cells i key entry mark within also is own same so_far =
    take_more entry i mark also own ∙ ap₂ (λ (es : List Mark) (m : Mark). es ++ m ∷ []) so_far same ∙ sym (entry_more keys cells i key within is)

-- the mark of a key
pub mark_at : (keys : List (List ℕ)) (cells : List Value) (i : ℕ) (key : List ℕ) (entry : List Mark) (mark : Mark) → i < length keys → key ≡ get_or keys i key
    → mark ≡ get_or entry i mark → entry ≡ entry_of keys cells → mark ≡ (i, cells_at cells key)
mark_at keys cells i key entry mark within is own same =
    own ∙ ap (λ (es : List Mark). get_or es i mark) same
    ∙ get_or-enumerate_from 0 (map (cells_at cells) keys) i mark (omega (arith, length-map keys (cells_at cells)))
    ∙ ap₂ (λ (n : ℕ) (t : List Value). (n, t)) (omega arith) (get_or-map (cells_at cells) keys i key mark.1 within ∙ ap (cells_at cells) (sym is))
