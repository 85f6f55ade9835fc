-- How the pieces of a script follow from those of its front.
use Rattle.std.proofs.Common.{◌≡◌, ℕ, zero, suc, ◌+◌, ◌-◌, ◌<◌, ◌≤◌, Bool, true, false, cond, ◌&&◌, ◌||◌, nat_le, nat_lt, List, [], ◌∷◌, ◌++◌, length, take, drop, Option, Some, None, refl, ap, ◌∙◌, sym, subst, arith, append_assoc, append-nil, length-append}
use Rattle.std.specs.List.{list_all, list_any, take_while}
use Rattle.std.specs.Option.{option_map}
use Rattle.std.proofs.lemmas.Grind.{common_steps}
use Rattle.std.proofs.lemmas.Bool.Decides.{nat_tests}
use Rattle.std.proofs.lemmas.List.Folds.{list_all-append, list_any-append}
use Rattle.std.proofs.Math.Seq.{take-append-add, take-append_seam}
use Rattle.std.proofs.Math.Bool.{or-true}
use Rattle.pt_plain.proofs.Fronts.{take_while-all, take_while-first}
use Rattle.pt_token.specs.declared.state.State.{State}
use Rattle.pt_token.specs.declared.state.State.TheVariants.{Plain}
use Rattle.pt_token.specs.Machine.{is_cut, run, step}
use Rattle.pt_token.specs.Pieces.{before_cut, closed_pieces, cut_in, cuts, fits, most_piece, most_script, pieces, pieces_after}
use Rattle.pt_token.specs.Splitting.{next_cut, piece_after}
use Rattle.pt_token.proofs.Feeding.{goes_on, pieces-goes_on}
use Rattle.pt_token.proofs.Limits.{cuts_are_all}
use Rattle.pt_reading.specs.Script.{has_excess}

-- The pieces of bytes whose front is cut so far, whatever comes behind.
abbrev pub IsCut : List ℕ → List (List ℕ) → List ℕ → Type 0
IsCut front before piece = (rest : List ℕ) → pieces (front ++ rest) ≡ before ++ pieces_after piece rest

pub cut_none : IsCut [] [] []
cut_none rest = refl

-- ---- the cut of bytes is that of their front, up to and with it

suc_some : (cut : Option ℕ) (place : ℕ) → option_map suc cut ≡ Some place → (n : ℕ) × (cut ≡ Some n) × (place ≡ suc n)
suc_some None place e = absurd (cc)
suc_some (Some n) place e = (n, refl, sym (ap (λ o. elim o [ None ↦ 0 | Some k ↦ k ]) e))

cut-front : (s : State) (bytes : List ℕ) (place : ℕ) → cut_in s bytes ≡ Some place → cut_in s (take (suc place) bytes) ≡ Some place
unfolding cut_in
cut-front s [] place e = absurd (cc)
cut-front s (b ∷ bytes) place e = by_test (is_cut s b) e (cut-front (step s b) bytes)
  where
    by_test : (test : Bool) → cond test (Some 0) (option_map suc (cut_in (step s b) bytes)) ≡ Some place
        → ((n : ℕ) → cut_in (step s b) bytes ≡ Some n → cut_in (step s b) (take (suc n) bytes) ≡ Some n)
        → cond test (Some 0) (option_map suc (cut_in (step s b) (take place bytes))) ≡ Some place
    by_test true e later = e
    by_test false e later =
        let found = suc_some (cut_in (step s b) bytes) place e in
        rw found.2 (ap (option_map suc) (later found.0 found.1))

take-part : (n : ℕ) (bytes : List ℕ) → take n (take (suc n) bytes) ≡ take n bytes
take-part zero bytes = refl
take-part (suc n) [] = refl
take-part (suc n) (b ∷ bytes) = ap (λ bs. b ∷ bs) (take-part n bytes)

drop-part : (n : ℕ) (bytes : List ℕ) → drop (suc n) (take (suc n) bytes) ≡ []
drop-part n [] = refl
drop-part zero (b ∷ bytes) = refl
drop-part (suc n) (b ∷ bytes) = drop-part n bytes

-- ---- more bytes

-- bytes with no cut
pub cut_open : (front : List ℕ) (before : List (List ℕ)) (piece bytes : List ℕ) → IsCut front before piece → next_cut piece bytes ≡ None
    → IsCut (front ++ bytes) before (piece ++ bytes)
cut_open front before piece bytes cut none rest =
    ap pieces (append_assoc front bytes rest) ∙ cut (bytes ++ rest)
    ∙ ap (λ ps. before ++ ps) (pieces-goes_on piece bytes rest ∙ ap (λ c. goes_on c piece bytes rest) none)

-- bytes up to and with the first cut
pub cut_closed : (front : List ℕ) (before : List (List ℕ)) (piece bytes : List ℕ) (place : ℕ) → IsCut front before piece → next_cut piece bytes ≡ Some place
    → IsCut (front ++ take (suc place) bytes) (before ++ (piece ++ take place bytes) ∷ []) []
cut_closed front before piece bytes place cut some rest =
    let part = take (suc place) bytes in
    let on : place + 1 ≡ suc place = omega arith in
    ap pieces (append_assoc front part rest) ∙ cut (part ++ rest)
    ∙ ap (λ ps. before ++ ps) (pieces-goes_on piece part rest ∙ ap (λ c. goes_on c piece part rest) (cut-front (run Plain piece) bytes place some))
    ∙ ap (λ q. before ++ (piece ++ q) ∷ pieces_after [] (drop (place + 1) part ++ rest)) (take-part place bytes)
    ∙ ap (λ q. before ++ (piece ++ take place bytes) ∷ pieces_after [] (q ++ rest)) (ap (λ n. drop n part) on ∙ drop-part place bytes)
    ∙ sym (append_assoc before ((piece ++ take place bytes) ∷ []) (pieces_after [] rest))

-- the pieces where nothing comes behind
pub cut_end : (all : List ℕ) (before : List (List ℕ)) (piece : List ℕ) → IsCut all before piece → pieces all ≡ before ++ piece ∷ []
unfolding pieces_after
cut_end all before piece cut = ap pieces (sym (append-nil all)) ∙ cut []

-- ---- a first piece is no shorter than the bytes that it begins with

record HasFirst (front : List ℕ) (all : List (List ℕ)) : Type 0 where
  piece : List ℕ
  others : List (List ℕ)
  is : all ≡ piece ∷ others
  no_shorter : length front ≤ length piece

first_piece : (piece bytes : List ℕ) → HasFirst piece (pieces_after piece bytes)
unfolding pieces_after
first_piece piece [] = record { piece = piece; others = []; is = refl; no_shorter = omega arith }
first_piece piece (b ∷ bytes) = by_test (is_cut (run Plain piece) b) (first_piece (piece ++ b ∷ []) bytes)
  where
    by_test : (test : Bool) → HasFirst (piece ++ b ∷ []) (pieces_after (piece ++ b ∷ []) bytes)
        → HasFirst piece (cond test (piece ∷ pieces_after [] bytes) (pieces_after (piece ++ b ∷ []) bytes))
    by_test true first = record { piece = piece; others = pieces_after [] bytes; is = refl; no_shorter = omega arith }
    by_test false first = record { piece = first.piece; others = first.others; is = first.is; no_shorter = omega (arith, first.no_shorter, length-append piece (b ∷ [])) }

fed_first : (piece bytes rest : List ℕ) → HasFirst (piece_after piece bytes) (pieces_after piece (bytes ++ rest))
fed_first piece bytes rest = subst (HasFirst (piece_after piece bytes)) (sym (pieces-goes_on piece bytes rest)) (by_cut (next_cut piece bytes))
  where
    by_cut : (cut : Option ℕ) → HasFirst (piece ++ before_cut cut bytes) (goes_on cut piece bytes rest)
    by_cut None = first_piece (piece ++ bytes) rest
    by_cut (Some place) = record { piece = piece ++ take place bytes; others = pieces_after [] (drop (place + 1) bytes ++ rest); is = refl; no_shorter = omega arith }

-- ---- the limits

both : (a b : Bool) → (a && b) ≡ true → (a ≡ true) × (b ≡ true)
both true b e = (refl, e)
both false b e = cc

take-but_last : {X : Type 0} (xs : List X) (y : X) → take (length (xs ++ y ∷ []) - 1) (xs ++ y ∷ []) ≡ xs
take-but_last xs y = grind (arith, common_steps)

take-but_last_of : {X : Type 0} (xs : List X) (y z : X) (ys : List X) → take (length (xs ++ y ∷ z ∷ ys) - 1) (xs ++ y ∷ z ∷ ys) ≡ xs ++ y ∷ take (length ys) (z ∷ ys)
take-but_last_of xs y z ys =
    ap (λ n. take n (xs ++ y ∷ z ∷ ys)) (let e : length (xs ++ y ∷ z ∷ ys) - 1 ≡ length xs + suc (length ys) = grind (arith, common_steps) in e)
    ∙ take-append-add xs (y ∷ z ∷ ys) (suc (length ys))

module _ {X : Type 0} (p : X → Bool) where
  -- the last one is left out
  take_while-front : (xs : List X) (y : X) (ys : List X) → list_all p xs ≡ true → p y ≡ false → take_while p (take (length (xs ++ y ∷ ys) - 1) (xs ++ y ∷ ys)) ≡ xs
  take_while-front xs y [] e f = ap (take_while p) (take-but_last xs y) ∙ take_while-all p xs e
  take_while-front xs y (z ∷ ys) e f = ap (take_while p) (take-but_last_of xs y z ys) ∙ take_while-first p xs y _ e f

  list_any-first : (xs : List X) (y : X) (ys : List X) → p y ≡ true → list_any p (xs ++ y ∷ ys) ≡ true
  list_any-first xs y ys e = list_any-append p xs (y ∷ ys) ∙ rw e (or-true (list_any p xs))

abbrev long : List ℕ → Bool
long piece = nat_lt most_piece (length piece)

long_fails : (piece : List ℕ) → most_piece < length piece → fits piece ≡ false
long_fails piece h = grind (arith, nat_tests)

long_passes : (piece : List ℕ) → most_piece < length piece → long piece ≡ true
long_passes piece h = grind (arith, nat_tests)

pub short_fits : (piece : List ℕ) → length piece ≤ most_piece → fits piece ≡ true
short_fits piece h = grind (arith, nat_tests)

not_long : (ps : List (List ℕ)) → list_all fits ps ≡ true → list_any long ps ≡ false
not_long [] e = refl
not_long (q ∷ ps) e = let h = both (fits q) (list_all fits ps) e in
    rw (let f : long q ≡ false = grind (arith, nat_tests, h.0) in f) (not_long ps h.1)

-- The whole script is within the limits.
pub whole_cuts : (all : List ℕ) (before : List (List ℕ)) (piece : List ℕ) → IsCut all before piece → list_all fits before ≡ true → length piece ≤ most_piece → length all ≤ most_script
    → (cuts all ≡ before ++ piece ∷ []) × (has_excess all ≡ false)
unfolding cuts has_excess
whole_cuts all before piece cut is short room =
    let e : pieces all ≡ before ++ piece ∷ [] = cut_end all before piece cut in
    let each : list_all fits (before ++ piece ∷ []) ≡ true = list_all-append fits before (piece ∷ []) ∙ rw (is, short_fits piece short) refl in
    let in_limit : nat_le (length all) most_script ≡ true = grind (arith, nat_tests) in
    let within : nat_lt most_script (length all) ≡ false = grind (arith, nat_tests) in (
      rw (in_limit, e) (take_while-all fits (before ++ piece ∷ []) each),
      rw (within, e) (not_long (before ++ piece ∷ []) each),
    )

take_front : (xs ys : List ℕ) (n : ℕ) → length xs ≤ n → take n (xs ++ ys) ≡ xs ++ take (n - length xs) ys
take_front xs ys n h = ap (λ k. take k (xs ++ ys)) (let k : n ≡ length xs + (n - length xs) = omega arith in k) ∙ take-append-add xs ys (n - length xs)

either_list : (test : Bool) (a b c : List (List ℕ)) → take_while fits a ≡ c → take_while fits b ≡ c → take_while fits (cond test a b) ≡ c
either_list true a b c x y = x
either_list false a b c x y = y

-- The piece that is open is too long with these bytes, whatever comes behind.
pub long_cuts : (front : List ℕ) (before : List (List ℕ)) (piece bytes : List ℕ) → IsCut front before piece → list_all fits before ≡ true
    → most_piece < length (piece_after piece bytes) → length (front ++ bytes) ≤ most_script
    → (rest : List ℕ) → (cuts ((front ++ bytes) ++ rest) ≡ before) × (has_excess ((front ++ bytes) ++ rest) ≡ true)
unfolding cuts has_excess
long_cuts front before piece bytes cut is passed room rest =
    let all = (front ++ bytes) ++ rest in
    let some = take (most_script - length (front ++ bytes)) rest in
    let one = fed_first piece bytes rest in
    let two = fed_first piece bytes some in
    let e : pieces all ≡ before ++ one.piece ∷ one.others =
    ap pieces (append_assoc front bytes rest) ∙ cut (bytes ++ rest) ∙ ap (λ ps. before ++ ps) one.is in
    let f : pieces (take most_script all) ≡ before ++ two.piece ∷ two.others =
    ap pieces (take_front (front ++ bytes) rest most_script room ∙ append_assoc front bytes some) ∙ cut (bytes ++ some) ∙ ap (λ ps. before ++ ps) two.is in
    let long_one : most_piece < length one.piece = omega (arith, one.no_shorter, passed) in
    let long_two : most_piece < length two.piece = omega (arith, two.no_shorter, passed) in
    let whole : take_while fits (pieces all) ≡ before = rw e (take_while-first fits before one.piece one.others is (long_fails _ long_one)) in
    let part : take_while fits (closed_pieces (take most_script all)) ≡ before = rw f (take_while-front fits before two.piece two.others is (long_fails _ long_two)) in (
      either_list (nat_le (length all) most_script) _ _ _ whole part,
      rw (e, list_any-first long before one.piece one.others (long_passes _ long_one)) (or-true (nat_lt most_script (length all))),
    )

-- The script goes on past its limit.
pub script_cuts : (front : List ℕ) (before : List (List ℕ)) (piece : List ℕ) → IsCut front before piece → list_all fits before ≡ true → length front ≡ most_script
    → (b : ℕ) (rest : List ℕ) → (cuts (front ++ b ∷ rest) ≡ before) × (has_excess (front ++ b ∷ rest) ≡ true)
unfolding cuts has_excess
script_cuts front before piece cut is full b rest =
    let more : length (front ++ b ∷ rest) ≡ length front + suc (length rest) = length-append front (b ∷ rest) in
    let past : nat_le (length (front ++ b ∷ rest)) most_script ≡ false = grind (arith, nat_tests, more) in
    let passed : nat_lt most_script (length (front ++ b ∷ rest)) ≡ true = grind (arith, nat_tests, more) in
    let taken : take most_script (front ++ b ∷ rest) ≡ front = subst (λ n. take n (front ++ b ∷ rest) ≡ front) full (take-append_seam front (b ∷ rest)) in
    (rw (past, taken, cut_end front before piece cut, take-but_last before piece) (take_while-all fits before is), rw passed refl)

neither : (a b : Bool) → (a || b) ≡ false → (a ≡ false) × (b ≡ false)
neither true b e = cc
neither false b e = (refl, e)

none_long : (ps : List (List ℕ)) → list_any long ps ≡ false → list_all fits ps ≡ true
none_long [] e = refl
none_long (q ∷ ps) e = let h = neither (long q) (list_any long ps) e in
    rw (let f : fits q ≡ true = grind (arith, nat_tests, h.0) in f) (none_long ps h.1)

-- A script that passes no limit is cut into its pieces.
pub all_cuts : (script : List ℕ) → has_excess script ≡ false → cuts script ≡ pieces script
unfolding has_excess
all_cuts script within =
    let h = neither (nat_lt most_script (length script)) (list_any long (pieces script)) within in
    let room : length script ≤ most_script = grind (arith, nat_tests, h.0) in
    cuts_are_all script room (none_long (pieces script) h.1)
