-- Each step of taking a script keeps what was taken cut.
use Rattle.std.proofs.Common.{◌≡◌, ℕ, suc, ◌+◌, ◌-◌, ◌<◌, ◌≤◌, Bool, true, false, cond, not, List, [], ◌∷◌, ◌++◌, length, take, drop, filter, Option, Some, None, is_some, refl, ap, ◌∙◌, sym, subst, arith, append_assoc, length-append, length-take, length-drop, take-append-drop}
use Rattle.std.proofs.lemmas.Grind.{common_steps}
use Rattle.std.proofs.lemmas.List.{take_all}
use Rattle.std.proofs.lemmas.List.Folds.{list_all-append}
use Rattle.std.proofs.lemmas.List.Elements.{filter-append}
use Rattle.pt_token.specs.Pieces.{before_cut, fits, most_piece, most_script, used_by}
use Rattle.pt_token.specs.Splitting.{next_cut, piece_after}
use Rattle.pt_reading.specs.declared.script.Script.{Script}
use Rattle.pt_reading.specs.Blank.{is_blank}
use Rattle.pt_reading.specs.Script.{has_excess, with_piece}
use Rattle.pt_reading.specs.Taking.{IsTaken, IsCutShort, IsWhole, TakesPart}
use Rattle.pt_reading.proofs.Cuts.{cut_none, cut_open, cut_closed, short_fits, whole_cuts, long_cuts, script_cuts}

abbrev is_statement : List ℕ → Bool
is_statement piece = not (is_blank piece)

with_piece-filter : (piece : List ℕ) (before : List (List ℕ)) (kept : List (List ℕ)) → kept ≡ filter is_statement before → with_piece piece kept ≡ filter is_statement (before ++ piece ∷ [])
with_piece-filter piece before kept e = rw (e, filter-append is_statement before (piece ∷ [])) (by_blank (is_blank piece))
  where
    by_blank : (v : Bool) → cond v (filter is_statement before) (filter is_statement before ++ piece ∷ []) ≡ filter is_statement before ++ cond (not v) (piece ∷ []) []
    by_blank true = grind (arith, common_steps)
    by_blank false = refl

pub taken_none : (script : Script) → script.statements ≡ [] → script.splitter.piece ≡ [] → script.taken ≡ 0 → IsTaken [] script
taken_none script s p t = record { closed = []; cut = λ rest. rw p (cut_none rest); short = refl; statements = s; count = sym t }

-- ---- up to the first cut

none_of : (cut : Option ℕ) → is_some cut ≡ false → cut ≡ None
none_of None e = refl
none_of (Some n) e = absurd (cc)

some_of : (cut : Option ℕ) → is_some cut ≡ true → (n : ℕ) × (cut ≡ Some n)
some_of None e = absurd (cc)
some_of (Some n) e = (n, refl)

part_count : (front bytes : List ℕ) (used before after : ℕ) → used ≤ length bytes → length front ≡ before → after ≡ before + used → length (front ++ take used bytes) ≡ after
part_count front bytes used before after within count more = omega (arith, length-append front (take used bytes), length-take used bytes, within, count, more)

-- there is no cut
pub part_open : (old new : Script) (bytes : List ℕ) (used : ℕ) → is_some (next_cut old.splitter.piece bytes) ≡ false → used ≡ used_by (next_cut old.splitter.piece bytes) bytes
    → new.statements ≡ old.statements → new.splitter.piece ≡ piece_after old.splitter.piece bytes → new.taken ≡ old.taken + used → TakesPart bytes used old new
part_open old new bytes used none is s p t =
    let cut : next_cut old.splitter.piece bytes ≡ None = none_of _ none in
    let all : used ≡ length bytes = is ∙ ap (λ c. used_by c bytes) cut in
    let piece : new.splitter.piece ≡ old.splitter.piece ++ bytes = p ∙ ap (λ c. old.splitter.piece ++ before_cut c bytes) cut in
    let whole : take used bytes ≡ bytes = take_all used bytes (omega (arith, all)) in
    record {
      some = λ h. omega (arith, h, all);
      within = omega (arith, all);
      taken = λ front taken. record {
        closed = taken.closed;
        cut = λ rest. rw (piece, whole) (cut_open front taken.closed old.splitter.piece bytes taken.cut cut rest);
        short = taken.short;
        statements = s ∙ taken.statements;
        count = part_count front bytes used old.taken new.taken (omega (arith, all)) taken.count t;
      };
      count = t;
    }

-- the piece is closed
pub part_closed : (old new : Script) (bytes : List ℕ) (used : ℕ) → is_some (next_cut old.splitter.piece bytes) ≡ true → used ≡ used_by (next_cut old.splitter.piece bytes) bytes
    → used ≤ length bytes → length (piece_after old.splitter.piece bytes) ≤ most_piece
    → new.statements ≡ with_piece (piece_after old.splitter.piece bytes) old.statements → new.splitter.piece ≡ [] → new.taken ≡ old.taken + used → TakesPart bytes used old new
part_closed old new bytes used some is within short s p t =
    let found = some_of (next_cut old.splitter.piece bytes) some in
    let whole = old.splitter.piece ++ take found.0 bytes in
    let piece : piece_after old.splitter.piece bytes ≡ whole = ap (λ c. old.splitter.piece ++ before_cut c bytes) found.1 in
    let place : used ≡ suc found.0 = omega (arith, is ∙ ap (λ c. used_by c bytes) found.1) in
    let fit : fits whole ≡ true = short_fits whole (subst (λ (q : List ℕ). length q ≤ most_piece) piece short) in
    record {
      some = λ h. omega (arith, place);
      within = within;
      taken = λ front taken. record {
        closed = taken.closed ++ whole ∷ [];
        cut = λ rest. rw (p, place) (cut_closed front taken.closed old.splitter.piece bytes found.0 taken.cut found.1 rest);
        short = list_all-append fits taken.closed (whole ∷ []) ∙ rw (taken.short, fit) refl;
        statements = s ∙ ap (λ q. with_piece q old.statements) piece ∙ with_piece-filter whole taken.closed old.statements taken.statements;
        count = part_count front bytes used old.taken new.taken within taken.count t;
      };
      count = t;
    }

-- the piece is too long
pub part_long : (old new : Script) (bytes : List ℕ) → most_piece < length (piece_after old.splitter.piece bytes) → old.taken + length bytes ≤ most_script
    → new.statements ≡ old.statements → (front : List ℕ) → IsTaken front old → IsCutShort (front ++ bytes) new
part_long old new bytes passed room s front is rest =
    let within : length (front ++ bytes) ≤ most_script = omega (arith, room, length-append front bytes, is.count) in
    let e = long_cuts front is.closed old.splitter.piece bytes is.cut is.short passed within rest in
    (s ∙ is.statements ∙ ap (filter is_statement) (sym e.0), e.1)

-- ---- over bytes

-- These of the bytes were taken, and this rest is left.
pub record IsOver (old new : Script) (bytes rest : List ℕ) : Type 0 where
  pub seen : List ℕ
  pub is : bytes ≡ seen ++ rest
  pub taken : (front : List ℕ) → IsTaken front old → IsTaken (front ++ seen) new
  pub count : new.taken ≡ old.taken + length seen

pub over_more : (old part new : Script) (bytes rest behind : List ℕ) (used : ℕ) → IsOver old part bytes rest → TakesPart rest used part new → behind ≡ drop used rest
    → IsOver old new bytes behind
over_more old part new bytes rest behind used over more left = record {
  seen = over.seen ++ take used rest;
  is = over.is ∙ ap (λ bs. over.seen ++ bs) (sym (take-append-drop used rest)) ∙ sym (append_assoc over.seen (take used rest) (drop used rest))
      ∙ ap (λ bs. (over.seen ++ take used rest) ++ bs) (sym left);
  taken = λ front is. subst (λ all. IsTaken all new) (append_assoc front over.seen (take used rest)) (more.taken (front ++ over.seen) (over.taken front is));
  count = omega (arith, more.count, over.count, length-append over.seen (take used rest), length-take used rest, more.within);
}

pub over_short : (old part new : Script) (bytes rest : List ℕ) → IsOver old part bytes rest → ((front : List ℕ) → IsTaken front part → IsCutShort (front ++ rest) new)
    → (front : List ℕ) → IsTaken front old → IsCutShort (front ++ bytes) new
over_short old part new bytes rest over short front is =
    subst (λ all. IsCutShort all new) (append_assoc front over.seen rest ∙ ap (λ bs. front ++ bs) (sym over.is)) (short (front ++ over.seen) (over.taken front is))

-- ---- the limit of a script

pub cut_short_more : (script : Script) (front more : List ℕ) → IsCutShort front script → IsCutShort (front ++ more) script
cut_short_more script front more is rest = rw (append_assoc front more rest) (is (more ++ rest))

taken_full : (script : Script) (front more : List ℕ) → script.taken ≡ most_script → 0 < length more → IsTaken front script → IsCutShort (front ++ more) script
taken_full script front [] full some is = absurd (omega (arith, some))
taken_full script front (b ∷ more) full some is = λ rest.
    let e = script_cuts front is.closed script.splitter.piece is.cut is.short (is.count ∙ full) b (more ++ rest) in
    rw (append_assoc front (b ∷ more) rest) (is.statements ∙ ap (filter is_statement) (sym e.0), e.1)

parts : (front bytes : List ℕ) (n : ℕ) → (front ++ take n bytes) ++ drop n bytes ≡ front ++ bytes
parts front bytes n = append_assoc front (take n bytes) (drop n bytes) ∙ ap (λ bs. front ++ bs) (take-append-drop n bytes)

-- those for which there is room have an excess
pub front_short : (script : Script) (front bytes : List ℕ) (n : ℕ) → IsCutShort (front ++ take n bytes) script → IsCutShort (front ++ bytes) script
front_short script front bytes n is = subst (λ all. IsCutShort all script) (parts front bytes n) (cut_short_more script (front ++ take n bytes) (drop n bytes) is)

-- there are more than those
pub front_full : (script : Script) (front bytes : List ℕ) (n before : ℕ) → n ≡ most_script - before → before ≤ most_script → length (take n bytes) < length bytes
    → script.taken ≡ before + length (take n bytes) → IsTaken (front ++ take n bytes) script → IsCutShort (front ++ bytes) script
front_full script front bytes n before room below fewer count is =
    let full : script.taken ≡ most_script = omega (arith, room, below, fewer, count, length-take n bytes) in
    let some : 0 < length (drop n bytes) = omega (arith, fewer, length-take n bytes, length-drop n bytes) in
    subst (λ all. IsCutShort all script) (parts front bytes n) (taken_full script (front ++ take n bytes) (drop n bytes) full some is)

-- ---- the end

pub taken_end : (old new : Script) → new.statements ≡ with_piece old.splitter.piece old.statements → (all : List ℕ) → IsTaken all old → IsWhole all new
taken_end old new s all is =
    let h = old.within in
    let room : length all ≤ most_script = rw is.count h in
    let e = whole_cuts all is.closed old.splitter.piece is.cut is.short old.short room in
    record { statements = s ∙ with_piece-filter old.splitter.piece is.closed old.statements is.statements ∙ ap (filter is_statement) (sym e.0); within = e.1 }

-- nothing that was taken passes a limit
pub taken_within : (script : Script) (front : List ℕ) → IsTaken front script → has_excess front ≡ false
taken_within script front is =
    let h = script.within in
    let room : length front ≤ most_script = rw is.count h in
    (whole_cuts front is.closed script.splitter.piece is.cut is.short script.short room).1
