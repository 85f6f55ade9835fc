-- What holds of the definitions themselves.
use Rattle.std.specs.Prelude.{◌≡◌, ◌↔◌, ℕ, suc, ◌+◌, ◌<◌, ◌≤◌, true, ◌==◌, if◌then◌else◌, is_some, List, [], ◌∷◌, ◌++◌, length, drop, Option, Some, false}
use Rattle.std.specs.List.{list_all}
use Rattle.std.specs.Option.{option_map, option_and_then}
use Rattle.pt_token.specs.declared.token.Token.{Token}
use Rattle.pt_token.specs.declared.fault.LexFault.{LexFault}
use Rattle.pt_token.specs.declared.quoting.Quoting.TheVariants.{Within}
use Rattle.pt_token.specs.declared.state.State.TheVariants.{Plain, Quote, Line, Opened, Block, Read}
use Rattle.pt_token.specs.Bytes.{is_quote}
use Rattle.pt_token.specs.Ends.{line_end, quote_end, comment_end, read_end}
use Rattle.pt_token.specs.Outside.{ArePieces, IsCutAt}
use Rattle.pt_token.specs.Pieces.{cut_in, cuts, fits, most_piece, most_script, pieces, pieces_after, used_by}
use Rattle.pt_token.specs.Splitting.{next_cut, piece_after}
use Rattle.pt_token.specs.Gap.{IsBlank, opened_end}
use Rattle.pt_token.specs.Machine.{closing}
use Rattle.pt_token.specs.Quoting.{text_end}
use Rattle.pt_token.specs.Tokens.{HasFault, IsLexed}

-- what one feed leaves to be read
abbrev pub unread : List ℕ → List ℕ → List ℕ
unread piece bytes = drop (used_by (next_cut piece bytes) bytes) bytes

-- The pieces, as one feed of bytes gives them and what comes behind: the whole piece and those of the rest, or those that
-- begin with the piece so far.
abbrev pub fed_pieces : List ℕ → List ℕ → List ℕ → List (List ℕ)
fed_pieces piece bytes rest =
    if is_some (next_cut piece bytes) then piece_after piece bytes ∷ pieces (unread piece bytes ++ rest)
    else pieces_after (piece_after piece bytes) (unread piece bytes ++ rest)

-- The pieces of a script don't depend on the chunks in which its bytes are fed.
abbrev pub FeedsGivePieces : Type 0
FeedsGivePieces = (piece bytes rest : List ℕ) → pieces_after piece (bytes ++ rest) ≡ fed_pieces piece bytes rest

-- A script within the limits is cut into its pieces.
abbrev pub CutsAreAll : Type 0
CutsAreAll = (script : List ℕ) → length script ≤ most_script → list_all fits (pieces script) ≡ true → cuts script ≡ pieces script

-- Where pieces that fit were cut, and the next one is too long with the bytes that come, these pieces are the cuts.
abbrev pub CutsEnd : Type 0
CutsEnd = (script : List ℕ) (found : List (List ℕ)) (piece bytes rest : List ℕ) → length script ≤ most_script → list_all fits found ≡ true
    → pieces script ≡ found ++ pieces_after piece (bytes ++ rest) → most_piece < length (piece_after piece bytes) → cuts script ≡ found

-- A piece is blank exactly where it has no token and no lexical fault.
abbrev pub BlankHasNoToken : Type 0
BlankHasNoToken = (piece : List ℕ) → IsBlank piece ↔ IsLexed piece []

-- A piece has one list of tokens at most, or one first fault, and never both.
pub record OneLexing : Type 0 where
  pub tokens : (piece : List ℕ) (all others : List Token) → IsLexed piece all → IsLexed piece others → all ≡ others
  pub fault : (piece : List ℕ) (first other : LexFault) → HasFault false 0 piece first → HasFault false 0 piece other → first ≡ other
  pub apart : (piece : List ℕ) (all : List Token) (first : LexFault) → IsLexed piece all → HasFault false 0 piece first → ⊥

-- The machine's first cut is the first `;` outside quotes and comments.
abbrev pub CutsOutside : Type 0
CutsOutside = (bytes : List ℕ) (place : ℕ) → (cut_in Plain bytes ≡ Some place) ↔ IsCutAt bytes place

-- The pieces are what stands between these.
abbrev pub PiecesOutside : Type 0
PiecesOutside = (script : List ℕ) (found : List (List ℕ)) → (pieces script ≡ found) ↔ ArePieces script found

-- The machine leaves a line, a quote and what `/*` opens at their ends, and goes on where these have none.
pub record IsLeftAtEnds (bytes : List ℕ) : Type 0 where
  pub line : closing Line bytes ≡ line_end bytes
  pub quote : (mark : ℕ) → closing (Quote mark) bytes ≡ quote_end mark false bytes
  pub comment : closing Block bytes ≡ comment_end bytes
  pub read : closing Read bytes ≡ read_end 0 bytes
  pub opened : closing Opened bytes ≡ opened_end bytes

-- so from every place on
abbrev pub EndsFirst : Type 0
EndsFirst = (bytes : List ℕ) → IsLeftAtEnds bytes

-- how many bytes a text has behind a quote that may end it: a second one and what follows, or none
abbrev pub doubled_end : ℕ → List ℕ → Option ℕ
doubled_end mark [] = Some 0
doubled_end mark (b ∷ bytes) = if b == mark then option_map suc (text_end mark Within bytes) else Some 0

-- A text of the tokens ends at the first quote that no backslash escapes, as the cuts have it; but where a second quote stands
-- right behind that one, it goes on behind the second. Where there is no such quote, it is open.
abbrev pub TextsEnd : Type 0
TextsEnd = (mark : ℕ) (bytes : List ℕ) → text_end mark Within bytes
    ≡ option_and_then (λ n. option_map (λ more. n + more) (doubled_end mark (drop n bytes))) (quote_end mark false bytes)

-- The cuts pass over a text of the tokens as a whole: they go on where it ends, and where it is open there is no cut behind its
-- first quote.
abbrev pub PassesTexts : Type 0
PassesTexts = (mark : ℕ) (bytes : List ℕ) → is_quote mark ≡ true → cut_in Plain (mark ∷ bytes)
    ≡ option_map suc (option_and_then (λ n. option_map (λ place. n + place) (cut_in Plain (drop n bytes))) (text_end mark Within bytes))
