-- One turn of taking the input.
use Rattle.std.proofs.Common.{◌≡◌, ℕ, ◌≤◌, ◌^◌, true, false, not, nat_le, if◌then◌else◌, List, ◌++◌, length, take, drop, [], ap, ◌∙◌, sym, arith, append_assoc, take-append-drop, All}
use Rattle.std.proofs.lemmas.Bool.{leb-true}
use Rattle.std.proofs.lemmas.Grind.{common_steps}
use Rattle.std.proofs.lemmas.List.Elements.{All-filter, All-same, All-weaker}
use Rattle.pt_host.specs.World.{World, Takes, after_take}
use Rattle.pt_plain.proofs.Fronts.{front_passes}
use Rattle.pt_token.specs.Pieces.{closed_pieces, cuts, fits, most_piece, most_script, pieces}
use Rattle.pt_reading.specs.declared.script.Script.{Script}
use Rattle.pt_reading.specs.Blank.{is_blank}
use Rattle.pt_reading.specs.Script.{TakesWithin, statements}
use Rattle.pt_reading.specs.Taking.{IsCutShort, IsWhole}
use Rattle.pt_reading.specs.Taking.{Takes as Feeds}
use Rattle.pt_engine.specs.Input.{with_input, TakesOnly, TakesScript, TakesFront}
use Rattle.pt_reading.proofs.TakingLemmas.{taken_within}

-- # The statements of a script keep the limit of a piece

abbrev IsShort : List ℕ → Type 0
IsShort piece = length piece ≤ 2 ^ 20

statements_short : (script : List ℕ) → All IsShort (statements script)
unfolding cuts
statements_short script =
    All-filter (λ piece. not (is_blank piece)) IsShort (cuts script)
    (All-weaker (λ piece. fits piece ≡ true) IsShort (λ piece e. leb-true (length piece) most_piece e) (cuts script) (front_passes fits (if nat_le (length script) most_script then pieces script else closed_pieces (take most_script script))))

pub short_cut : (script : Script) (front : List ℕ) → IsCutShort front script → All IsShort script.statements
short_cut script front is = All-same IsShort script.statements _ (is []).0 (statements_short (front ++ []))

pub short_whole : (script : Script) (all : List ℕ) → IsWhole all script → All IsShort script.statements
short_whole script all is = All-same IsShort script.statements _ is.statements (statements_short all)

-- # One turn

-- what was taken, and what is left
taken_bytes : (input before after bytes : List ℕ) (count : ℕ) → Takes input count before after → bytes ≡ take count after → bytes ≡ take count input
taken_bytes input before after bytes count takes is = is ∙ rw takes.bytes (let h = takes.fits in grind (arith, common_steps))

pub only_take : (old w new : World) (count : ℕ) → TakesOnly old w → new ≡ after_take count w → TakesOnly old new
only_take old w new count only is = is ∙ ap (after_take count) only ∙ ap (λ input. with_input input old) (sym (ap (λ v. v.input) is))

left_input : (old w new : World) (front bytes before after : List ℕ) (count : ℕ) → old.input ≡ front ++ w.input → Takes w.input count before after → bytes ≡ take count after → new ≡ after_take count w
    → old.input ≡ (front ++ bytes) ++ new.input
left_input old w new front bytes before after count input takes is same =
    let rest : new.input ≡ drop count w.input = ap (λ v. v.input) same in
    input ∙ ap (λ xs. front ++ xs) (sym (take-append-drop count w.input))
    ∙ rw (taken_bytes w.input before after bytes count takes is, rest) (sym (append_assoc front (take count w.input) (drop count w.input)))

module _ (old w new : World) (script fed : Script) (before after bytes : List ℕ) (count : ℕ)
    (takes : Takes w.input count before after) (is : bytes ≡ take count after) (same : new ≡ after_take count w)
    (had : TakesFront old w script) where
  pub front_more : Feeds had.front bytes true fed → TakesFront old new fed
  front_more more = record {
    only = only_take old w new count had.only same;
    front = had.front ++ bytes;
    taken = more;
    input = left_input old w new had.front bytes before after count had.input takes is same;
  }

  pub front_short : Feeds had.front bytes false fed → TakesScript old new (record { statements = fed.statements; too_long = true })
  front_short short =
      let e = short new.input in
      let input : old.input ≡ (had.front ++ bytes) ++ new.input = left_input old w new had.front bytes before after count had.input takes is same in
      record {
        only = only_take old w new count had.only same;
        statements = rw input e.0;
        too_long = rw input (sym e.1);
        to_the_end = λ f. cc;
      }

-- what was taken up to now passes no limit
pub stopped_within : (old w : World) (script : Script) → TakesFront old w script → TakesWithin old.input w.input
stopped_within old w script had = record { taken = had.front; is = had.input; within = taken_within script had.front had.taken }
