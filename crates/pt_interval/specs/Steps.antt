-- In the shape of the code: what two spans share, and a list with one more span. Nothing public cites these.
use Rattle.std.specs.Prelude.{Bool, true, false, List, [], ◌∷◌, ◌++◌, Option, Some, None, if◌then◌else◌}
use Rattle.std.specs.List.{list_all}
use Rattle.std.specs.declared.cmp.Ordering.{Ordering}
use Rattle.pt_interval.specs.Line.{at_most, is_past}
use Rattle.pt_interval.specs.declared.span.Span.{Span}

-- the end a is at or before the end b
abbrev pub ends_by : {T : Type 0} → (T → T → Ordering) → Option T → Option T → Bool
ends_by cmp a None = true
ends_by cmp None (Some b) = false
ends_by cmp (Some a) (Some b) = at_most cmp a b

-- the later of two beginnings
abbrev pub later : {T : Type 0} → (T → T → Ordering) → T → T → T
later cmp a b = if at_most cmp a b then b else a

-- what two spans share, of which p ends first; it may be empty
abbrev pub shared : {T : Type 0} → (T → T → Ordering) → Span T → Span T → Span T
shared cmp p q = record { from = later cmp p.from q.from; to = p.to }

-- the values from `low` on, and below the span; there may be none
abbrev pub gap_before : {T : Type 0} → T → Span T → Span T
gap_before low span = record { from = low; to = Some span.from }

-- the spans, and behind them this one, if it isn't empty
abbrev pub and_span : {T : Type 0} → (T → T → Ordering) → List (Span T) → Span T → List (Span T)
and_span cmp spans span = if is_past cmp span.from span.to then spans else spans ++ span ∷ []

-- all of them end at or before a value
abbrev pub are_done : {T : Type 0} → (T → T → Ordering) → T → List (Span T) → Bool
are_done cmp v spans = list_all (λ span. is_past cmp v span.to) spans

-- where the last span ends, and `low` where there is none
abbrev pub end_of : {T : Type 0} → Option T → List (Span T) → Option T
end_of low [] = low
end_of low (span ∷ rest) = end_of span.to rest
