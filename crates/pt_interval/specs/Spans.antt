-- A set of values as a list of spans: from a value on, and below another or without end. After the manual's topic "Range Optimization".
use Rattle.std.specs.Prelude.{◌≡◌, Bool, true, false, not, ◌&&◌, ◌||◌, List, [], ◌∷◌, Option}
use Rattle.std.specs.declared.cmp.Ordering.{Ordering}
use Rattle.pt_interval.specs.Line.{at_most, is_past, IsEnd}
use Rattle.pt_interval.specs.declared.span.Span.{Span}

-- v is in the span: at or above its beginning, and below its end
abbrev pub is_within : {T : Type 0} → (T → T → Ordering) → Span T → T → Bool
is_within cmp span v = at_most cmp span.from v && not (is_past cmp v span.to)

-- v is in one of the spans
abbrev pub has : {T : Type 0} → (T → T → Ordering) → List (Span T) → T → Bool
has cmp [] v = false
has cmp (span ∷ rest) v = is_within cmp span v || has cmp rest v

-- the set has exactly the values that pass the test
abbrev pub IsSet : {T : Type 0} → (T → T → Ordering) → (T → Bool) → List (Span T) → (T → Bool) → Type 0
IsSet {T} cmp is_value set test = (v : T) → is_value v ≡ true → has cmp set v ≡ test v

-- its ends are values, and some value is in it: that from which it goes on
pub record IsSpan {T : Type 0} (cmp : T → T → Ordering) (is_value : T → Bool) (span : Span T) : Type 0 where
  pub from_in : is_value span.from ≡ true
  pub to_in : IsEnd is_value span.to
  pub has_one : is_past cmp span.from span.to ≡ false

-- each span begins at or behind the end of the one before it, the first one at or behind `low`
abbrev pub IsRisingFrom : {T : Type 0} → (T → T → Ordering) → (T → Bool) → Option T → List (Span T) → Type 0
IsRisingFrom cmp is_value low [] = Unit {0}
IsRisingFrom cmp is_value low (span ∷ rest) = (is_past cmp span.from low ≡ true) × IsSpan cmp is_value span × IsRisingFrom cmp is_value span.to rest
