-- In the shape of the code: sets of values a column, and tuples between bounds. Nothing public cites these.
use Rattle.std.specs.Prelude.{◌≡◌, ◌⊎◌, ℕ, zero, suc, ℤ, MatchBool, Bool, true, false, not, ◌&&◌, ◌==◌, if◌then◌else◌, List, [], ◌∷◌, map, drop, slice_index_or, Option, Some, None}
use Rattle.std.specs.List.{list_any}
use Rattle.std.specs.Ordering.{is_eq, is_gt, is_lt}
use Rattle.pt_value.specs.declared.value.Value.{Value}
use Rattle.pt_value.specs.declared.value.Value.TheVariants.{Int}
use Rattle.pt_ast.specs.declared.tree.Cond.{Cond}
use Rattle.pt_ast.specs.declared.tree.Expr.{Expr}
use Rattle.pt_ast.specs.declared.tree.Expr.TheOpen.{Expr-F}
use Rattle.pt_ast.specs.declared.tree.Func.{Func}
use Rattle.pt_ast.specs.declared.table.Column.{Column}
use Rattle.pt_ast.specs.declared.table.Bound.{Bound}
use Rattle.pt_ast.specs.declared.table.Bound.TheVariants.{Val, Max}
use Rattle.pt_ast.specs.declared.table.PartDef.{PartDef}
use Rattle.pt_ast.specs.Bounds.{bound_cmp, tuple_cmp, value_of}
use Rattle.pt_expr.specs.Values.{call}
use Rattle.pt_place.specs.Place.{number_in}
use Rattle.pt_reach.specs.declared.domain.Domain.{Domain}
use Rattle.pt_reach.specs.Domains.{IsSome, has_in, is_of_column}
use Rattle.pt_reach.specs.May.{may_hold}

-- true tells that it is so, and false that it isn't
abbrev pub IsDecided : Bool → Type 0 → Type 0
IsDecided b P = MatchBool b P (¬ P)

-- ---- a set of values for each column

-- of the level's column those where the condition may hold, and of each other all
abbrev pub is_left_of : List Column → ℕ → Option Cond → ℕ → Value → Bool
is_left_of columns at cond n v = is_of_column columns n v && (if n == at then may_hold columns at cond v else true)

abbrev pub IsSetOf : List Column → ℕ → Option Cond → ℕ → Domain → Type 0
IsSetOf columns at cond n set = (v : Value) → has_in set v ≡ is_left_of columns at cond n v

abbrev pub AreSetsOf : List Column → ℕ → Option Cond → List ℕ → List Domain → Type 0
AreSetsOf columns at cond [] [] = Unit {0}
AreSetsOf columns at cond (n ∷ ns) (set ∷ sets) = IsSetOf columns at cond n set × AreSetsOf columns at cond ns sets
AreSetsOf columns at cond _ _ = ⊥

-- a value of each set
abbrev pub AreItems : List Domain → List Value → Type 0
AreItems [] [] = Unit {0}
AreItems (set ∷ sets) (v ∷ vs) = (has_in set v ≡ true) × AreItems sets vs
AreItems _ _ = ⊥

-- ---- tuples between bounds

-- the tuple isn't below the bound, if there is one
abbrev pub is_from : Option (List Bound) → List Value → Bool
is_from None vs = true
is_from (Some low) vs = not (is_gt (tuple_cmp low (map Val vs)))

-- it is below the bound, if there is one
abbrev pub is_below : Option (List Bound) → List Value → Bool
is_below None vs = true
is_below (Some high) vs = is_gt (tuple_cmp high (map Val vs))

-- some tuple of these sets lies between the bounds
abbrev pub HasBetween : List Domain → Option (List Bound) → Option (List Bound) → Type 0
HasBetween sets low high = (vs : List Value) × AreItems sets vs × (is_from low vs ≡ true) × (is_below high vs ≡ true)

-- ---- by the first item alone

-- the item is above that of the bound, so each tuple that begins with it is
abbrev pub is_past : Option (List Bound) → Value → Bool
is_past None v = true
is_past (Some []) v = true
is_past (Some (bound ∷ bounds)) v = is_lt (bound_cmp bound (Val v))

-- the item is below that of the bound
abbrev pub is_before : Option (List Bound) → Value → Bool
is_before None v = true
is_before (Some []) v = false
is_before (Some (bound ∷ bounds)) v = is_gt (bound_cmp bound (Val v))

-- the item is that of the bound, so the others decide
abbrev pub is_tied : Option (List Bound) → Value → Bool
is_tied None v = false
is_tied (Some []) v = false
is_tied (Some (bound ∷ bounds)) v = is_eq (bound_cmp bound (Val v))

-- the bound on the others
abbrev pub behind : Option (List Bound) → Option (List Bound)
behind None = None
behind (Some bounds) = Some (drop 1 bounds)

-- some tuple has such a first item, and the others between the bounds
abbrev pub HasCase : List Domain → (Value → Bool) → (Value → Bool) → Option (List Bound) → Option (List Bound) → Type 0
HasCase [] first second low high = ⊥
HasCase (set ∷ sets) first second low high = IsSome (has_in set) first second × HasBetween sets low high

-- ---- parts of a range

-- the bound of the part before, if there is one
abbrev pub bound_before : List (List Bound) → ℕ → Option (List Bound)
bound_before bounds zero = None
bound_before bounds (suc part) = Some (slice_index_or bounds part [])

-- some tuple of these sets belongs to the part at a position
abbrev pub IsMet : List Domain → List (List Bound) → ℕ → Type 0
IsMet sets bounds part = HasBetween sets (bound_before bounds part) (Some (slice_index_or bounds part []))

-- ---- entries of a list

abbrev pub has_item : Domain → Bound → Bool
has_item set (Val v) = has_in set v
has_item set Max = false

-- the entry is a tuple of these sets
abbrev pub has_entry : List Domain → List Bound → Bool
has_entry [] [] = true
has_entry (set ∷ sets) (item ∷ items) = has_item set item && has_entry sets items
has_entry _ _ = false

-- some entry of the part is
abbrev pub is_listed : List Domain → PartDef → Bool
is_listed sets part = list_any (has_entry sets) part.bounds

-- some entry of the part at a position is
abbrev pub IsListed : List Domain → List PartDef → ℕ → Type 0
IsListed sets parts part = slice_index_or (map (is_listed sets) parts) part false ≡ true

-- ---- a column, or a function of it

-- the function, if there is one
abbrev pub called : Expr-F Expr → Option Func
called (Expr-F.Call func part) = Some func
called _ = None

-- what it comes to at a value of the column, as a value
abbrev pub come_to : Option Func → Value → Value
come_to None v = value_of (number_in v)
come_to (Some func) v = value_of (number_in (call func v))

-- ---- a range over a function of the column

-- a bound of RANGE over an expression: a number or MAXVALUE
abbrev pub IsNumberBound : List Bound → Type 0
IsNumberBound (Val (Int n) ∷ []) = Unit {0}
IsNumberBound (Max ∷ []) = Unit {0}
IsNumberBound _ = ⊥

abbrev pub IsNumberEnd : Option (List Bound) → Type 0
IsNumberEnd (Some bound) = IsNumberBound bound
IsNumberEnd None = Unit {0}

abbrev pub number_bound : Option ℤ → List Bound
number_bound (Some n) = Val (Int n) ∷ []
number_bound None = Max ∷ []

-- some value of the set comes to what belongs to the part at a position
abbrev pub IsMetBy : (Value → Value) → Domain → List (List Bound) → ℕ → Type 0
IsMetBy come set bounds part =
    (v : Value) × (has_in set v ≡ true) × (is_from (bound_before bounds part) (come v ∷ []) ≡ true) × (is_below (Some (slice_index_or bounds part [])) (come v ∷ []) ≡ true)

-- ---- a list over a function of the column

-- some value of the set comes to the item
abbrev pub HasItemBy : (Value → Value) → Domain → Bound → Type 0
HasItemBy come set item = (v : Value) × (has_in set v ≡ true) × (item ≡ Val (come v))

-- some value of the set comes to the entry
abbrev pub HasEntryBy : (Value → Value) → Domain → List Bound → Type 0
HasEntryBy come set entry = (v : Value) × (has_in set v ≡ true) × (entry ≡ Val (come v) ∷ [])

abbrev pub IsSomeEntry : (Value → Value) → Domain → List (List Bound) → Type 0
IsSomeEntry come set [] = ⊥
IsSomeEntry come set (entry ∷ entries) = HasEntryBy come set entry ⊎ IsSomeEntry come set entries

-- some value of the set comes to an entry of the part at a position
abbrev pub IsListedBy : (Value → Value) → Domain → List PartDef → ℕ → Type 0
IsListedBy come set parts part = IsSomeEntry come set (slice_index_or (map (λ part. part.bounds) parts) part [])
