-- A clause by cases on an option, as one clause for each case.
use Rattle.std.specs.Prelude.{Option, Some, None, IfSome, IfNone, MatchOption}

pub if_some : {X : Type 0} (o : Option X) (P : Type 0) (Q : X → Type 0) → MatchOption o P Q → IfSome o Q
if_some None P Q h = tt
if_some (Some x) P Q h = h

pub if_none : {X : Type 0} (o : Option X) (P : Type 0) (Q : X → Type 0) → MatchOption o P Q → IfNone o P
if_none None P Q h = h
if_none (Some x) P Q h = tt

-- what is found has another property too, or none has
pub if_none_then : {X : Type 0} (o : Option X) (P Q : Type 0) → (P → Q) → IfNone o P → IfNone o Q
if_none_then None P Q then h = then h
if_none_then (Some x) P Q then h = tt

pub if_some_then : {X : Type 0} (o : Option X) (P Q : X → Type 0) → ((x : X) → P x → Q x) → IfSome o P → IfSome o Q
if_some_then None P Q then h = tt
if_some_then (Some x) P Q then h = then x h
