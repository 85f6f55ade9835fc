-- The turns of the loops that read item by item.
use Rattle.std.proofs.Common.{◌≡◌, ℕ, ◌+◌, ◌≤◌, List, [], ◌∷◌, ◌++◌, length, drop, Option, Some, None, Ok, sym, subst, arith}
use Rattle.pt_parse_expr.specs.Grammar.{Symbols}
use Rattle.pt_parse_expr.specs.Reader.{Reader, many}
use Rattle.pt_parse_expr.specs.Placing.{Reads, Reaches, ReadsMany}
use Rattle.pt_parse_expr.proofs.Many.{behind, loop-more, loop-end}

module _ {A : Type 0} (item : Reader A) (all : Symbols) (start : ℕ) (done : List A) (at : ℕ) where
  abbrev SoFar : List A → ℕ → Type 0
  SoFar items next = many item (drop start all) ≡ behind items (many item (drop next all))

  pub record Turned (least : ℕ) (items : List A) (next : ℕ) : Type 0 where
    pub so_far : many item (drop start all) ≡ behind items (many item (drop next all))
    pub low : least ≤ next
    pub high : next ≤ length all

  -- one item more
  pub turn : (r : Option (A × ℕ)) (x : A) (next : ℕ) (pushed : List A) → SoFar done at → start ≤ at → r ≡ Some (x, next)
      → Reads all (Ok r) (item (drop at all)) → Reaches (at + 1) all (Ok r) → pushed ≡ done ++ x ∷ [] → Turned start pushed next
  turn r x next pushed so_far low is reads place pushes =
      let reads' = subst (λ (q : Option (A × ℕ)). Reads all (Ok q) (item (drop at all))) is reads in
      let place' = subst (λ (q : Option (A × ℕ)). Reaches (at + 1) all (Ok q)) is place in
      record {
        so_far = subst (λ (items : List A). SoFar items next) (sym pushes) (loop-more item all _ done at x next so_far reads' (omega (arith, place'.0)) place'.1);
        low = omega (arith, place'.0);
        high = place'.1;
      }

  -- no item more
  pub turn_end : (r : Option (A × ℕ)) → SoFar done at → r ≡ None → Reads all (Ok r) (item (drop at all)) → ReadsMany all done at (many item (drop start all))
  turn_end r so_far is reads = loop-end item all _ done at so_far (subst (λ (q : Option (A × ℕ)). Reads all (Ok q) (item (drop at all))) is reads)
