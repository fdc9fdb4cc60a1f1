-- The walk over a node's edges, one edge further on.
use Rattle.std.proofs.Common.{◌≡◌, ℕ, ◌+◌, Bool, true, List, ◌∷◌, set, Some, Ok, position, add-one}
use Rattle.std.specs.List.{position_from}
use Rattle.sheet.specs.Automata.{Automaton, Edge}
use Rattle.zone.specs.Calls as zones
use Rattle.book.specs.Covering.{covers, stepped, walked}
use Rattle.book.specs.Questions.{Asks}
use Rattle.book.specs.declared.cover.Step.{Step}
use Rattle.book.specs.declared.place.Place.{Place}

-- the search ends at a place that passes the test
pub search_here : {X : Type 0} (test : X → Bool) (n : ℕ) (xs : List X) (x : X) (rest : List X) → xs ≡ x ∷ rest → true ≡ test x → position_from test n xs ≡ Some n
search_here test n xs x rest is passes = rw (is, ← passes)

module _ {Z Row : Type 0} (calls : zones.Calls Z Row) (asks : Asks) (a : Automaton) (p : Place Row) (ps : List (Place Row)) where
  -- the step along edge i is covered by place j
  pub walk_next : (i : ℕ) (e : Edge) (es : List Edge) (leans : List Bool) (step : Step Z) (j : ℕ) → Ok (Some step) ≡ stepped calls a p e → position (covers calls asks step.accepting step.number step.target step.zone) ps ≡ Some j
      → walked calls asks a p ps i (e ∷ es) leans ≡ walked calls asks a p ps (i + 1) es (set leans j true)
  walk_next i e es leans step j steps at = rw (← steps, at, add-one)
