-- When examine and conclude grant, and what a refusal names.
use Rattle.std.specs.Prelude.{◌≡◌, ℕ, ◌<◌, ◌≤◌, true, false, ◌⊎◌, List, length, Ok, slice_index_or}
use Rattle.sheet.specs.Automata.{Automaton, Edge}
use Rattle.zone.specs.Calls as zones
use Rattle.book.specs.Calls.{place, at_hand, covers_start}
use Rattle.book.specs.Covering.{covers}
use Rattle.book.specs.Following.{followed}
use Rattle.book.specs.Questions.{Asks}
use Rattle.book.specs.Standing.{accepting_at}
use Rattle.book.specs.declared.fault.BookFault.{BookFault}
use Rattle.book.specs.declared.fault.BookFault.TheVariants.{OutOfRange, PlaceTaken, PlaceVacant, EmptyZone, NotAdmitted, Uncovered, MarkedUncovered, StartUncovered, Unmarked, Zone}
use Rattle.book.specs.declared.place.Place.{Place}

module _ {Z Row : Type 0} (calls : zones.Calls Z Row) (asks : Asks) (a : Automaton) (ps : List (Place Row)) where
  -- one place stands at the edge's target, the step to it passes, and its zone contains z
  abbrev pub Covered : Place Row → Edge → Z → Type 0
  Covered p e z = (j : ℕ) × (covers calls asks (accepting_at calls asks a p) p.number e.target z (place calls asks a ps j) ≡ true)

  -- the edge is from another location, or leads from node p to an empty zone or to one that a place covers
  abbrev pub Answered : Place Row → Edge → Type 0
  Answered p e = e.source ≡ p.location → (z : Z) × (followed calls a (calls.of_row p.zone) e ≡ Ok z) × ((calls.empty z ≡ true) ⊎ Covered p e z)

  -- a node stands in place i, the question admits it, and every edge is answered
  pub record Grants (i : ℕ) : Type 0 where
    pub near : at_hand calls asks a ps i ≡ true
    pub standing : (place calls asks a ps i).standing ≡ true
    pub admitted : asks.admits (accepting_at calls asks a (place calls asks a ps i)) (place calls asks a ps i).number ≡ true
    pub answered : (n : ℕ) (d : Edge) → n < length a.edges → Answered (place calls asks a ps i) (slice_index_or a.edges n d)

  -- edge n is the first from node p's location that is not answered: it leads to a zone that is not empty and that no place covers
  pub record FirstUncovered (p : Place Row) (n : ℕ) : Type 0 where
    pub within : n < length a.edges
    pub leads : (d : Edge) → ((slice_index_or a.edges n d).source ≡ p.location) × ((z : Z) × (followed calls a (calls.of_row p.zone) (slice_index_or a.edges n d) ≡ Ok z) × (calls.empty z ≡ false) × (Covered p (slice_index_or a.edges n d) z → ⊥))
    pub before : (m : ℕ) (d : Edge) → m < n → Answered p (slice_index_or a.edges m d)

  -- what the refusal of an edge says
  abbrev pub NamesFirst : ℕ → BookFault → Type 0
  NamesFirst i OutOfRange = Unit {0}
  NamesFirst i (PlaceTaken j) = Unit {0}
  NamesFirst i PlaceVacant = Unit {0}
  NamesFirst i (EmptyZone j) = Unit {0}
  NamesFirst i (NotAdmitted j) = Unit {0}
  NamesFirst i (Uncovered j n) = FirstUncovered (place calls asks a ps i) n
  NamesFirst i (MarkedUncovered j n) = FirstUncovered (place calls asks a ps i) n
  NamesFirst i StartUncovered = Unit {0}
  NamesFirst i (Unmarked j) = Unit {0}
  NamesFirst i (Zone fault j n) = Unit {0}

  -- every node that stands is marked, and one covers the start
  pub record Concludes : Type 0 where
    pub marked : (i : ℕ) → (place calls asks a ps i).standing ≡ true → (place calls asks a ps i).marked ≡ true
    pub covered : (i : ℕ) × (covers_start calls a (place calls asks a ps i) ≡ true)

  -- n is the least left of the nodes that cover the start
  pub record Least (n : ℕ) : Type 0 where
    pub reached : (i : ℕ) × (covers_start calls a (place calls asks a ps i) ≡ true) × (asks.left (place calls asks a ps i).number ≡ n)
    pub below : (i : ℕ) → covers_start calls a (place calls asks a ps i) ≡ true → n ≤ asks.left (place calls asks a ps i).number
