-- What a marked node stands on.
use Rattle.std.specs.Prelude.{◌≡◌, ℕ, Bool, true, false, ◌⊎◌, List, Ok, slice_index_or}
use Rattle.std.specs.List.{ContainsAt}
use Rattle.sheet.specs.Automata.{Automaton, Edge, location}
use Rattle.zone.specs.Calls as zones
use Rattle.book.specs.Calls.{place}
use Rattle.book.specs.Covering.{covers}
use Rattle.book.specs.Following.{followed}
use Rattle.book.specs.Questions.{Asks}
use Rattle.book.specs.declared.place.Place.{Place}

module _ {Z Row : Type 0} (calls : zones.Calls Z Row) (asks : Asks) (a : Automaton) where
  abbrev pub accepting_at : Place Row → Bool
  accepting_at p = (location a p.location).accepting

  -- edge e of node p leads to an empty zone, or to one that a place among the leans covers
  pub record Held (ps : List (Place Row)) (leans : List Bool) (p : Place Row) (e : Edge) : Type 0 where
    pub zone : Z
    pub leads : followed calls a (calls.of_row p.zone) e ≡ Ok zone
    pub covered : (calls.empty zone ≡ true) ⊎ ((j : ℕ) × (slice_index_or leans j false ≡ true) × (covers calls asks (accepting_at p) p.number e.target zone (place calls asks a ps j) ≡ true))

  -- the question admits node p, and each edge from its location is held
  pub record Right (ps : List (Place Row)) (p : Place Row) : Type 0 where
    pub admitted : asks.admits (accepting_at p) p.number ≡ true
    pub edges : (e : Edge) → ContainsAt a.edges e → e.source ≡ p.location → Held ps p.leans p e

  -- every marked node is right
  abbrev pub Sound : List (Place Row) → Type 0
  Sound ps = (i : ℕ) → (place calls asks a ps i).standing ≡ true → (place calls asks a ps i).marked ≡ true → Right ps (place calls asks a ps i)
