-- Which place covers a zone, and what a node's edges lean on.
use Rattle.std.specs.Prelude.{ℕ, suc, Bool, true, cond, ◌&&◌, List, [], ◌∷◌, Some, None, Ok, Err, Option, Result, ◌==◌, position, slice_set}
use Rattle.sheet.specs.Automata.{Automaton, Edge, location}
use Rattle.zone.specs.Calls.{Calls}
use Rattle.zone.specs.declared.fault.ZoneFault.{ZoneFault}
use Rattle.book.specs.Following.{followed}
use Rattle.book.specs.Questions.{Asks}
use Rattle.book.specs.declared.cover.Step.{Step}
use Rattle.book.specs.declared.place.Place.{Place}
use Rattle.book.specs.declared.walk.Stop.{Stop}
use Rattle.book.specs.declared.walk.Stop.TheVariants.{Uncovered, Refused}

-- one lean more, where there is one
abbrev pub with_lean : List Bool → Option ℕ → List Bool
with_lean leans None = leans
with_lean leans (Some j) = slice_set leans j true

-- goes on with what an edge leans on, or stops
abbrev pub on_with : Result (Option ℕ) Stop → List Bool → (List Bool → Result (List Bool) Stop) → Result (List Bool) Stop
on_with (Err stop) leans go = Err stop
on_with (Ok place) leans go = go (with_lean leans place)

-- the place at which a cover was found, or a stop at edge i
abbrev pub found : ℕ → Option ℕ → Result (Option ℕ) Stop
found i None = Err (Uncovered i)
found i (Some j) = Ok (Some j)

module _ {Z Row : Type 0} (calls : Calls Z Row) (a : Automaton) (p : Place Row) (e : Edge) where
  -- the step from node p along edge e, given the zone that it leads to; none where that is empty
  abbrev pub entered : Result Z ZoneFault → Result (Option (Step Z)) ZoneFault
  entered (Err fault) = Err fault
  entered (Ok z) = cond (calls.empty z) (Ok None) (Ok (Some (record { accepting = (location a p.location).accepting; number = p.number; target = e.target; zone = z })))

  -- the step along any edge: none along one from another location
  abbrev pub stepped : Result (Option (Step Z)) ZoneFault
  stepped = cond (e.source == p.location) (entered (followed calls a (calls.of_row p.zone) e)) (Ok None)

module _ {Z Row : Type 0} (calls : Calls Z Row) (asks : Asks) where
  -- the place stands at the target, the step from a node with this number passes, and its zone contains z
  abbrev pub covers : (accepting : Bool) (number target : ℕ) → Z → Place Row → Bool
  covers accepting number target z p =
      p.standing && p.location == target && asks.passes accepting number p.number && calls.within z (calls.of_row p.zone)

  -- the first place that covers the step along edge i, or a stop there
  abbrev pub covered_by : List (Place Row) → ℕ → Result (Option (Step Z)) ZoneFault → Result (Option ℕ) Stop
  covered_by ps i (Err fault) = Err (Refused fault i)
  covered_by ps i (Ok None) = Ok None
  covered_by ps i (Ok (Some step)) = found i (position (covers step.accepting step.number step.target step.zone) ps)

  module _ (a : Automaton) where
    -- the place that edge i of node p leans on: the first that covers the step along it
    abbrev pub owed : Place Row → List (Place Row) → ℕ → Edge → Result (Option ℕ) Stop
    owed p ps i e = covered_by ps i (stepped calls a p e)

    -- the leans so far and those of the edges from number i on, or the first stop
    abbrev pub walked : Place Row → List (Place Row) → ℕ → List Edge → List Bool → Result (List Bool) Stop
    walked p ps i [] leans = Ok leans
    walked p ps i (e ∷ es) leans = on_with (owed p ps i e) leans (walked p ps (suc i) es)
