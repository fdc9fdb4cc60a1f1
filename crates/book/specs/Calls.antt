-- What each call answers and leaves, and the places that a list of calls leaves.
use Rattle.std.specs.Prelude.{ℕ, min, Bool, true, cond, not, ◌&&◌, List, [], ◌∷◌, ◌++◌, map, length, take, drop, Some, None, Ok, Err, Option, Result, ◌==◌, nat_lt, position, slice_index_or, slice_set}
use Rattle.sheet.specs.Automata.{Automaton, location}
use Rattle.zone.specs.Calls as zones
use Rattle.book.specs.Covering.{walked}
use Rattle.book.specs.Marks.{none, fresh, vacant_with, with_marks, unleaned}
use Rattle.book.specs.Questions.{Asks}
use Rattle.book.specs.declared.call.Call.{Call}
use Rattle.book.specs.declared.call.Call.TheVariants.{Put, Strike, Examine, Conclude}
use Rattle.book.specs.declared.fault.BookFault.{BookFault}
use Rattle.book.specs.declared.fault.BookFault.TheVariants.{OutOfRange, PlaceTaken, PlaceVacant, EmptyZone, NotAdmitted, Uncovered, MarkedUncovered, StartUncovered, Unmarked, Zone}
use Rattle.book.specs.declared.place.Place.{Place}
use Rattle.book.specs.declared.walk.Stop.{Stop}
use Rattle.book.specs.declared.walk.Stop.TheVariants as walk

-- the places that a call leaves: those before, where it is refused
abbrev pub kept : {X E : Type 0} → Result X E → X → X
kept (Ok after) before = after
kept (Err e) before = before

-- what the call says of it
abbrev pub told : {X E : Type 0} → Result X E → Result (Unit {0}) E
told (Ok after) = Ok tt
told (Err e) = Err e

-- the refusal that a stop is at node i
abbrev pub stopped : ℕ → Bool → Stop → BookFault
stopped i marked (walk.Uncovered edge) = cond marked (MarkedUncovered i edge) (Uncovered i edge)
stopped i marked (walk.Refused fault edge) = Zone fault i edge

-- the places with an examined node in place i
abbrev pub examined : {Row : Type 0} → List (Place Row) → ℕ → Result (Place Row) BookFault → Result (List (Place Row)) BookFault
examined ps i (Ok p) = Ok (slice_set ps i p)
examined ps i (Err e) = Err e

-- the lesser of a number and one that may be there
abbrev pub lesser : ℕ → Option ℕ → ℕ
lesser n None = n
lesser n (Some m) = min n m

-- the printed number, from the least left of the places that cover the start and the lowest place without a mark
abbrev pub verdict : Option ℕ → Option ℕ → Result ℕ BookFault
verdict None unmarked = Err StartUncovered
verdict (Some n) (Some i) = Err (Unmarked i)
verdict (Some n) None = Ok n

-- the place stands without a mark
abbrev pub unmarked : {Row : Type 0} → Place Row → Bool
unmarked p = p.standing && not p.marked

-- the place stands at the start, and its zone has all clocks 0
abbrev pub covers_start : {Z Row : Type 0} → zones.Calls Z Row → Automaton → Place Row → Bool
covers_start calls a p = p.standing && p.location == a.start && calls.holds_zero (calls.of_row p.zone)

module _ {Z Row : Type 0} (calls : zones.Calls Z Row) (asks : Asks) (a : Automaton) where
  abbrev pub vacant : Place Row
  vacant = vacant_with (calls.row (calls.whole a.clocks))

  -- the first 64 places vacant, the others as they were
  abbrev pub opened : List (Place Row) → List (Place Row)
  opened ps = map (λ p. vacant) (take 64 ps) ++ drop 64 ps

  abbrev pub place : List (Place Row) → ℕ → Place Row
  place ps i = slice_index_or (take 64 ps) i vacant

  -- a place of the first 64
  abbrev pub at_hand : List (Place Row) → ℕ → Bool
  at_hand ps i = nat_lt i (length (take 64 ps))

  abbrev pub fitting : List (Place Row) → ℕ → ℕ → Z → Bool
  fitting ps i l z = at_hand ps i && nat_lt l (length a.locations) && calls.clocks z == a.clocks

  abbrev pub putting : List (Place Row) → ℕ → ℕ → ℕ → Z → Result (List (Place Row)) BookFault
  putting ps i l number z =
      cond (not (fitting ps i l z)) (Err OutOfRange)
      (cond (place ps i).standing (Err (PlaceTaken i))
      (cond (calls.empty z) (Err (EmptyZone i))
      (Ok (slice_set ps i (fresh l number (calls.row z))))))

  -- place i vacant, and each node that leans on it without mark and leans
  abbrev pub struck : List (Place Row) → ℕ → List (Place Row)
  struck ps i = slice_set (map (unleaned i) (take 64 ps)) i vacant ++ drop 64 ps

  abbrev pub striking : List (Place Row) → ℕ → Result (List (Place Row)) BookFault
  striking ps i =
      cond (not (at_hand ps i)) (Err OutOfRange)
      (cond (not (place ps i).standing) (Err PlaceVacant)
      (Ok (struck ps i)))

  abbrev pub marking : List (Place Row) → ℕ → Result (List Bool) Stop → Result (List (Place Row)) BookFault
  marking ps i (Ok leans) = Ok (slice_set ps i (with_marks true leans (place ps i)))
  marking ps i (Err stop) = Err (stopped i (place ps i).marked stop)

  abbrev pub examining : List (Place Row) → ℕ → Result (List (Place Row)) BookFault
  examining ps i =
      let p = place ps i in
      cond (not (at_hand ps i)) (Err OutOfRange)
      (cond (not p.standing) (Err PlaceVacant)
      (cond (not (asks.admits (location a p.location).accepting p.number)) (Err (NotAdmitted i))
      (marking ps i (walked calls asks a p (take 64 ps) 0 a.edges none))))

  -- the least left of the places that cover the start
  abbrev pub least_left : List (Place Row) → Option ℕ
  least_left [] = None
  least_left (p ∷ ps) = cond (covers_start calls a p) (Some (lesser (asks.left p.number) (least_left ps))) (least_left ps)

  abbrev pub concluding : List (Place Row) → Result ℕ BookFault
  concluding ps = verdict (least_left (take 64 ps)) (position unmarked (take 64 ps))

  -- the places after a call
  abbrev pub done : Call Z → List (Place Row) → List (Place Row)
  done (Put i l number z) ps = kept (putting ps i l number z) ps
  done (Strike i) ps = kept (striking ps i) ps
  done (Examine i) ps = kept (examining ps i) ps
  done Conclude ps = ps

  -- the places after a list of calls
  abbrev pub played : List (Call Z) → List (Place Row) → List (Place Row)
  played [] ps = ps
  played (c ∷ cs) ps = played cs (done c ps)
