-- What a walk begins with, and what it reads from the places of its book.
use Rattle.std.specs.Prelude.{◌≡◌, ℕ, ◌<◌, Bool, false, not, ◌&&◌, cond, List, pos, Result, map, option_map, unwrap_or, slice_get}
use Rattle.std.specs.List.{range_with_len}
use Rattle.book.specs.declared.place.Place.{Place}
use Rattle.zone.specs.DifferenceCalls.{difference_calls}
use Rattle.zone.specs.Valuations.{Valuation}
use Rattle.zone.specs.declared.difference.DifferenceZone.{DifferenceZone}
use Rattle.zone.specs.declared.fault.ZoneFault.{ZoneFault}

-- every valuation of one clock x that meets x − 0 ≤ 0
abbrev pub at_zero : Result DifferenceZone ZoneFault
at_zero = difference_calls.constrained (difference_calls.whole 1) (record { i = 1; j = 0; strict = false; constant = pos 0 })

-- a zone of one clock that holds every valuation in which this clock shows 0, at any number k of ticks to the unit
pub record IsAtZero (z : DifferenceZone) : Type 0 where
  pub clocks : difference_calls.clocks z ≡ 1
  pub holds : (k : ℕ) (v : Valuation) → 0 < k → v 1 ≡ 0 → difference_calls.holds z k v

-- a node stands in place i, with its mark if `marked` is true and without it if not
abbrev pub stands : {Row : Type 0} → List (Place Row) → ℕ → Bool → Bool
stands ps i marked = unwrap_or (option_map (λ p. p.standing && cond marked p.marked (not p.marked)) (slice_get ps i)) false

-- a test of each of the 64 places
abbrev pub each_place : (ℕ → Bool) → List Bool
each_place test = map test (range_with_len 0 64)
