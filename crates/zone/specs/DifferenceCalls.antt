-- The calls of the difference kind, and the meaning of its zones.
use Rattle.std.specs.Prelude.{◌≡◌, ℕ, ◌≤◌, true, false, Ok, Err, Result, refl}
use Rattle.zone.specs.declared.constraint.Constraint.{Constraint}
use Rattle.zone.specs.declared.difference.DifferenceZone.{DifferenceZone}
use Rattle.zone.specs.declared.difference.row.DifferenceRow.{DifferenceRow}
use Rattle.zone.specs.declared.fault.ZoneFault.{ZoneFault}
use Rattle.zone.specs.Bounds.{Obeys, bound_of}
use Rattle.zone.specs.Calls.{Calls}
use Rattle.zone.specs.Checked.{zone_of}
use Rattle.zone.specs.DifferenceRows.{proper, empty_row, whole_row, elapsed_row, reset_row, tightened_row, within_rows, zero_row, blank}
use Rattle.zone.specs.Grids.{entry}
use Rattle.zone.specs.Judging.{judged, judged_clock, and_then}
use Rattle.zone.specs.Valuations.{Valuation, reading}

-- the empty zone of one clock
unfoldable pub void : DifferenceZone
unfolding proper empty_row blank
void = record { row = empty_row 1; fitting = refl }

-- the zone of a row that passes the test
abbrev pub make : (r : DifferenceRow) → proper r ≡ true → DifferenceZone
make r e = record { row = r; fitting = e }

-- the zone of any row
abbrev pub of_row : DifferenceRow → DifferenceZone
of_row = zone_of proper make void

-- the zone of a row that was not refused
abbrev pub granted : Result DifferenceRow ZoneFault → Result DifferenceZone ZoneFault
granted (Ok r) = Ok (of_row r)
granted (Err e) = Err e

-- not empty, and the readings of every two clocks of 0 to n obey the bound of their difference
unfoldable pub Holds : DifferenceRow → ℕ → Valuation → Type 0
Holds r k v = (r.empty ≡ false) × ((p q : ℕ) → p ≤ r.clocks → q ≤ r.clocks → Obeys k (entry r.bounds p q) (reading v p) (reading v q))

-- judged, and then with the bound that the constraint sets
unfoldable pub constrained : DifferenceZone → Constraint → Result DifferenceZone ZoneFault
constrained z c = and_then (judged z.row.clocks true c) (λ _. granted (tightened_row z.row c.i c.j (bound_of c)))

-- with one of the clocks 1 to n set to zero
unfoldable pub reset : DifferenceZone → ℕ → Result DifferenceZone ZoneFault
reset z x = and_then (judged_clock z.row.clocks x) (λ _. Ok (of_row (reset_row z.row x)))

-- all of these
abbrev pub difference_calls : Calls DifferenceZone DifferenceRow
difference_calls = record { holds = λ z. Holds z.row; differences = true; clocks = λ z. z.row.clocks; whole = λ n. of_row (whole_row n); void = void; constrained = constrained; elapsed = λ z. of_row (elapsed_row z.row); reset = reset; empty = λ z. z.row.empty; within = λ y z. within_rows y.row z.row; holds_zero = λ z. zero_row z.row; row = λ z. z.row; of_row = of_row }
