-- The calls of the box kind, and the meaning of its zones.
use Rattle.std.specs.Prelude.{◌≡◌, ℕ, ◌+◌, ◌<◌, true, false, Ok, Result, refl}
use Rattle.zone.specs.declared.boxed.BoxZone.{BoxZone}
use Rattle.zone.specs.declared.boxed.row.BoxRow.{BoxRow}
use Rattle.zone.specs.declared.constraint.Constraint.{Constraint}
use Rattle.zone.specs.declared.fault.ZoneFault.{ZoneFault}
use Rattle.zone.specs.Bounds.{bound_of}
use Rattle.zone.specs.BoxRows.{range_at, ranges_row, proper, empty_row, void_row, whole_row, elapsed_row, reset_row, tightened_row, within_rows, zero_row}
use Rattle.zone.specs.Calls.{Calls}
use Rattle.zone.specs.Checked.{zone_of}
use Rattle.zone.specs.Judging.{judged, judged_clock, and_then}
use Rattle.zone.specs.Ranges.{Lies}
use Rattle.zone.specs.Tests.{every}
use Rattle.zone.specs.Valuations.{Valuation}

-- the empty box of one clock
unfoldable pub void : BoxZone
unfolding proper void_row ranges_row every
void = record { row = void_row; fitting = refl }

-- the box of a row that passes the test
abbrev pub make : (r : BoxRow) → proper r ≡ true → BoxZone
make r e = record { row = r; fitting = e }

-- the box of any row
abbrev pub of_row : BoxRow → BoxZone
of_row = zone_of proper make void

-- each clock of 1 to n lies in its range
unfoldable pub Holds : BoxRow → ℕ → Valuation → Type 0
Holds r k v = (x : ℕ) → x < r.clocks → Lies k (range_at r.ranges x) (v (x + 1))

-- judged, and then with the bound that the constraint sets
unfoldable pub constrained : BoxZone → Constraint → Result BoxZone ZoneFault
constrained z c = and_then (judged z.row.clocks false c) (λ _. Ok (of_row (tightened_row z.row c.i c.j (bound_of c))))

-- with one of the clocks 1 to n set to zero
unfoldable pub reset : BoxZone → ℕ → Result BoxZone ZoneFault
reset z x = and_then (judged_clock z.row.clocks x) (λ _. Ok (of_row (reset_row z.row x)))

-- all of these
abbrev pub box_calls : Calls BoxZone BoxRow
box_calls = record { holds = λ z. Holds z.row; differences = false; clocks = λ z. z.row.clocks; whole = λ n. of_row (whole_row n); void = void; constrained = constrained; elapsed = λ z. of_row (elapsed_row z.row); reset = reset; empty = λ z. empty_row z.row; within = λ y z. within_rows y.row z.row; holds_zero = λ z. zero_row z.row; row = λ z. z.row; of_row = of_row }
