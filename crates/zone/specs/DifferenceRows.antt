-- The calls of the difference kind on plain rows.
use Rattle.std.specs.Prelude.{ℕ, ◌/◌, ◌%◌, Bool, true, false, cond, not, ◌&&◌, ◌||◌, List, length, replicate, Ok, Err, Result, ◌==◌, slice_index_or}
use Rattle.std.specs.List.{list_all, zip}
use Rattle.zone.specs.declared.bound.Bound.{Bound}
use Rattle.zone.specs.declared.bound.Bound.TheVariants.{Free}
use Rattle.zone.specs.declared.difference.row.DifferenceRow.{DifferenceRow}
use Rattle.zone.specs.declared.fault.ZoneFault.{ZoneFault}
use Rattle.zone.specs.declared.fault.ZoneFault.TheVariants.{TooWide}
use Rattle.zone.specs.Bounds.{nil, implies, plus, narrow}
use Rattle.zone.specs.Grids.{Grid, entry, listed, whole_grid, elapsed_grid, reset_grid, tightened_grid, fits, triangle}
use Rattle.zone.specs.Laws.{countable}
use Rattle.zone.specs.Tests.{every}

-- every bound fits its place, and no sum of two is tighter than the bound from end to end
unfoldable pub closed : ℕ → List Bound → Bool
closed n m = every (λ k. fits n (k / 7) (k % 7) (slice_index_or m k Free)) 49 && every (λ k. triangle (entry m) (k / 49) (k / 7 % 7) (k % 7)) 343

-- every bound is free
unfoldable pub blank : List Bound → Bool
blank m = list_all (implies Free) m

-- every constant lies within 1,000,000 either way
unfoldable pub all_narrow : List Bound → Bool
all_narrow m = list_all narrow m

-- the row of some zone
unfoldable pub proper : DifferenceRow → Bool
proper r = length r.bounds == 49 && countable r.clocks && cond r.empty (blank r.bounds) (closed r.clocks r.bounds)

-- the row of the empty zone of n clocks
unfoldable pub empty_row : ℕ → DifferenceRow
empty_row n = record { clocks = n; empty = true; bounds = replicate 49 Free }

-- the row of a grid of n clocks
unfoldable pub grid_row : ℕ → Grid → DifferenceRow
grid_row n d = record { clocks = n; empty = false; bounds = listed d }

-- every valuation of n clocks; the empty zone of one clock where n is no clock count
unfoldable pub whole_row : ℕ → DifferenceRow
whole_row n = cond (countable n) (grid_row n (whole_grid n)) (empty_row 1)

-- the grid as f makes it; an empty row stays as it is
unfoldable pub changed_row : (Grid → Grid) → DifferenceRow → DifferenceRow
changed_row f r = cond r.empty r (grid_row r.clocks (f (entry r.bounds)))

-- after any wait
abbrev pub elapsed_row : DifferenceRow → DifferenceRow
elapsed_row r = changed_row elapsed_grid r

-- with clock x set to zero
abbrev pub reset_row : DifferenceRow → ℕ → DifferenceRow
reset_row r x = changed_row (λ d. reset_grid d x) r

-- refused where a constant is beyond 1,000,000 either way
unfoldable pub judged_row : ℕ → Grid → Result DifferenceRow ZoneFault
judged_row n d = cond (all_narrow (listed d)) (Ok (grid_row n d)) (Err TooWide)

-- the grid d of n clocks with the bound b of x_i − x_j, which is empty where b and the bound of x_j − x_i sum to tighter than ≤ 0
unfoldable pub tightened_by : ℕ → Grid → ℕ → ℕ → Bound → Result DifferenceRow ZoneFault
tightened_by n d i j b = cond (implies nil (plus b (d j i))) (judged_row n (tightened_grid d i j b)) (Ok (empty_row n))

-- with the bound b of x_i − x_j; an empty row stays as it is
unfoldable pub tightened_row : DifferenceRow → ℕ → ℕ → Bound → Result DifferenceRow ZoneFault
tightened_row r i j b = cond r.empty (Ok r) (tightened_by r.clocks (entry r.bounds) i j b)

-- as many clocks, and the first is empty or each of its bounds is at least as tight
unfoldable pub within_rows : DifferenceRow → DifferenceRow → Bool
within_rows y z = y.clocks == z.clocks && (y.empty || (not z.empty && list_all (λ p. implies p.0 p.1) (zip y.bounds z.bounds)))

-- not empty, and no bound is tighter than ≤ 0
unfoldable pub zero_row : DifferenceRow → Bool
zero_row r = not r.empty && list_all (implies nil) r.bounds
