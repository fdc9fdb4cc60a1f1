-- The calls of the box kind on plain rows.
use Rattle.std.specs.Prelude.{ℕ, ◌+◌, Bool, cond, not, ◌&&◌, ◌||◌, List, map, length, ◌==◌, slice_index_or}
use Rattle.std.specs.List.{list_all, zip, range_with_len}
use Rattle.zone.specs.declared.bound.Bound.{Bound}
use Rattle.zone.specs.declared.bound.Bound.TheVariants.{Free}
use Rattle.zone.specs.declared.boxed.range.Range.{Range}
use Rattle.zone.specs.declared.boxed.row.BoxRow.{BoxRow}
use Rattle.zone.specs.Laws.{countable}
use Rattle.zone.specs.Ranges.{whole_range, no_range, inhabited, contains, has_zero, fits, elapsed, reset, tightened}
use Rattle.zone.specs.Tests.{every}

-- the range at place k, which is that of clock k + 1
abbrev pub range_at : List Range → ℕ → Range
range_at m k = slice_index_or m k (record { lower = Free; upper = Free })

-- the row of n clocks with a range for each place
unfoldable pub ranges_row : ℕ → (ℕ → Range) → BoxRow
ranges_row n f = record { clocks = n; ranges = map f (range_with_len 0 6) }

-- the row of some box
unfoldable pub proper : BoxRow → Bool
proper r = length r.ranges == 6 && countable r.clocks && every (λ k. fits r.clocks k (range_at r.ranges k)) 6

-- some range is empty
unfoldable pub empty_row : BoxRow → Bool
empty_row r = not (list_all inhabited r.ranges)

-- one clock, with the range below 0
unfoldable pub void_row : BoxRow
void_row = ranges_row 1 (λ k. cond (k == 0) no_range whole_range)

-- every valuation of n clocks; the void row where n is no clock count
unfoldable pub whole_row : ℕ → BoxRow
whole_row n = cond (countable n) (ranges_row n (λ k. whole_range)) void_row

-- each range as f makes it of its clock; an empty row stays as it is
unfoldable pub changed_row : (ℕ → Range → Range) → BoxRow → BoxRow
changed_row f r = cond (empty_row r) r (ranges_row r.clocks (λ k. f (k + 1) (range_at r.ranges k)))

-- after any wait
abbrev pub elapsed_row : BoxRow → BoxRow
elapsed_row r = changed_row (λ _. elapsed) r

-- with clock x set to zero
abbrev pub reset_row : BoxRow → ℕ → BoxRow
reset_row r x = changed_row (reset x) r

-- with the bound b of x_i − x_j
abbrev pub tightened_row : BoxRow → ℕ → ℕ → Bound → BoxRow
tightened_row r i j b = changed_row (tightened i j b) r

-- as many clocks, and the first is empty or each of its ranges lies in the other's
unfoldable pub within_rows : BoxRow → BoxRow → Bool
within_rows y z = y.clocks == z.clocks && (empty_row y || list_all (λ p. contains p.1 p.0) (zip y.ranges z.ranges))

-- each range has 0
unfoldable pub zero_row : BoxRow → Bool
zero_row r = list_all has_zero r.ranges
