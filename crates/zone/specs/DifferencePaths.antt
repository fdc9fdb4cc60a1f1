-- What the difference kind promises of paths.
use Rattle.std.specs.Prelude.{◌≡◌, ℕ, ◌≤◌, true, false, Ok, Err, Result}
use Rattle.zone.specs.declared.bound.Bound.{Bound}
use Rattle.zone.specs.declared.constraint.Constraint.{Constraint}
use Rattle.zone.specs.declared.difference.DifferenceZone.{DifferenceZone}
use Rattle.zone.specs.declared.difference.row.DifferenceRow.{DifferenceRow}
use Rattle.zone.specs.declared.fault.ZoneFault.{ZoneFault}
use Rattle.zone.specs.declared.fault.ZoneFault.TheVariants.{TooWide}
use Rattle.zone.specs.Bounds.{narrow, bound_of}
use Rattle.zone.specs.DifferenceCalls.{of_row}
use Rattle.zone.specs.DifferenceRows.{empty_row}
use Rattle.zone.specs.Grids.{entry}
use Rattle.zone.specs.Paths.{Given, Entries, With, Tightest, Contradiction}

-- the entries of a row
abbrev pub EntriesOf : DifferenceRow → Given
EntriesOf r = Entries r.clocks (entry r.bounds)

-- each entry of a row that is not empty is the tightest sum along any path of its entries
abbrev pub ClosedByPaths : DifferenceRow → Type 0
ClosedByPaths r = r.empty ≡ false → (p q : ℕ) → p ≤ r.clocks → q ≤ r.clocks → Tightest (EntriesOf r) p q (entry r.bounds p q)

-- the entries of a row, and the bound that a constraint sets
abbrev pub Constraining : DifferenceRow → Constraint → Given
Constraining r c = With (EntriesOf r) c.i c.j (bound_of c)

-- what a constraint in range makes of a zone that is not empty
pub record Tightens (z : DifferenceZone) (c : Constraint) (r : Result DifferenceZone ZoneFault) : Type 0 where
  -- the empty zone of as many clocks, exactly if some cycle sums to tighter than ≤ 0
  pub empties : Contradiction (Constraining z.row c) → r ≡ Ok (of_row (empty_row z.row.clocks))
  pub empties_only : (y : DifferenceZone) → r ≡ Ok y → y.row.empty ≡ true → Contradiction (Constraining z.row c)
  -- else each entry is the tightest sum along any path
  pub tightest : (y : DifferenceZone) → r ≡ Ok y → y.row.empty ≡ false → (p q : ℕ) → p ≤ z.row.clocks → q ≤ z.row.clocks → Tightest (Constraining z.row c) p q (entry y.row.bounds p q)
  -- refused exactly if it would not be empty, and one of these has a constant beyond 1,000,000 either way
  pub refuses : (Contradiction (Constraining z.row c) → ⊥) → (p q : ℕ) (b : Bound) → p ≤ z.row.clocks → q ≤ z.row.clocks → Tightest (Constraining z.row c) p q b → narrow b ≡ false → r ≡ Err TooWide
  pub refuses_only : (e : ZoneFault) → r ≡ Err e → (Contradiction (Constraining z.row c) → ⊥) × ((p : ℕ) × (q : ℕ) × (b : Bound) × (p ≤ z.row.clocks) × (q ≤ z.row.clocks) × Tightest (Constraining z.row c) p q b × (narrow b ≡ false))
