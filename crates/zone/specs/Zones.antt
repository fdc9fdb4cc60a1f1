-- Difference zones and their rows.
use Rattle.std.specs.Prelude.{◌≡◌, true, false, Err, ◌≢◌, refl}
use Rattle.std.proofs.Common.{◌∙◌}
use Rattle.std.proofs.Math.Bool.{Bool-set}
use Rattle.zone.specs.declared.constraint.Constraint.{Constraint}
use Rattle.zone.specs.declared.difference.DifferenceZone.{DifferenceZone}
use Rattle.zone.specs.declared.difference.row.DifferenceRow.{DifferenceRow}
use Rattle.zone.specs.declared.fault.ZoneFault.TheVariants.{OutOfRange}
use Rattle.zone.specs.Bounds.{bound_of}
use Rattle.zone.specs.DifferenceCalls.{void, make, of_row, granted, constrained}
use Rattle.zone.specs.DifferenceRows.{proper, empty_row, tightened_row}
use Rattle.zone.specs.Laws.{in_range}
use Rattle.zone.specs.CheckedLemmas.{zone_void, row_zone, zone_none, zone_row, zone_with}

-- ---- a zone is its row

row : DifferenceZone → DifferenceRow
row z = z.row

row_make : (r : DifferenceRow) (e : proper r ≡ true) → row (make r e) ≡ r
unfolding row
row_make r e = refl

fitting : (z : DifferenceZone) → proper (row z) ≡ true
unfolding row
fitting z = z.fitting

make_row : (z : DifferenceZone) (e : proper (row z) ≡ true) → make (row z) e ≡ z
unfolding row
make_row z e = λ i. record { row = z.row; fitting = Bool-set (proper z.row) true e z.fitting i }

pub row_of : (r : DifferenceRow) → proper r ≡ true → (of_row r).row ≡ r
unfolding row
row_of = row_zone proper make void row row_make

pub row_back : (z : DifferenceZone) → of_row z.row ≡ z
unfolding row
row_back = zone_row proper make void row row_make fitting make_row

pub zone_is : (z : DifferenceZone) (r : DifferenceRow) → z.row ≡ r → z ≡ of_row r
unfolding row
zone_is = zone_with proper make void row row_make fitting make_row

pub row_of_none : (r : DifferenceRow) → ((z : DifferenceZone) → z.row ≢ r) → of_row r ≡ void
unfolding row
row_of_none = zone_none proper make void row row_make

void_is : void ≡ of_row (empty_row 1)
unfolding void
void_is = zone_is void (empty_row 1) refl

pub unproper_void : (r : DifferenceRow) → proper r ≡ false → of_row r ≡ of_row (empty_row 1)
unproper_void r h = zone_void proper make void r h ∙ void_is

-- ---- constraints in range

pub constrained_in : (z : DifferenceZone) (c : Constraint) → in_range z.row.clocks c ≡ true → constrained z c ≡ granted (tightened_row z.row c.i c.j (bound_of c))
unfolding constrained
constrained_in z c h = rw h

pub constrained_out : (z : DifferenceZone) (c : Constraint) → in_range z.row.clocks c ≡ false → constrained z c ≡ Err OutOfRange
unfolding constrained
constrained_out z c h = rw h
