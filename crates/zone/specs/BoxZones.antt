-- Boxes and their rows.
use Rattle.std.specs.Prelude.{◌≡◌, true, false, Ok, Err, ◌≢◌, refl}
use Rattle.std.proofs.Common.{◌∙◌}
use Rattle.std.proofs.Math.Bool.{Bool-set}
use Rattle.zone.specs.declared.boxed.BoxZone.{BoxZone}
use Rattle.zone.specs.declared.boxed.row.BoxRow.{BoxRow}
use Rattle.zone.specs.declared.constraint.Constraint.{Constraint}
use Rattle.zone.specs.declared.fault.ZoneFault.TheVariants.{OutOfRange, NoDifferences}
use Rattle.zone.specs.Bounds.{bound_of}
use Rattle.zone.specs.BoxCalls.{void, make, of_row, constrained}
use Rattle.zone.specs.BoxRows.{proper, void_row, tightened_row}
use Rattle.zone.specs.Laws.{in_range, difference}
use Rattle.zone.specs.CheckedLemmas.{zone_void, row_zone, zone_none, zone_row, zone_with}

-- ---- a box is its row

row : BoxZone → BoxRow
row z = z.row

row_make : (r : BoxRow) (e : proper r ≡ true) → row (make r e) ≡ r
unfolding row
row_make r e = refl

fitting : (z : BoxZone) → proper (row z) ≡ true
unfolding row
fitting z = z.fitting

make_row : (z : BoxZone) (e : proper (row z) ≡ true) → make (row z) e ≡ z
unfolding row
make_row z e = λ i. record { row = z.row; fitting = Bool-set (proper z.row) true e z.fitting i }

pub row_of : (r : BoxRow) → proper r ≡ true → (of_row r).row ≡ r
unfolding row
row_of = row_zone proper make void row row_make

pub row_back : (z : BoxZone) → of_row z.row ≡ z
unfolding row
row_back = zone_row proper make void row row_make fitting make_row

pub zone_is : (z : BoxZone) (r : BoxRow) → z.row ≡ r → z ≡ of_row r
unfolding row
zone_is = zone_with proper make void row row_make fitting make_row

pub row_of_none : (r : BoxRow) → ((z : BoxZone) → z.row ≢ r) → of_row r ≡ void
unfolding row
row_of_none = zone_none proper make void row row_make

pub void_is : void ≡ of_row void_row
unfolding void
void_is = zone_is void void_row refl

pub unproper_void : (r : BoxRow) → proper r ≡ false → of_row r ≡ of_row void_row
unproper_void r h = zone_void proper make void r h ∙ void_is

-- ---- constraints

module _ (z : BoxZone) (c : Constraint) where
  pub constrained_out : in_range z.row.clocks c ≡ false → constrained z c ≡ Err OutOfRange
  unfolding constrained
  constrained_out h = rw h

  pub constrained_kind : in_range z.row.clocks c ≡ true → difference c ≡ true → constrained z c ≡ Err NoDifferences
  unfolding constrained
  constrained_kind h d = rw (h, d)

  pub constrained_in : in_range z.row.clocks c ≡ true → difference c ≡ false → constrained z c ≡ Ok (of_row (tightened_row z.row c.i c.j (bound_of c)))
  unfolding constrained
  constrained_in h d = rw (h, d)
