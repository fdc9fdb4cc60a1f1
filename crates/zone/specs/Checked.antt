-- The zone of a row, after a test of the row.
use Rattle.std.specs.Prelude.{◌≡◌, Bool, true, false, refl}

module _ {Z Row : Type 0} (proper : Row → Bool) (make : (r : Row) → proper r ≡ true → Z) (void : Z) where
  -- by what the test gives
  unfoldable pub zone_by : (r : Row) (t : Bool) → proper r ≡ t → Z
  zone_by r true e = make r e
  zone_by r false e = void

  -- the void zone where the test fails
  unfoldable pub zone_of : Row → Z
  zone_of r = zone_by r (proper r) refl
