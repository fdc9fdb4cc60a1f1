-- A zone is its row.
use Rattle.std.specs.Prelude.{◌≡◌, Bool, true, false, ◌≢◌}
use Rattle.std.proofs.Math.Path.{refl}
use Rattle.std.proofs.Common.{sym, ◌∙◌, ap}
use Rattle.std.proofs.lemmas.Bool.{true≢false}
use Rattle.zone.specs.Checked.{zone_by, zone_of}

module _ {Z Row : Type 0} (proper : Row → Bool) (make : (r : Row) → proper r ≡ true → Z) (void : Z) where
  void_by : (r : Row) (t : Bool) (e : proper r ≡ t) → t ≡ false → zone_by proper make void r t e ≡ void
  unfolding zone_by
  void_by r true e h = absurd (true≢false h)
  void_by r false e h = refl

  -- a row that fails the test
  pub zone_void : (r : Row) → proper r ≡ false → zone_of proper make void r ≡ void
  unfolding zone_of
  zone_void r h = void_by r (proper r) refl h

  module _ (row : Z → Row) (row_make : (r : Row) (e : proper r ≡ true) → row (make r e) ≡ r) where
    row_by : (r : Row) (t : Bool) (e : proper r ≡ t) → t ≡ true → row (zone_by proper make void r t e) ≡ r
    unfolding zone_by
    row_by r true e h = row_make r e
    row_by r false e h = absurd (true≢false (sym h))

    pub row_zone : (r : Row) → proper r ≡ true → row (zone_of proper make void r) ≡ r
    unfolding zone_of
    row_zone r h = row_by r (proper r) refl h

    none_by : (r : Row) (t : Bool) (e : proper r ≡ t) → ((z : Z) → row z ≢ r) → zone_by proper make void r t e ≡ void
    unfolding zone_by
    none_by r true e h = absurd (h (make r e) (row_make r e))
    none_by r false e h = refl

    pub zone_none : (r : Row) → ((z : Z) → row z ≢ r) → zone_of proper make void r ≡ void
    unfolding zone_of
    zone_none r h = none_by r (proper r) refl h

    module _ (fitting : (z : Z) → proper (row z) ≡ true) (make_row : (z : Z) (e : proper (row z) ≡ true) → make (row z) e ≡ z) where
      back_by : (z : Z) (t : Bool) (e : proper (row z) ≡ t) → zone_by proper make void (row z) t e ≡ z
      unfolding zone_by
      back_by z true e = make_row z e
      back_by z false e = absurd (true≢false (sym (fitting z) ∙ e))

      pub zone_row : (z : Z) → zone_of proper make void (row z) ≡ z
      unfolding zone_of
      zone_row z = back_by z (proper (row z)) refl

      pub zone_with : (z : Z) (r : Row) → row z ≡ r → z ≡ zone_of proper make void r
      zone_with z r e = sym (zone_row z) ∙ ap (zone_of proper make void) e
