-- Closed grids: what the test of the bounds says of them.
use Rattle.std.specs.Prelude.{◌≡◌, ℕ, ◌+◌, ◌*◌, ◌/◌, ◌%◌, ◌<◌, ◌≤◌, true, false, ◌&&◌, ◌||◌, T, ◌⊎◌, List, length, ◌==◌, nat_le, nat_lt, slice_index_or, refl}
use Rattle.std.proofs.Common.{ap, inl, inr, ⊎_elim}
use native.Mathlib.Omega.{arith}
use Rattle.std.proofs.lemmas.List.{get_or_past}
use Rattle.std.proofs.lemmas.Int.{ints}
use Rattle.std.proofs.lemmas.Bool.Decides.{nat_tests}
use Rattle.std.proofs.lemmas.Bool.{cases_lt, cases_Bool, and_parts, and_from, or_left, or_right, leb-true, le-leb, eqb-true, eq-eqb, false≢true}
use Rattle.zone.specs.declared.bound.Bound.{Bound}
use Rattle.zone.specs.declared.bound.Bound.TheVariants.{Free, AtMost, Below}
use Rattle.zone.specs.Bounds.{nil, implies, plus, size, narrow}
use Rattle.zone.specs.Grids.{Grid, entry, listed, fits, triangle}
use Rattle.zone.specs.DifferenceRows.{closed}
use Rattle.zone.specs.Tests.{every}
use Rattle.zone.specs.Cells.{listed_at, entry_listed}
use Rattle.zone.specs.Every.{every_at, every_from}
use Rattle.zone.specs.Truth.{so, is_true}

pub free_is : (b : Bound) → implies Free b ≡ true → b ≡ Free
free_is Free e = refl
free_is (AtMost c) e = absurd (false≢true e)
free_is (Below c) e = absurd (false≢true e)

pub nil_is : (b : Bound) → implies b nil ≡ true → implies nil b ≡ true → b ≡ nil
nil_is Free e f = absurd (false≢true e)
nil_is (AtMost c) e f = ap AtMost (omega (arith, ints))
nil_is (Below c) e f = absurd (omega (arith, ints))

-- the three kinds of places
fits_outside : (n p q : ℕ) (b : Bound) → fits n p q b ≡ true → (nat_le p n && nat_le q n) ≡ false → b ≡ Free
fits_outside n p q b h o = free_is b (rw o at h)

fits_diagonal : (n p q : ℕ) (b : Bound) → fits n p q b ≡ true → (nat_le p n && nat_le q n) ≡ true → (p == q) ≡ true → b ≡ nil
fits_diagonal n p q b h o e =
    let g : (implies b nil && implies nil b) ≡ true = rw (o, e) at h in
    nil_is b (and_parts (implies b nil) (implies nil b) g).0 (and_parts (implies b nil) (implies nil b) g).1

fits_between : (n p q : ℕ) (b : Bound) → fits n p q b ≡ true → (nat_le p n && nat_le q n) ≡ true → (p == q) ≡ false → (narrow b && (nat_lt 0 p || implies b nil)) ≡ true
fits_between n p q b h o e = rw (o, e) at h

size_free : (b : Bound) → b ≡ Free → size b ≤ 1000000
size_free b e = rw e (omega arith)

size_nil : (b : Bound) → b ≡ nil → size b ≤ 1000000
size_nil b e = rw e (omega arith)

fits_small : (n p q : ℕ) (b : Bound) → fits n p q b ≡ true → size b ≤ 1000000
fits_small n p q b h =
    ⊎_elim
    (λ o. ⊎_elim (λ e. size_nil b (fits_diagonal n p q b h o e)) (λ e. leb-true (size b) 1000000 (and_parts (narrow b) (nat_lt 0 p || implies b nil) (fits_between n p q b h o e)).0) (cases_Bool (p == q)))
    (λ o. size_free b (fits_outside n p q b h o))
    (cases_Bool (nat_le p n && nat_le q n))

pub fit_small : (n : ℕ) (m : List Bound) → length m ≡ 49 → every (λ k. fits n (k / 7) (k % 7) (slice_index_or m k Free)) 49 ≡ true → (h : ℕ) → size (slice_index_or m h Free) ≤ 1000000
fit_small n m e w h =
    ⊎_elim
    (λ l. fits_small n (h / 7) (h % 7) (slice_index_or m h Free) (every_at (λ k. fits n (k / 7) (k % 7) (slice_index_or m k Free)) 49 w h l))
    (λ l. size_free (slice_index_or m h Free) (get_or_past m h Free (omega arith)))
    (cases_lt h 49)

-- what the bounds of a zone keep
pub record Closed (n : ℕ) (d : Grid) : Type 0 where
  pub outside : (p q : ℕ) → p < 7 → q < 7 → (nat_le p n && nat_le q n) ≡ false → d p q ≡ Free
  pub diagonal : (p : ℕ) → p ≤ n → d p p ≡ nil
  pub positive : (q : ℕ) → q ≤ n → T (implies (d 0 q) nil)
  pub small : (p q : ℕ) → p < 7 → q < 7 → size (d p q) ≤ 1000000
  pub triangles : (p q r : ℕ) → p < 7 → q < 7 → r < 7 → T (implies (d p r) (plus (d p q) (d q r)))

-- ---- from the test

module _ (n : ℕ) (six : n ≤ 6) (m : List Bound) (t : closed n m ≡ true) where
  fit : every (λ k. fits n (k / 7) (k % 7) (slice_index_or m k Free)) 49 ≡ true
  unfolding closed
  fit = (and_parts _ _ t).0

  tri : every (λ k. triangle (entry m) (k / 49) (k / 7 % 7) (k % 7)) 343 ≡ true
  unfolding closed
  tri = (and_parts _ _ t).1

  entry_fits : (p q : ℕ) → p < 7 → q < 7 → fits n p q (entry m p q) ≡ true
  unfolding entry
  entry_fits p q l k =
      let e : (7 * p + q) / 7 ≡ p = omega arith in
      let f : (7 * p + q) % 7 ≡ q = omega arith in
      let i : 7 * p + q < 49 = omega arith in
      rw (e, f) at (every_at (λ k. fits n (k / 7) (k % 7) (slice_index_or m k Free)) 49 fit (7 * p + q) i)

  entry_triangle : (p q r : ℕ) → p < 7 → q < 7 → r < 7 → triangle (entry m) p q r ≡ true
  entry_triangle p q r l k j =
      let e : (49 * p + 7 * q + r) / 49 ≡ p = omega arith in
      let f : (49 * p + 7 * q + r) / 7 % 7 ≡ q = omega arith in
      let g : (49 * p + 7 * q + r) % 7 ≡ r = omega arith in
      let i : 49 * p + 7 * q + r < 343 = omega arith in
      rw (e, f, g) at (every_at (λ k. triangle (entry m) (k / 49) (k / 7 % 7) (k % 7)) 343 tri (49 * p + 7 * q + r) i)

  both_in : (p q : ℕ) → p ≤ n → q ≤ n → (nat_le p n && nat_le q n) ≡ true
  both_in p q l k = and_from _ _ (le-leb p n l) (le-leb q n k)

  entry_positive : (q : ℕ) → q ≤ n → ((0 == q) ≡ true) ⊎ ((0 == q) ≡ false) → T (implies (entry m 0 q) nil)
  entry_positive q l (inl e) = rw (fits_diagonal n 0 q (entry m 0 q) (entry_fits 0 q (omega arith) (omega arith)) (both_in 0 q (omega arith) l) e) (omega (arith, ints))
  entry_positive q l (inr e) =
      so (implies (entry m 0 q) nil) (and_parts _ _ (fits_between n 0 q (entry m 0 q) (entry_fits 0 q (omega arith) (omega arith)) (both_in 0 q (omega arith) l) e)).1

  pub closed_out : Closed n (entry m)
  closed_out = record {
    outside = λ p q l k o. fits_outside n p q (entry m p q) (entry_fits p q l k) o;
    diagonal = λ p l. fits_diagonal n p p (entry m p p) (entry_fits p p (omega arith) (omega arith)) (both_in p p l l) (eq-eqb p p refl);
    positive = λ q l. entry_positive q l (cases_Bool (0 == q));
    small = λ p q l k. fits_small n p q (entry m p q) (entry_fits p q l k);
    triangles = λ p q r l k j. so (triangle (entry m) p q r) (entry_triangle p q r l k j);
  }

-- ---- to the test

module _ (n : ℕ) (d : Grid) (c : Closed n d) where
  grid_outside : (p q : ℕ) → p < 7 → q < 7 → (nat_le p n && nat_le q n) ≡ false → fits n p q (d p q) ≡ true
  grid_outside p q l k o = rw (o, c.outside p q l k o)

  grid_diagonal : (p q : ℕ) → (nat_le p n && nat_le q n) ≡ true → (p == q) ≡ true → fits n p q (d p q) ≡ true
  grid_diagonal p q o e =
      let f : p ≡ q = eqb-true p q e in
      let l : q ≤ n = leb-true q n (and_parts _ _ o).1 in
      rw (o, e, f, c.diagonal q l)

  first_positive : (p q : ℕ) → q ≤ n → (nat_lt 0 p ≡ true) ⊎ (nat_lt 0 p ≡ false) → (nat_lt 0 p || implies (d p q) nil) ≡ true
  first_positive p q l (inl e) = or_left _ _ e
  first_positive p q l (inr e) =
      let z : p ≡ 0 = grind (arith, nat_tests) in
      or_right _ _ (is_true (implies (d p q) nil) (rw z (c.positive q l)))

  grid_between : (p q : ℕ) → p < 7 → q < 7 → (nat_le p n && nat_le q n) ≡ true → (p == q) ≡ false → fits n p q (d p q) ≡ true
  grid_between p q l k o e =
      rw (o, e) (and_from _ _ (le-leb (size (d p q)) 1000000 (c.small p q l k)) (first_positive p q (leb-true q n (and_parts _ _ o).1) (cases_Bool (nat_lt 0 p))))

  grid_fits : (p q : ℕ) → p < 7 → q < 7 → fits n p q (d p q) ≡ true
  grid_fits p q l k =
      ⊎_elim
      (λ o. ⊎_elim (λ e. grid_diagonal p q o e) (λ e. grid_between p q l k o e) (cases_Bool (p == q)))
      (λ o. grid_outside p q l k o)
      (cases_Bool (nat_le p n && nat_le q n))

  list_fits : (k : ℕ) → k < 49 → fits n (k / 7) (k % 7) (slice_index_or (listed d) k Free) ≡ true
  list_fits k l = rw (listed_at d k l) (grid_fits (k / 7) (k % 7) (omega arith) (omega arith))

  list_triangle : (k : ℕ) → k < 343 → triangle (entry (listed d)) (k / 49) (k / 7 % 7) (k % 7) ≡ true
  list_triangle k l =
      let p : k / 49 < 7 = omega arith in
      let q : k / 7 % 7 < 7 = omega arith in
      let r : k % 7 < 7 = omega arith in
      rw (entry_listed d (k / 49) (k % 7) p r, entry_listed d (k / 49) (k / 7 % 7) p q, entry_listed d (k / 7 % 7) (k % 7) q r) (is_true (triangle d (k / 49) (k / 7 % 7) (k % 7)) (c.triangles (k / 49) (k / 7 % 7) (k % 7) p q r))

  pub closed_in : closed n (listed d) ≡ true
  unfolding closed
  closed_in = and_from _ _ (every_from _ 49 list_fits) (every_from _ 343 list_triangle)
