-- Rows of boxes: the row of every call is the row of some box.
use Rattle.std.specs.Prelude.{◌≡◌, ℕ, ◌+◌, ◌<◌, ◌≤◌, Bool, true, false, ◌&&◌, ltb, List, map, length, ◌==◌, nat_le, nat_lt, slice_index_or, refl}
use Rattle.std.proofs.Common.{sym, subst, ◌∙◌, arith}
use Rattle.std.proofs.lemmas.List.{get_or_default}
use Rattle.std.proofs.lemmas.List.FromFn.{length-map-range_with_len, get_or-map-range_with_len}
use Rattle.std.proofs.lemmas.Bool.{and_parts, and_from, and_left, and_right, cond_both, leb-true, le-leb, ltb-false, lt-ltb, eqb-true, eq-eqb, ne_eqb}
use Rattle.std.specs.List.{range_with_len}
use Rattle.zone.specs.declared.bound.Bound.{Bound}
use Rattle.zone.specs.declared.bound.Bound.TheVariants.{Free}
use Rattle.zone.specs.declared.boxed.range.Range.{Range}
use Rattle.zone.specs.declared.boxed.row.BoxRow.{BoxRow}
use Rattle.zone.specs.Bounds.{nil, implies, tighter, size}
use Rattle.zone.specs.BoxRows.{range_at, ranges_row, proper, empty_row, void_row, whole_row, changed_row, elapsed_row, reset_row, tightened_row}
use Rattle.zone.specs.Laws.{countable}
use Rattle.zone.specs.Ranges.{whole_range, zero_range, contains, fits, elapsed, reset, tightened}
use Rattle.zone.specs.Tests.{every}
use Rattle.zone.specs.Closed.{free_is, nil_is}
use Rattle.zone.specs.Every.{every_at, every_from}
use Rattle.zone.specs.Order.{implies_trans, tighter_of, tighter_left}
use Rattle.zone.specs.Truth.{so, is_true}

-- ---- a range and its place

module _ (n k : ℕ) (g : Range) (f : fits n k g ≡ true) where
  fits_parts : ltb k n ≡ true → (implies g.lower nil && nat_le (size g.lower) 10000 && nat_le (size g.upper) 10000) ≡ true
  fits_parts e = rw e at f

  pub fits_floor : ltb k n ≡ true → implies g.lower nil ≡ true
  fits_floor e = (and_parts _ _ (and_parts _ _ (fits_parts e)).0).0

  pub fits_past : ltb k n ≡ false → g ≡ whole_range
  fits_past e =
      let h : (contains whole_range g && contains g whole_range) ≡ true = rw e at f in
      let a = and_parts (contains whole_range g) (contains g whole_range) h in
      let b = and_parts (implies g.lower nil) (implies g.upper Free) a.0 in
      let c = and_parts (implies nil g.lower) (implies Free g.upper) a.1 in
      λ i. record { lower = nil_is g.lower b.0 c.0 i; upper = free_is g.upper c.1 i }

  small_by : (t : Bool) → nat_lt k n ≡ t → (size g.lower ≤ 10000) × (size g.upper ≤ 10000)
  small_by true e = (leb-true _ _ (and_parts _ _ (and_parts _ _ (fits_parts e)).0).1, leb-true _ _ (and_parts _ _ (fits_parts e)).1)
  small_by false e = rw (fits_past e) (omega arith, omega arith)

  pub fits_small : (size g.lower ≤ 10000) × (size g.upper ≤ 10000)
  fits_small = small_by (nat_lt k n) refl

pub fits_inside : (n k : ℕ) (g : Range) → nat_lt k n ≡ true → implies g.lower nil ≡ true → size g.lower ≤ 10000 → size g.upper ≤ 10000 → fits n k g ≡ true
fits_inside n k g e a b c = rw e (and_from _ _ (and_from _ _ a (le-leb _ _ b)) (le-leb _ _ c))

pub fits_whole : (n k : ℕ) → fits n k whole_range ≡ true
fits_whole n k = cond_both (nat_lt k n) true true (λ t. t ≡ true) (λ _. refl) (λ _. refl)

-- ---- the ranges that the calls make fit

fits_elapsed : (n k : ℕ) (g : Range) → fits n k g ≡ true → fits n k (elapsed g) ≡ true
fits_elapsed n k g f = go (nat_lt k n) refl
  where
    go : (t : Bool) → nat_lt k n ≡ t → fits n k (elapsed g) ≡ true
    go true e = fits_inside n k (elapsed g) e (fits_floor n k g f e) (fits_small n k g f).0 (omega arith)
    go false e = rw (fits_past n k g f e) (fits_whole n k)

fits_reset : (n k x : ℕ) (g : Range) → x ≤ n → fits n k g ≡ true → fits n k (reset x (k + 1) g) ≡ true
fits_reset n k x g l f =
    cond_both (x == k + 1) zero_range g (λ h. fits n k h ≡ true) (λ e. let i : x ≡ k + 1 = eqb-true x (k + 1) e in fits_inside n k zero_range (lt-ltb k n (omega arith)) refl (omega arith) (omega arith)) (λ _. f)

tightened_past : (n k i j : ℕ) (b : Bound) (g : Range) → i ≤ n → j ≤ n → nat_lt k n ≡ false → tightened i j b (k + 1) g ≡ g
tightened_past n k i j b g l m e =
    let h : n ≤ k = ltb-false k n e in
    rw (ne_eqb i (k + 1) (λ e. omega arith), ne_eqb j (k + 1) (λ e. omega arith))

fits_tightened : (n k i j : ℕ) (b : Bound) (g : Range) → i ≤ n → j ≤ n → size b ≤ 10000 → fits n k g ≡ true → fits n k (tightened i j b (k + 1) g) ≡ true
fits_tightened n k i j b g l m s f = go (nat_lt k n) refl
  where
    go : (t : Bool) → nat_lt k n ≡ t → fits n k (tightened i j b (k + 1) g) ≡ true
    go true e =
        let w = fits_small n k g f in
        let o = fits_floor n k g f e in
        fits_inside n k (tightened i j b (k + 1) g) e
        (cond_both (j == k + 1) (tighter g.lower b) g.lower (λ x. implies x nil ≡ true) (λ _. is_true _ (implies_trans (tighter g.lower b) g.lower nil (tighter_left g.lower b) (so _ o))) (λ _. o))
        (cond_both (j == k + 1) (tighter g.lower b) g.lower (λ x. size x ≤ 10000) (λ _. tighter_of (λ x. size x ≤ 10000) g.lower b w.0 s) (λ _. w.0))
        (cond_both (i == k + 1) (tighter g.upper b) g.upper (λ x. size x ≤ 10000) (λ _. tighter_of (λ x. size x ≤ 10000) g.upper b w.1 s) (λ _. w.1))
    go false e = subst (λ (x : Range). fits n k x ≡ true) (sym (tightened_past n k i j b g l m e)) f

-- ---- rows

module _ (r : BoxRow) (h : proper r ≡ true) where
  pub proper_countable : countable r.clocks ≡ true
  unfolding proper
  proper_countable = (and_parts _ _ (and_parts _ _ h).0).1

  pub proper_length : length r.ranges ≡ 6
  unfolding proper
  proper_length = eqb-true _ _ (and_parts _ _ (and_parts _ _ h).0).0

  pub proper_fits : (k : ℕ) → k < 6 → fits r.clocks k (range_at r.ranges k) ≡ true
  unfolding proper
  proper_fits k l = every_at (λ k. fits r.clocks k (range_at r.ranges k)) 6 (and_parts _ _ h).1 k l

  pub proper_small : (k : ℕ) (d g : Range) → k < length r.ranges → g ≡ slice_index_or r.ranges k d → (size g.lower ≤ 10000) × (size g.upper ≤ 10000)
  proper_small k d g l e =
      let f : fits r.clocks k (range_at r.ranges k) ≡ true = proper_fits k (omega (arith, proper_length)) in
      fits_small r.clocks k g (subst (λ (h : Range). fits r.clocks k h ≡ true) (get_or_default r.ranges k (record { lower = Free; upper = Free }) d l ∙ sym e) f)

pub proper_none : (r : BoxRow) → countable r.clocks ≡ false → proper r ≡ false
unfolding proper
proper_none r h = and_left _ _ (and_right _ _ h)

pub proper_by_fits : (r : BoxRow) → length r.ranges ≡ 6 → countable r.clocks ≡ true → proper r ≡ every (λ k. fits r.clocks k (range_at r.ranges k)) 6
unfolding proper
proper_by_fits r n h = rw (n, h)

pub ranges_at : (n : ℕ) (f : ℕ → Range) (k : ℕ) → k < 6 → range_at (ranges_row n f).ranges k ≡ f k
unfolding ranges_row
ranges_at n f k l = get_or-map-range_with_len f 0 6 k k (record { lower = Free; upper = Free }) l (omega arith)

pub proper_ranges : (n : ℕ) (f : ℕ → Range) → countable n ≡ true → ((k : ℕ) → k < 6 → fits n k (f k) ≡ true) → proper (ranges_row n f) ≡ true
unfolding proper ranges_row
proper_ranges n f h w =
    and_from _ _ (and_from _ _ (eq-eqb _ _ (length-map-range_with_len f 0 6)) h) (every_from _ 6 (λ k l. rw (get_or-map-range_with_len f 0 6 k k (record { lower = Free; upper = Free }) l (omega arith)) (w k l)))

pub proper_void : proper void_row ≡ true
unfolding proper void_row ranges_row every
proper_void = refl

pub whole_is : (n : ℕ) → countable n ≡ true → whole_row n ≡ ranges_row n (λ k. whole_range)
unfolding whole_row
whole_is n h = rw h

pub whole_void : (n : ℕ) → countable n ≡ false → whole_row n ≡ void_row
unfolding whole_row
whole_void n h = rw h

pub proper_whole : (n : ℕ) → proper (whole_row n) ≡ true
unfolding whole_row
proper_whole n =
    cond_both (countable n) (ranges_row n (λ k. whole_range)) void_row (λ r. proper r ≡ true) (λ h. proper_ranges n (λ k. whole_range) h (λ k _. fits_whole n k)) (λ _. proper_void)

module _ (f : ℕ → Range → Range) (r : BoxRow) where
  -- an empty row stays as it is
  pub changed_empty : empty_row r ≡ true → changed_row f r ≡ r
  unfolding changed_row
  changed_empty e = rw e

  pub changed_is : empty_row r ≡ false → changed_row f r ≡ ranges_row r.clocks (λ k. f (k + 1) (range_at r.ranges k))
  unfolding changed_row
  changed_is e = rw e

  -- a change that keeps what each clock can have
  pub proper_changed : proper r ≡ true → ((k : ℕ) (g : Range) → fits r.clocks k g ≡ true → fits r.clocks k (f (k + 1) g) ≡ true) → proper (changed_row f r) ≡ true
  unfolding changed_row
  proper_changed h keeps =
      cond_both (empty_row r) r (ranges_row r.clocks (λ k. f (k + 1) (range_at r.ranges k))) (λ s. proper s ≡ true) (λ _. h) (λ _. proper_ranges r.clocks _ (proper_countable r h) (λ k l. keeps k (range_at r.ranges k) (proper_fits r h k l)))

  -- every call keeps the clock count
  pub changed_count : (changed_row f r).clocks ≡ r.clocks
  unfolding changed_row ranges_row
  changed_count = cond_both (empty_row r) r (ranges_row r.clocks (λ k. f (k + 1) (range_at r.ranges k))) (λ (s : BoxRow). s.clocks ≡ r.clocks) (λ _. refl) (λ _. refl)

module _ (r : BoxRow) (h : proper r ≡ true) where
  pub proper_elapsed : proper (elapsed_row r) ≡ true
  proper_elapsed = proper_changed (λ _. elapsed) r h (λ k g f. fits_elapsed r.clocks k g f)

  pub proper_reset : (x : ℕ) → x ≤ r.clocks → proper (reset_row r x) ≡ true
  proper_reset x u = proper_changed (reset x) r h (λ k g f. fits_reset r.clocks k x g u f)

  pub proper_tightened : (i j : ℕ) (b : Bound) → i ≤ r.clocks → j ≤ r.clocks → size b ≤ 10000 → proper (tightened_row r i j b) ≡ true
  proper_tightened i j b u v s = proper_changed (tightened i j b) r h (λ k g f. fits_tightened r.clocks k i j b g u v s f)

-- a row by its ranges
pub same_row : (n : ℕ) (m : List Range) (f : ℕ → Range) → m ≡ map f (range_with_len 0 6) → record { clocks = n; ranges = m } ≡ ranges_row n f
unfolding ranges_row
same_row n m f e = λ i. record { clocks = n; ranges = e i }
