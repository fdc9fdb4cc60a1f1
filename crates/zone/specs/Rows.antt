-- Rows of difference zones: the row of every call is the row of some zone.
use Rattle.std.specs.Prelude.{◌≡◌, ℕ, ◌+◌, ◌*◌, ◌/◌, ◌%◌, ◌<◌, ◌≤◌, true, false, cond, Bool, List, length, Ok, Err, Result, nat_le, slice_index_or, refl}
use Rattle.std.proofs.Common.{ap, ⊎_elim, arith}
use Rattle.std.proofs.lemmas.List.Sums.{AllPass-from_list_all}
use Rattle.std.proofs.lemmas.List.{length-replicate}
use Rattle.std.proofs.lemmas.Bool.{cases_Bool, and_parts, and_from, cond_both, leb-true, eqb-true, eq-eqb}
use Rattle.zone.specs.declared.bound.Bound.{Bound}
use Rattle.zone.specs.declared.bound.Bound.TheVariants.{Free}
use Rattle.zone.specs.declared.difference.row.DifferenceRow.{DifferenceRow}
use Rattle.zone.specs.declared.fault.ZoneFault.{ZoneFault}
use Rattle.zone.specs.declared.fault.ZoneFault.TheVariants.{TooWide}
use Rattle.zone.specs.Bounds.{nil, implies, plus, size, narrow}
use Rattle.zone.specs.DifferenceRows.{proper, blank, closed, all_narrow, empty_row, grid_row, whole_row, changed_row, elapsed_row, reset_row, judged_row, tightened_by, tightened_row}
use Rattle.zone.specs.Grids.{Grid, entry, listed, whole_grid, elapsed_grid, reset_grid, tightened_grid}
use Rattle.zone.specs.Laws.{countable}
use Rattle.zone.specs.Cells.{length_listed, listed_at}
use Rattle.zone.specs.Changes.{closed_whole, closed_elapsed, closed_reset}
use Rattle.zone.specs.Closed.{Closed, closed_in, closed_out, fit_small}
use Rattle.zone.specs.Tightened.{closed_tightened}
use Rattle.zone.specs.Truth.{so}

pub countable_high : (n : ℕ) → countable n ≡ true → n ≤ 6
countable_high n h = leb-true n 6 (and_parts (nat_le 1 n) (nat_le n 6) h).1

-- ---- the parts of the test

module _ (r : DifferenceRow) (h : proper r ≡ true) where
  pub proper_length : length r.bounds ≡ 49
  unfolding proper
  proper_length = eqb-true _ _ (and_parts _ _ (and_parts _ _ h).0).0

  pub proper_countable : countable r.clocks ≡ true
  unfolding proper
  proper_countable = (and_parts _ _ (and_parts _ _ h).0).1

  proper_rest : cond r.empty (blank r.bounds) (closed r.clocks r.bounds) ≡ true
  unfolding proper
  proper_rest = (and_parts _ _ h).1

  module _ (e : r.empty ≡ false) where
    proper_test : closed r.clocks r.bounds ≡ true
    proper_test = rw e at proper_rest

    pub proper_closed : Closed r.clocks (entry r.bounds)
    proper_closed = closed_out r.clocks (countable_high r.clocks proper_countable) r.bounds proper_test

    pub proper_small : (k : ℕ) → size (slice_index_or r.bounds k Free) ≤ 1000000
    unfolding closed
    proper_small = fit_small r.clocks r.bounds proper_length (and_parts _ _ proper_test).0

-- ---- the rows that the calls make

pub whole_is : (n : ℕ) → countable n ≡ true → whole_row n ≡ grid_row n (whole_grid n)
unfolding whole_row
whole_is n h = rw h

-- a row that is not empty, by its bounds
pub same_row : (n : ℕ) (m : List Bound) (d : Grid) → m ≡ listed d → record { clocks = n; empty = false; bounds = m } ≡ grid_row n d
unfolding grid_row
same_row n m d e = ap (λ (l : List Bound). row n l) e
  where
    row : ℕ → List Bound → DifferenceRow
    row n l = record { clocks = n; empty = false; bounds = l }

pub proper_empty : (n : ℕ) → countable n ≡ true → proper (empty_row n) ≡ true
unfolding proper empty_row blank
proper_empty n h = and_from _ _ (and_from _ _ (eq-eqb _ _ (length-replicate 49 Free)) h) refl

pub proper_grid : (n : ℕ) (d : Grid) → countable n ≡ true → Closed n d → proper (grid_row n d) ≡ true
unfolding proper grid_row
proper_grid n d h c = and_from _ _ (and_from _ _ (eq-eqb _ _ (length_listed d)) h) (closed_in n d c)

pub proper_whole : (n : ℕ) → proper (whole_row n) ≡ true
unfolding whole_row
proper_whole n =
    cond_both (countable n) (grid_row n (whole_grid n)) (empty_row 1) (λ r. proper r ≡ true) (λ h. proper_grid n (whole_grid n) h (closed_whole n)) (λ _. proper_empty 1 refl)

module _ (f : Grid → Grid) (r : DifferenceRow) where
  pub changed_is : r.empty ≡ false → changed_row f r ≡ grid_row r.clocks (f (entry r.bounds))
  unfolding changed_row
  changed_is e = rw e

  -- every call keeps the clock count
  pub changed_count : (changed_row f r).clocks ≡ r.clocks
  unfolding changed_row grid_row
  changed_count = go r.empty refl
    where
      go : (t : Bool) → r.empty ≡ t → (changed_row f r).clocks ≡ r.clocks
      go true e = rw e
      go false e = rw e

  -- a change that leaves a closed grid closed
  pub proper_changed : proper r ≡ true → ((d : Grid) → Closed r.clocks d → Closed r.clocks (f d)) → proper (changed_row f r) ≡ true
  unfolding changed_row
  proper_changed h keeps =
      cond_both r.empty r (grid_row r.clocks (f (entry r.bounds))) (λ s. proper s ≡ true) (λ _. h) (λ e. proper_grid r.clocks (f (entry r.bounds)) (proper_countable r h) (keeps (entry r.bounds) (proper_closed r h e)))

pub proper_elapsed : (r : DifferenceRow) → proper r ≡ true → proper (elapsed_row r) ≡ true
proper_elapsed r h = proper_changed elapsed_grid r h (λ d c. closed_elapsed r.clocks d c)

pub proper_reset : (r : DifferenceRow) (x : ℕ) → proper r ≡ true → x ≤ r.clocks → proper (reset_row r x) ≡ true
proper_reset r x h l = proper_changed (λ d. reset_grid d x) r h (λ d c. closed_reset r.clocks x l d c)

-- every bound of the list of a grid is narrow
narrow_grid : (d : Grid) → all_narrow (listed d) ≡ true → (p q : ℕ) → p < 7 → q < 7 → size (d p q) ≤ 1000000
unfolding all_narrow
narrow_grid d h p q l k =
    let i : 7 * p + q < 49 = omega arith in
    let e : (7 * p + q) / 7 ≡ p = omega arith in
    let f : (7 * p + q) % 7 ≡ q = omega arith in
    leb-true (size (d p q)) 1000000 (rw (listed_at d (7 * p + q) i, e, f) at (AllPass-from_list_all narrow (listed d) h (7 * p + q) Free (omega (arith, length_listed d))))

module _ (r : DifferenceRow) (h : proper r ≡ true) (e : r.empty ≡ false) (i j : ℕ) (b : Bound) (i_in : i ≤ r.clocks) (j_in : j ≤ r.clocks) where
  -- the bounds with the new one
  abbrev grid : Grid
  grid = tightened_grid (entry r.bounds) i j b

  pub closed_with : implies nil (plus b (entry r.bounds j i)) ≡ true → all_narrow (listed grid) ≡ true → Closed r.clocks grid
  closed_with s a =
      closed_tightened r.clocks i j b (countable_high r.clocks (proper_countable r h)) i_in j_in (entry r.bounds) (proper_closed r h e) (so _ s) (narrow_grid grid a)

  pub proper_with : implies nil (plus b (entry r.bounds j i)) ≡ true → all_narrow (listed grid) ≡ true → proper (grid_row r.clocks grid) ≡ true
  proper_with s a = proper_grid r.clocks grid (proper_countable r h) (closed_with s a)

-- the new row, by the tests that lead to it
module _ (r : DifferenceRow) (i j : ℕ) (b : Bound) where
  pub tightened_empty : r.empty ≡ true → tightened_row r i j b ≡ Ok r
  unfolding tightened_row
  tightened_empty e = rw e

  module _ (e : r.empty ≡ false) where
    pub tightened_against : implies nil (plus b (entry r.bounds j i)) ≡ false → tightened_row r i j b ≡ Ok (empty_row r.clocks)
    unfolding tightened_row tightened_by
    tightened_against s = rw (e, s)

    pub tightened_wide : implies nil (plus b (entry r.bounds j i)) ≡ true → all_narrow (listed (tightened_grid (entry r.bounds) i j b)) ≡ false → tightened_row r i j b ≡ Err TooWide
    unfolding tightened_row tightened_by judged_row
    tightened_wide s a = rw (e, s, a)

    pub tightened_kept : implies nil (plus b (entry r.bounds j i)) ≡ true → all_narrow (listed (tightened_grid (entry r.bounds) i j b)) ≡ true → tightened_row r i j b ≡ Ok (grid_row r.clocks (tightened_grid (entry r.bounds) i j b))
    unfolding tightened_row tightened_by judged_row
    tightened_kept s a = rw (e, s, a)

    -- one of the three
    pub tightened_some : (P : Result DifferenceRow ZoneFault → Type 0) → (implies nil (plus b (entry r.bounds j i)) ≡ false → P (Ok (empty_row r.clocks))) → (implies nil (plus b (entry r.bounds j i)) ≡ true → all_narrow (listed (tightened_grid (entry r.bounds) i j b)) ≡ false → P (Err TooWide)) → (implies nil (plus b (entry r.bounds j i)) ≡ true → all_narrow (listed (tightened_grid (entry r.bounds) i j b)) ≡ true → P (Ok (grid_row r.clocks (tightened_grid (entry r.bounds) i j b)))) → P (tightened_row r i j b)
    tightened_some P v w x =
        ⊎_elim
        (λ s. ⊎_elim
        (λ a. rw (tightened_kept s a) (x s a))
        (λ a. rw (tightened_wide s a) (w s a))
        (cases_Bool (all_narrow (listed (tightened_grid (entry r.bounds) i j b)))))
        (λ s. rw (tightened_against s) (v s))
        (cases_Bool (implies nil (plus b (entry r.bounds j i))))
