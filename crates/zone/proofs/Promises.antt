-- What the difference kind promises of paths.
use Rattle.std.proofs.Common.{◌≡◌, ℕ, ◌+◌, ◌*◌, ◌/◌, ◌%◌, ◌<◌, ◌≤◌, Bool, true, false, ◌&&◌, T, leb, Ok, Err, sym, refl, ap, ◌∙◌, arith}
use Rattle.std.proofs.lemmas.List.Folds.{list_all_at}
use Rattle.std.proofs.lemmas.Bool.{and_parts, and_cases, leb-true, true≢false}
use Rattle.zone.specs.declared.bound.Bound.{Bound}
use Rattle.zone.specs.declared.bound.Bound.TheVariants.{Free}
use Rattle.zone.specs.declared.constraint.Constraint.{Constraint}
use Rattle.zone.specs.declared.difference.DifferenceZone.{DifferenceZone}
use Rattle.zone.specs.declared.difference.row.DifferenceRow.{DifferenceRow}
use Rattle.zone.specs.declared.fault.ZoneFault.TheVariants.{TooWide}
use Rattle.zone.specs.Bounds.{nil, implies, plus, narrow, bound_of}
use Rattle.zone.specs.DifferenceCalls.{of_row, granted}
use Rattle.zone.specs.DifferencePaths.{ClosedByPaths, Constraining, Tightens}
use Rattle.zone.specs.DifferenceRows.{proper, all_narrow, empty_row, grid_row, tightened_row}
use Rattle.zone.specs.Grids.{Grid, entry, listed, tightened_grid}
use Rattle.zone.specs.Laws.{in_range}
use Rattle.zone.specs.Paths.{Given, Tightest, Contradiction}
use Rattle.zone.specs.Cells.{length_listed, listed_at, entry_listed}
use Rattle.zone.specs.Closed.{Closed}
use Rattle.zone.specs.Every.{some_fails}
use Rattle.zone.specs.Order.{implies_both}
use Rattle.zone.proofs.PathSums.{entry_tightest, tightened_tightest, found, none_found}
use Rattle.zone.specs.Rows.{proper_countable, proper_closed, proper_empty, proper_with, countable_high, tightened_some}
use Rattle.zone.specs.Tightened.{tightened_outside}
use Rattle.zone.specs.Truth.{so}
use Rattle.zone.specs.Zones.{row_of}
use Rattle.zone.specs.InRange.{range_i, range_j}

pub row_closed : (r : DifferenceRow) → proper r ≡ true → ClosedByPaths r
row_closed r h e = entry_tightest r.clocks (countable_high r.clocks (proper_countable r h)) (entry r.bounds) (proper_closed r h e)

-- two bounds that are both the tightest are one
tightest_once : (given : Given) (p q : ℕ) (a b : Bound) → Tightest given p q a → Tightest given p q b → a ≡ b
tightest_once given p q a b s t = implies_both a b (so _ (s.1 b t.0)) (so _ (t.1 a s.0))

module _ (z : DifferenceZone) (c : Constraint) (h : in_range z.row.clocks c ≡ true) (full : z.row.empty ≡ false) where
  abbrev n : ℕ
  n = z.row.clocks

  abbrev old : Grid
  old = entry z.row.bounds

  abbrev grid : Grid
  grid = tightened_grid old c.i c.j (bound_of c)

  six : z.row.clocks ≤ 6
  six = countable_high z.row.clocks (proper_countable z.row z.fitting)

  closed_old : Closed z.row.clocks (entry z.row.bounds)
  closed_old = proper_closed z.row z.fitting full

  abbrev i_in : c.i ≤ z.row.clocks
  i_in = range_i z.row.clocks c h

  abbrev j_in : c.j ≤ z.row.clocks
  j_in = range_j z.row.clocks c h

  -- the two ends of a test of all bounds of the new grid
  wide_at : (p q : ℕ) → p ≤ n → q ≤ n → narrow (grid p q) ≡ false → all_narrow (listed grid) ≡ false
  unfolding all_narrow
  wide_at p q l k e =
      let six : z.row.clocks ≤ 6 = six in
      let i : 7 * p + q < 49 = omega arith in
      let f : (7 * p + q) / 7 ≡ p = omega arith in
      let g : (7 * p + q) % 7 ≡ q = omega arith in
      list_all_at narrow (listed grid) (7 * p + q) Free (omega (arith, length_listed grid)) (rw (listed_at grid (7 * p + q) i, f, g) e)

  abbrev Wide : Type 0
  Wide = (p : ℕ) × (q : ℕ) × (p ≤ n) × (q ≤ n) × (narrow (grid p q) ≡ false)

  wide_inside : T (implies nil (plus (bound_of c) (old c.j c.i))) → (p q : ℕ) → p < 7 → q < 7 → narrow (grid p q) ≡ false → (t : Bool) → (leb p n && leb q n) ≡ t → Wide
  wide_inside s p q l k e true o = (p, q, leb-true p n (and_parts _ _ o).0, leb-true q n (and_parts _ _ o).1, e)
  wide_inside s p q l k e false o =
      let f : grid p q ≡ Free = tightened_outside n c.i c.j (bound_of c) six i_in j_in old closed_old s p q l k (and_cases _ _ o) in
      absurd (true≢false (rw f at e))

  wide_some : T (implies nil (plus (bound_of c) (old c.j c.i))) → all_narrow (listed grid) ≡ false → Wide
  unfolding all_narrow
  wide_some s e =
      let (k, i, f) = some_fails narrow Free (listed grid) e in
      let l : k < 49 = omega (arith, length_listed grid) in
      wide_inside s (k / 7) (k % 7) (omega arith) (omega arith) (rw (listed_at grid k l) at f) (leb (k / 7) n && leb (k % 7) n) refl

  abbrev given : Given
  given = Constraining z.row c

  -- a contradiction was found
  promise_empty : implies nil (plus (bound_of c) (old c.j c.i)) ≡ false → Tightens z c (Ok (of_row (empty_row n)))
  unfolding empty_row
  promise_empty s =
      let f : Contradiction given = found n six old closed_old c.i c.j (bound_of c) i_in j_in s in
      let w : (of_row (empty_row n)).row ≡ empty_row n = row_of (empty_row n) (proper_empty n (proper_countable z.row z.fitting)) in
      record {
        empties = λ _. refl;
        empties_only = λ y e t. f;
        tightest = λ y e t.
            let u : of_row (empty_row n) ≡ y = cc in
            absurd (true≢false (ap (λ (r : DifferenceRow). r.empty) (sym w ∙ ap (λ (x : DifferenceZone). x.row) u) ∙ t));
        refuses = λ nf. absurd (nf f);
        refuses_only = λ e u. let v : ◌≡◌ {A = ℕ} 0 1 = cc in absurd (omega arith);
      }

  module _ (s : implies nil (plus (bound_of c) (old c.j c.i)) ≡ true) where
    no_contradiction : Contradiction given → ⊥
    no_contradiction = none_found n six old closed_old c.i c.j (bound_of c) i_in j_in (so _ s)

    new_tightest : (p q : ℕ) → p ≤ n → q ≤ n → Tightest given p q (grid p q)
    new_tightest = tightened_tightest n six old closed_old c.i c.j (bound_of c) i_in j_in (so _ s)

    -- a constant is too large
    promise_wide : all_narrow (listed grid) ≡ false → Tightens z c (Err TooWide)
    promise_wide a =
        record {
          empties = λ f. absurd (no_contradiction f);
          empties_only = λ y e t. let v : ◌≡◌ {A = ℕ} 0 1 = cc in absurd (omega arith);
          tightest = λ y e t. let v : ◌≡◌ {A = ℕ} 0 1 = cc in absurd (omega arith);
          refuses = λ nf p q b l k t w. refl;
          refuses_only = λ e u. (no_contradiction, let (p, q, l, k, w) = wide_some (so _ s) a in (p, q, grid p q, l, k, new_tightest p q l k, w));
        }

    kept_entry : all_narrow (listed grid) ≡ true → (y : DifferenceZone) → of_row (grid_row n grid) ≡ y → (p q : ℕ) → p ≤ n → q ≤ n → entry y.row.bounds p q ≡ grid p q
    unfolding grid_row
    kept_entry a y e p q l k =
        let six : z.row.clocks ≤ 6 = six in
        let w : (of_row (grid_row n grid)).row ≡ grid_row n grid = row_of (grid_row n grid) (proper_with z.row z.fitting full c.i c.j (bound_of c) i_in j_in s a) in
        ap (λ (r : DifferenceRow). entry r.bounds p q) (ap (λ (x : DifferenceZone). x.row) (sym e) ∙ w) ∙ entry_listed grid p q (omega arith) (omega arith)

    kept_full : all_narrow (listed grid) ≡ true → (y : DifferenceZone) → of_row (grid_row n grid) ≡ y → y.row.empty ≡ false
    unfolding grid_row
    kept_full a y e =
        let w : (of_row (grid_row n grid)).row ≡ grid_row n grid = row_of (grid_row n grid) (proper_with z.row z.fitting full c.i c.j (bound_of c) i_in j_in s a) in
        ap (λ (r : DifferenceRow). r.empty) (ap (λ (x : DifferenceZone). x.row) (sym e) ∙ w)

    -- the new bounds are those of a zone
    promise_kept : all_narrow (listed grid) ≡ true → Tightens z c (Ok (of_row (grid_row n grid)))
    promise_kept a =
        record {
          empties = λ f. absurd (no_contradiction f);
          empties_only = λ y e t. let u : of_row (grid_row n grid) ≡ y = cc in absurd (true≢false (sym t ∙ kept_full a y u));
          tightest = λ y e t p q l k. let u : of_row (grid_row n grid) ≡ y = cc in rw (kept_entry a y u p q l k) (new_tightest p q l k);
          refuses = λ nf p q b l k t w.
              let g : b ≡ grid p q = tightest_once given p q b (grid p q) t (new_tightest p q l k) in
              absurd (true≢false (sym a ∙ wide_at p q l k (rw g at w)));
          refuses_only = λ e u. let v : ◌≡◌ {A = ℕ} 0 1 = cc in absurd (omega arith);
        }

  pub granted_tightens : Tightens z c (granted (tightened_row z.row c.i c.j (bound_of c)))
  granted_tightens = tightened_some z.row c.i c.j (bound_of c) full (λ t. Tightens z c (granted t)) promise_empty promise_wide promise_kept
