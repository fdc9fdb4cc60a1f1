-- A box that is not empty holds a valuation at two ticks to the unit.
use Rattle.std.proofs.Common.{◌≡◌, ℕ, ◌+◌, ◌-◌, ◌*◌, ◌<◌, ◌≤◌, true, false, T, ℤ, pos, negsuc, sym, refl, subst, arith}
use borrow.Author.Differences.{up, down, sum_is_lem}
use Rattle.std.proofs.lemmas.Int.{ints}
use Rattle.std.proofs.lemmas.List.Sums.{AllPass-from_list_all}
use Rattle.std.proofs.lemmas.Bool.{lt-ltb, not-false}
use Rattle.zone.specs.declared.bound.Bound.{Bound}
use Rattle.zone.specs.declared.bound.Bound.TheVariants.{Free, AtMost, Below}
use Rattle.zone.specs.declared.boxed.row.BoxRow.{BoxRow}
use Rattle.zone.specs.Bounds.{nil, implies, plus, Obeys}
use Rattle.zone.specs.BoxCalls.{Holds}
use Rattle.zone.specs.BoxRows.{range_at, proper, empty_row}
use Rattle.zone.specs.Ranges.{inhabited, Lies}
use Rattle.zone.specs.Valuations.{Valuation}
use Rattle.zone.specs.BoxRowsLemmas.{fits_floor, proper_length, proper_countable, proper_fits}
use Rattle.zone.specs.Order.{least_in, strict_in}
use Rattle.zone.specs.Rows.{countable_high}
use Rattle.zone.specs.Truth.{so}

-- the first tick that obeys a lower end
earliest : Bound → ℕ
earliest Free = 0
earliest (AtMost c) = 2 * down c
earliest (Below c) = 2 * down c + 1

-- a constant that is not positive has no upper part
floor : (c : ℤ) → T (implies (AtMost c) nil) → up c ≡ 0
floor (pos c) h = omega (arith, ints)
floor (negsuc c) h = refl

lower_obeyed : (a : Bound) → T (implies a nil) → Obeys 2 a 0 (earliest a)
unfolding earliest
lower_obeyed Free h = absurd h
lower_obeyed (AtMost c) h = least_in 2 c 0 (2 * down c) (omega (arith, floor c h))
lower_obeyed (Below c) h = strict_in 2 c 0 (2 * down c + 1) (omega (arith, floor c h))

upper_obeyed : (a b : Bound) → T (implies a nil) → T (implies nil (plus a b)) → Obeys 2 b (earliest a) 0
unfolding earliest
upper_obeyed Free b h i = absurd h
upper_obeyed (AtMost c) Free h i = tt
upper_obeyed (AtMost c) (AtMost d) h i = least_in 2 d (2 * down c) 0 (omega (arith, ints, floor c h, sum_is_lem c d))
upper_obeyed (AtMost c) (Below d) h i = strict_in 2 d (2 * down c) 0 (omega (arith, ints, floor c h, sum_is_lem c d))
upper_obeyed (Below c) Free h i = tt
upper_obeyed (Below c) (AtMost d) h i = least_in 2 d (2 * down c + 1) 0 (omega (arith, ints, floor c h, sum_is_lem c d))
upper_obeyed (Below c) (Below d) h i = strict_in 2 d (2 * down c + 1) 0 (omega (arith, ints, floor c h, sum_is_lem c d))

module _ (r : BoxRow) (h : proper r ≡ true) (e : empty_row r ≡ false) where
  -- each clock at the first tick of its range
  first : Valuation
  first y = earliest (range_at r.ranges (y - 1)).lower

  range_inhabited : (x : ℕ) → x < 6 → inhabited (range_at r.ranges x) ≡ true
  unfolding empty_row
  range_inhabited x l = AllPass-from_list_all inhabited r.ranges (not-false _ e) x (record { lower = Free; upper = Free }) (omega (arith, proper_length r h))

  first_lies : (x : ℕ) → x < r.clocks → Lies 2 (range_at r.ranges x) (first (x + 1))
  unfolding first
  first_lies x l =
      let six : r.clocks ≤ 6 = countable_high r.clocks (proper_countable r h) in
      let i : x < 6 = omega arith in
      let f = so _ (fits_floor r.clocks x (range_at r.ranges x) (proper_fits r h x i) (lt-ltb x r.clocks l)) in
      let y : x + 1 - 1 ≡ x = omega arith in
      let g = range_at r.ranges x in
      subst (λ (w : ℕ). Lies 2 g (earliest (range_at r.ranges w).lower)) (sym y) (lower_obeyed g.lower f, upper_obeyed g.lower g.upper f (so _ (range_inhabited x i)))

  pub some_held : (v : Valuation) × Holds r 2 v
  unfolding Holds
  some_held = (first, first_lies)
