-- The laws of the difference kind.
use Rattle.std.specs.Prelude.{◌≡◌, ℕ, ◌+◌, ◌*◌, ◌<◌, ◌≤◌, Bool, true, false, not, ◌&&◌, ◌⊎◌, Ok, Err, ◌≢◌, nat_le, slice_index_or, refl}
use Rattle.std.proofs.Common.{sym, ◌∙◌, ap, inl, inr, arith}
use Rattle.std.proofs.lemmas.Bool.{and_parts, and_right, or_cases, not-true, leb-true, eqb-true, true≢false, false≢true}
use Rattle.std.specs.List.{list_all, zip}
use Rattle.std.proofs.lemmas.List.Sums.{AllPass-from_list_all}
use Rattle.zone.specs.declared.bound.Bound.TheVariants.{Free}
use Rattle.zone.specs.declared.constraint.Constraint.{Constraint}
use Rattle.zone.specs.declared.difference.DifferenceZone.{DifferenceZone}
use Rattle.zone.specs.declared.difference.row.DifferenceRow.{DifferenceRow}
use Rattle.zone.specs.declared.fault.ZoneFault.{ZoneFault}
use Rattle.zone.specs.declared.fault.ZoneFault.TheVariants.{OutOfRange, TooWide}
use Rattle.zone.specs.Bounds.{nil, implies, plus, bound_of, Obeys}
use Rattle.zone.specs.DifferenceCalls.{void, of_row, granted, Holds, constrained, reset, difference_calls}
use Rattle.zone.specs.DifferenceRows.{proper, empty_row, grid_row, whole_row, elapsed_row, reset_row, tightened_row, within_rows, zero_row}
use Rattle.zone.specs.Grids.{Grid, entry, whole_grid, elapsed_grid, reset_grid, tightened_grid}
use Rattle.zone.specs.Laws.{Laws, countable, in_range, difference}
use Rattle.zone.specs.Valuations.{Valuation, Meets, reading, waited, zeroed, origin}
use Rattle.zone.specs.Cells.{entry_listed}
use Rattle.zone.specs.Changes.{in_place, in_place_below, elapsed_free, elapsed_kept, whole_cases, whole_nil, above}
use Rattle.zone.specs.Every.{all_at_zip}
use Rattle.zone.specs.Order.{obeys_plus, obeys_weaker, obeys_itself, obeys_zero, obeys_waited, obeys_later, tighter_of}
use Rattle.zone.specs.Readings.{reading_waited, reading_zeroed, reading_origin, meets_obeys}
use Rattle.zone.specs.Rows.{proper_length, proper_countable, proper_empty, proper_whole, proper_elapsed, proper_reset, proper_with, countable_high, whole_is, changed_is, changed_count, tightened_empty, tightened_some}
use Rattle.zone.specs.Truth.{so}
use Rattle.zone.specs.Zones.{row_of, row_back, row_of_none, zone_is, constrained_in, constrained_out}
use Rattle.zone.specs.InRange.{range_i, range_j}

six : (z : DifferenceZone) → z.row.clocks ≤ 6
six z = countable_high z.row.clocks (proper_countable z.row z.fitting)

-- a zone made of a row holds what the row holds
holds_of : (r : DifferenceRow) (k : ℕ) (v : Valuation) → proper r ≡ true → Holds r k v → Holds (of_row r).row k v
holds_of r k v h w = rw (row_of r h) w

-- the bounds of a grid of n clocks are obeyed
holds_grid : (n k : ℕ) (d : Grid) (v : Valuation) → n ≤ 6 → ((p q : ℕ) → p ≤ n → q ≤ n → Obeys k (d p q) (reading v p) (reading v q)) → Holds (grid_row n d) k v
unfolding Holds grid_row
holds_grid n k d v s h = (refl, λ p q l i. rw (entry_listed d p q (omega arith) (omega arith)) (h p q l i))

-- a row that holds something is not empty, and its bounds are obeyed
full : (r : DifferenceRow) (k : ℕ) (v : Valuation) → Holds r k v → r.empty ≡ false
unfolding Holds
full r k v h = h.0

obeyed : (r : DifferenceRow) (k : ℕ) (v : Valuation) → Holds r k v → (p q : ℕ) → p ≤ r.clocks → q ≤ r.clocks → Obeys k (entry r.bounds p q) (reading v p) (reading v q)
unfolding Holds
obeyed r k v h = h.1

-- ---- whole

pub whole_clocks : (n : ℕ) → countable n ≡ true → (of_row (whole_row n)).row.clocks ≡ n
unfolding grid_row
whole_clocks n h = ap (λ (r : DifferenceRow). r.clocks) (row_of (whole_row n) (proper_whole n) ∙ whole_is n h)

whole_obeyed : (n k p q : ℕ) (v : Valuation) → ((p ≤ n) × (q ≤ n) × ((p ≡ 0) ⊎ (p ≡ q))) ⊎ (whole_grid n p q ≡ Free) → Obeys k (whole_grid n p q) (reading v p) (reading v q)
whole_obeyed n k p q v (inl (l, i, inl e)) = rw (whole_nil n p q l i (inl e), e) (omega arith)
whole_obeyed n k p q v (inl (l, i, inr e)) = rw (whole_nil n p q l i (inr e), e) (omega arith)
whole_obeyed n k p q v (inr e) = rw e tt

pub whole_holds : (n k : ℕ) (v : Valuation) → countable n ≡ true → 0 < k → Holds (of_row (whole_row n)).row k v
whole_holds n k v h l =
    holds_of (whole_row n) k v (proper_whole n) (rw (whole_is n h) (holds_grid n k (whole_grid n) v (countable_high n h) (λ p q i j. whole_obeyed n k p q v (whole_cases n p q))))

void_row : void.row ≡ empty_row 1
unfolding void
void_row = refl

pub whole_outside : (n : ℕ) → countable n ≡ false → of_row (whole_row n) ≡ void
unfolding whole_row
whole_outside n h = rw h (sym (zone_is void (empty_row 1) void_row))

pub void_clocks : void.row.clocks ≡ 1
unfolding void empty_row
void_clocks = refl

pub void_empty : void.row.empty ≡ true
unfolding void empty_row
void_empty = refl

-- ---- constraints

pub constrained_clocks : (z y : DifferenceZone) (c : Constraint) → constrained z c ≡ Ok y → y.row.clocks ≡ z.row.clocks
unfolding empty_row grid_row
constrained_clocks z y c e = go (in_range z.row.clocks c) refl
  where
    same : (r : DifferenceRow) → proper r ≡ true → r.clocks ≡ z.row.clocks → granted (Ok r) ≡ Ok y → y.row.clocks ≡ z.row.clocks
    same r h f g =
        let u : of_row r ≡ y = cc in
        ap (λ (x : DifferenceZone). x.row.clocks) (sym u) ∙ (ap (λ (s : DifferenceRow). s.clocks) (row_of r h) ∙ f)

    given : in_range z.row.clocks c ≡ true → (t : Bool) → z.row.empty ≡ t → granted (tightened_row z.row c.i c.j (bound_of c)) ≡ Ok y → y.row.clocks ≡ z.row.clocks
    given h true f = λ g. same z.row z.fitting refl (rw (tightened_empty z.row c.i c.j (bound_of c) f) at g)
    given h false f =
        tightened_some z.row c.i c.j (bound_of c) f (λ t. granted t ≡ Ok y → y.row.clocks ≡ z.row.clocks)
        (λ _ g. same (empty_row z.row.clocks) (proper_empty z.row.clocks (proper_countable z.row z.fitting)) refl g)
        (λ _ _ g. let v : ◌≡◌ {A = ℕ} 0 1 = cc in absurd (omega arith))
        (λ s a g. same (grid_row z.row.clocks (tightened_grid (entry z.row.bounds) c.i c.j (bound_of c))) (proper_with z.row z.fitting f c.i c.j (bound_of c) (range_i z.row.clocks c h) (range_j z.row.clocks c h) s a) refl g)

    go : (t : Bool) → in_range z.row.clocks c ≡ t → y.row.clocks ≡ z.row.clocks
    go true h = given h z.row.empty refl (sym (constrained_in z c h) ∙ e)
    go false h = let g = constrained_out z c h in let v : ◌≡◌ {A = ℕ} 0 1 = cc in absurd (omega arith)

pub constrained_wide : (z : DifferenceZone) (c : Constraint) (e : ZoneFault) → in_range z.row.clocks c ≡ true → constrained z c ≡ Err e → e ≡ TooWide
constrained_wide z c e h g = go z.row.empty refl (sym (constrained_in z c h) ∙ g)
  where
    go : (t : Bool) → z.row.empty ≡ t → granted (tightened_row z.row c.i c.j (bound_of c)) ≡ Err e → e ≡ TooWide
    go true f = λ g. let u = rw (tightened_empty z.row c.i c.j (bound_of c) f) at g in let v : ◌≡◌ {A = ℕ} 0 1 = cc in absurd (omega arith)
    go false f =
        tightened_some z.row c.i c.j (bound_of c) f (λ t. granted t ≡ Err e → e ≡ TooWide)
        (λ _ f. let v : ◌≡◌ {A = ℕ} 0 1 = cc in absurd (omega arith))
        (λ _ _ f. cc)
        (λ _ _ f. let v : ◌≡◌ {A = ℕ} 0 1 = cc in absurd (omega arith))

module _ (z y : DifferenceZone) (c : Constraint) (k : ℕ) (v : Valuation) (l : 0 < k) (w : Holds z.row k v) (m : Meets k v c) where
  module _ (h : in_range z.row.clocks c ≡ true) (f : z.row.empty ≡ false) where
    new_obeyed : (p q : ℕ) → p ≤ z.row.clocks → q ≤ z.row.clocks → Obeys k (tightened_grid (entry z.row.bounds) c.i c.j (bound_of c) p q) (reading v p) (reading v q)
    unfolding tightened_grid
    new_obeyed p q i j =
        let old = obeyed z.row k v w in
        tighter_of (λ x. Obeys k x (reading v p) (reading v q)) (entry z.row.bounds p q) (plus (plus (entry z.row.bounds p c.i) (bound_of c)) (entry z.row.bounds c.j q)) (old p q i j)
        (obeys_plus k (plus (entry z.row.bounds p c.i) (bound_of c)) (entry z.row.bounds c.j q) (reading v p) (reading v c.j) (reading v q)
        (obeys_plus k (entry z.row.bounds p c.i) (bound_of c) (reading v p) (reading v c.i) (reading v c.j) (old p c.i i (range_i z.row.clocks c h)) (meets_obeys k v c m))
        (old c.j q (range_j z.row.clocks c h) j))

    no_cycle : implies nil (plus (bound_of c) (entry z.row.bounds c.j c.i)) ≢ false
    no_cycle s =
        let t = obeys_itself k (plus (bound_of c) (entry z.row.bounds c.j c.i)) (reading v c.i) l
        (obeys_plus k (bound_of c) (entry z.row.bounds c.j c.i) (reading v c.i) (reading v c.j) (reading v c.i) (meets_obeys k v c m) (obeyed z.row k v w c.j c.i (range_j z.row.clocks c h) (range_i z.row.clocks c h))) in
        rw s at t

    new_holds : granted (tightened_row z.row c.i c.j (bound_of c)) ≡ Ok y → Holds y.row k v
    new_holds =
        tightened_some z.row c.i c.j (bound_of c) f (λ t. granted t ≡ Ok y → Holds y.row k v)
        (λ s g. absurd (no_cycle s))
        (λ _ _ g. let x : ◌≡◌ {A = ℕ} 0 1 = cc in absurd (omega arith))
        (λ s a g.
        let u : of_row (grid_row z.row.clocks (tightened_grid (entry z.row.bounds) c.i c.j (bound_of c))) ≡ y = cc in
        rw (← u) (holds_of (grid_row z.row.clocks (tightened_grid (entry z.row.bounds) c.i c.j (bound_of c))) k v (proper_with z.row z.fitting f c.i c.j (bound_of c) (range_i z.row.clocks c h) (range_j z.row.clocks c h) s a) (holds_grid z.row.clocks k (tightened_grid (entry z.row.bounds) c.i c.j (bound_of c)) v (six z) new_obeyed)))

  pub constrained_holds : constrained z c ≡ Ok y → Holds y.row k v
  constrained_holds e = go (in_range z.row.clocks c) refl
    where
      go : (t : Bool) → in_range z.row.clocks c ≡ t → Holds y.row k v
      go true h = new_holds h (full z.row k v w) (sym (constrained_in z c h) ∙ e)
      go false h = let g = constrained_out z c h in let x : ◌≡◌ {A = ℕ} 0 1 = cc in absurd (omega arith)

-- ---- time

pub elapsed_clocks : (z : DifferenceZone) → (of_row (elapsed_row z.row)).row.clocks ≡ z.row.clocks
elapsed_clocks z = ap (λ (r : DifferenceRow). r.clocks) (row_of (elapsed_row z.row) (proper_elapsed z.row z.fitting)) ∙ changed_count elapsed_grid z.row

module _ (k d : ℕ) (v : Valuation) (old : Grid) (n : ℕ) (h : (p q : ℕ) → p ≤ n → q ≤ n → Obeys k (old p q) (reading v p) (reading v q)) where
  waited_obeyed : (p q : ℕ) → p ≤ n → q ≤ n → (0 < p) ⊎ (p ≡ 0) → (0 < q) ⊎ (q ≡ 0) → Obeys k (elapsed_grid old p q) (reading (waited v d) p) (reading (waited v d) q)
  waited_obeyed p q l i (inl a) (inl b) =
      rw (elapsed_kept old p q (inr b), reading_waited v d p a, reading_waited v d q b) (obeys_waited k (old p q) (reading v p) (reading v q) d (h p q l i))
  waited_obeyed p q l i (inl a) (inr e) = rw (e, elapsed_free old p a) tt
  waited_obeyed p q l i (inr e) (inl b) =
      rw (elapsed_kept old p q (inl e), reading_waited v d q b, e) (obeys_later k (old 0 q) 0 (reading v q) d (rw e at (h p q l i)))
  waited_obeyed p q l i (inr e) (inr f) = rw (elapsed_kept old p q (inl e), e, f) (rw (e, f) at (h p q l i))

pub elapsed_holds : (z : DifferenceZone) (k d : ℕ) (v : Valuation) → 0 < k → Holds z.row k v → Holds (of_row (elapsed_row z.row)).row k (waited v d)
elapsed_holds z k d v l h =
    holds_of (elapsed_row z.row) k (waited v d) (proper_elapsed z.row z.fitting) (rw (changed_is elapsed_grid z.row (full z.row k v h)) (holds_grid z.row.clocks k (elapsed_grid (entry z.row.bounds)) (waited v d) (six z) (λ p q i j. waited_obeyed k d v (entry z.row.bounds) z.row.clocks (obeyed z.row k v h) p q i j (above p) (above q))))

-- ---- a clock set to zero

pub reset_range : (z : DifferenceZone) (x : ℕ) → (nat_le 1 x && nat_le x z.row.clocks) ≡ false → reset z x ≡ Err OutOfRange
unfolding reset
reset_range z x h = rw h

pub reset_in : (z : DifferenceZone) (x : ℕ) → (nat_le 1 x && nat_le x z.row.clocks) ≡ true → reset z x ≡ Ok (of_row (reset_row z.row x))
unfolding reset
reset_in z x h = rw h

pub reset_grants : (z : DifferenceZone) (x : ℕ) → (nat_le 1 x && nat_le x z.row.clocks) ≡ true → (y : DifferenceZone) × (reset z x ≡ Ok y)
reset_grants z x h = (of_row (reset_row z.row x), reset_in z x h)

-- what a granted reset gives
reset_gives : (z y : DifferenceZone) (x : ℕ) → reset z x ≡ Ok y → (x ≤ z.row.clocks) × (y.row ≡ reset_row z.row x)
reset_gives z y x e = go (nat_le 1 x && nat_le x z.row.clocks) refl
  where
    go : (t : Bool) → (nat_le 1 x && nat_le x z.row.clocks) ≡ t → (x ≤ z.row.clocks) × (y.row ≡ reset_row z.row x)
    go true h =
        let l : x ≤ z.row.clocks = leb-true x z.row.clocks (and_parts (nat_le 1 x) (nat_le x z.row.clocks) h).1 in
        let g = reset_in z x h in
        let u : of_row (reset_row z.row x) ≡ y = cc in
        (l, ap (λ (w : DifferenceZone). w.row) (sym u) ∙ row_of (reset_row z.row x) (proper_reset z.row x z.fitting l))
    go false h = let g = reset_range z x h in let v : ◌≡◌ {A = ℕ} 0 1 = cc in absurd (omega arith)

pub reset_clocks : (z y : DifferenceZone) (x : ℕ) → reset z x ≡ Ok y → y.row.clocks ≡ z.row.clocks
reset_clocks z y x e = ap (λ (r : DifferenceRow). r.clocks) (reset_gives z y x e).1 ∙ changed_count (λ d. reset_grid d x) z.row

zeroed_obeyed : (k x n : ℕ) (v : Valuation) (old : Grid) → x ≤ n → ((p q : ℕ) → p ≤ n → q ≤ n → Obeys k (old p q) (reading v p) (reading v q)) → (p q : ℕ) → p ≤ n → q ≤ n → Obeys k (reset_grid old x p q) (reading (zeroed v x) p) (reading (zeroed v x) q)
unfolding reset_grid
zeroed_obeyed k x n v old under h p q l i =
    rw (reading_zeroed v x p, reading_zeroed v x q) (h (in_place x p) (in_place x q) (in_place_below x p n l) (in_place_below x q n i))

pub reset_holds : (z y : DifferenceZone) (x k : ℕ) (v : Valuation) → reset z x ≡ Ok y → 0 < k → Holds z.row k v → Holds y.row k (zeroed v x)
reset_holds z y x k v e l h =
    let g = reset_gives z y x e in
    rw (g.1, changed_is (λ d. reset_grid d x) z.row (full z.row k v h)) (holds_grid z.row.clocks k (reset_grid (entry z.row.bounds) x) (zeroed v x) (six z) (zeroed_obeyed k x z.row.clocks v (entry z.row.bounds) g.0 (obeyed z.row k v h)))

-- ---- answers

pub empty_sound : (z : DifferenceZone) (k : ℕ) (v : Valuation) → z.row.empty ≡ true → 0 < k → Holds z.row k v → ⊥
empty_sound z k v e l h = true≢false (sym e ∙ full z.row k v h)

pub within_clocks : (y z : DifferenceZone) → within_rows y.row z.row ≡ true → y.row.clocks ≡ z.row.clocks
unfolding within_rows
within_clocks y z e = eqb-true _ _ (and_parts _ _ e).0

pub within_sound : (y z : DifferenceZone) (k : ℕ) (v : Valuation) → within_rows y.row z.row ≡ true → 0 < k → Holds y.row k v → Holds z.row k v
unfolding within_rows Holds entry
within_sound y z k v e l h = go (or_cases _ _ (and_parts _ _ e).1)
  where
    go : (y.row.empty ≡ true) ⊎ ((not z.row.empty && list_all (λ p. implies p.0 p.1) (zip y.row.bounds z.row.bounds)) ≡ true) → Holds z.row k v
    go (inl f) = absurd (true≢false (sym f ∙ h.0))
    go (inr f) = (
      not-true _ (and_parts _ _ f).0,
      λ p q i j.
          let s = six z in
          let n : y.row.clocks ≡ z.row.clocks = within_clocks y z e in
          obeys_weaker k (slice_index_or y.row.bounds (7 * p + q) Free) (slice_index_or z.row.bounds (7 * p + q) Free) (reading v p) (reading v q) l (so _ (all_at_zip implies y.row.bounds z.row.bounds (and_parts _ _ f).1 (7 * p + q) Free (omega (arith, proper_length y.row y.fitting)) (omega (arith, proper_length z.row z.fitting)))) (h.1 p q (omega arith) (omega arith)),
    )

pub zero_sound : (z : DifferenceZone) (k : ℕ) → zero_row z.row ≡ true → 0 < k → Holds z.row k origin
unfolding zero_row Holds entry
zero_sound z k e l = (
  not-true _ (and_parts _ _ e).0,
  λ p q i j.
      let s = six z in
      rw (reading_origin p, reading_origin q) (obeys_zero k (slice_index_or z.row.bounds (7 * p + q) Free) 0 l (so _ (AllPass-from_list_all (implies nil) z.row.bounds (and_parts _ _ e).1 (7 * p + q) Free (omega (arith, proper_length z.row z.fitting))))),
)

pub difference_laws : Laws difference_calls
difference_laws = record {
  clocks_countable = λ z. proper_countable z.row z.fitting;
  whole_clocks = whole_clocks;
  void_clocks = void_clocks;
  constrained_clocks = constrained_clocks;
  elapsed_clocks = elapsed_clocks;
  reset_clocks = reset_clocks;
  constrained_range = constrained_out;
  constrained_kind = λ z c h d. absurd (false≢true (sym (and_right (difference c) false refl) ∙ d));
  constrained_wide = λ z c e h _. constrained_wide z c e h;
  reset_range = reset_range;
  reset_grants = reset_grants;
  whole_holds = whole_holds;
  constrained_holds = λ z y c k v e l h m. constrained_holds z y c k v l h m e;
  elapsed_holds = elapsed_holds;
  reset_holds = reset_holds;
  empty_sound = empty_sound;
  within_sound = within_sound;
  within_clocks = within_clocks;
  zero_sound = zero_sound;
  void_empty = void_empty;
  whole_outside = whole_outside;
  row_back = row_back;
  row_of_none = row_of_none;
}
