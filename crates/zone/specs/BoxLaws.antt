-- The laws of the box kind.
use Rattle.std.specs.Prelude.{◌≡◌, ℕ, ◌+◌, ◌<◌, ◌≤◌, Bool, true, false, ◌&&◌, ◌⊎◌, Ok, Err, ◌==◌, ◌≢◌, nat_le, nat_lt}
use Rattle.std.proofs.Math.Path.{refl}
use Rattle.std.proofs.Common.{sym, ◌∙◌, ap, subst, inl, inr, ⊎_elim, arith}
use Rattle.std.proofs.lemmas.Bool.{cases_Bool, and_parts, or_cases, not-true, leb-true, ltb-true, eqb-true, eqb-false, ne_eqb, cond_both, true≢false, eq-eqb}
use Rattle.std.proofs.lemmas.Bool.Decides.{nat_tests}
use Rattle.std.specs.List.{list_all, zip}
use Rattle.std.proofs.lemmas.List.Sums.{AllPass-from_list_all}
use Rattle.zone.specs.declared.bound.Bound.TheVariants.{Free}
use Rattle.zone.specs.declared.boxed.range.Range.{Range}
use Rattle.zone.specs.declared.boxed.row.BoxRow.{BoxRow}
use Rattle.zone.specs.declared.boxed.BoxZone.{BoxZone}
use Rattle.zone.specs.declared.constraint.Constraint.{Constraint}
use Rattle.zone.specs.declared.fault.ZoneFault.{ZoneFault}
use Rattle.zone.specs.declared.fault.ZoneFault.TheVariants.{OutOfRange, TooWide}
use Rattle.zone.specs.Bounds.{nil, implies, tighter, plus, bound_of, Obeys}
use Rattle.zone.specs.BoxCalls.{void, of_row, Holds, constrained, reset as reset_zone, box_calls}
use Rattle.zone.specs.BoxRows.{range_at, ranges_row, proper, empty_row, void_row, whole_row, elapsed_row, reset_row, tightened_row, within_rows, zero_row}
use Rattle.zone.specs.Laws.{Laws, countable, in_range, difference}
use Rattle.zone.specs.Ranges.{whole_range, inhabited, contains, has_zero, elapsed, reset, tightened, Lies}
use Rattle.zone.specs.Valuations.{Valuation, Meets, reading, waited, zeroed, origin}
use Rattle.zone.specs.BoxRowsLemmas.{fits_past, proper_length, proper_countable, proper_fits, proper_whole, proper_elapsed, proper_reset, proper_tightened, ranges_at, whole_is, whole_void, changed_is, changed_count}
use Rattle.zone.specs.BoxZones.{row_of, row_back, row_of_none, void_is, constrained_out, constrained_kind, constrained_in}
use Rattle.zone.specs.Every.{some_fails, all_at_zip}
use Rattle.zone.specs.InRange.{range_i, range_j, range_size}
use Rattle.zone.specs.Order.{obeys_plus, obeys_weaker, obeys_itself, obeys_zero, obeys_later, tighter_of}
use Rattle.zone.specs.Readings.{meets_obeys}
use Rattle.zone.specs.Rows.{countable_high}
use Rattle.zone.specs.Truth.{so}

six : (z : BoxZone) → z.row.clocks ≤ 6
six z = countable_high z.row.clocks (proper_countable z.row z.fitting)

lies : (r : BoxRow) (k : ℕ) (v : Valuation) → Holds r k v → (x : ℕ) → x < r.clocks → Lies k (range_at r.ranges x) (v (x + 1))
unfolding Holds
lies r k v h = h

-- a row holds what its ranges hold
holds_ranges : (n k : ℕ) (f : ℕ → Range) (v : Valuation) → n ≤ 6 → ((x : ℕ) → x < n → Lies k (f x) (v (x + 1))) → Holds (ranges_row n f) k v
unfolding Holds ranges_row
holds_ranges n k f v s h x l = subst (λ (g : Range). Lies k g (v (x + 1))) (sym (ranges_at n f x (omega arith))) (h x l)

holds_of : (r : BoxRow) (k : ℕ) (v : Valuation) → proper r ≡ true → Holds r k v → Holds (of_row r).row k v
holds_of r k v h w = rw (row_of r h) w

-- ---- whole

pub whole_clocks : (n : ℕ) → countable n ≡ true → (of_row (whole_row n)).row.clocks ≡ n
unfolding ranges_row
whole_clocks n h = ap (λ (r : BoxRow). r.clocks) (row_of (whole_row n) (proper_whole n) ∙ whole_is n h)

pub whole_holds : (n k : ℕ) (v : Valuation) → countable n ≡ true → 0 < k → Holds (of_row (whole_row n)).row k v
whole_holds n k v h l = holds_of (whole_row n) k v (proper_whole n) (rw (whole_is n h) (holds_ranges n k (λ x. whole_range) v (countable_high n h) (λ x m. (omega arith, tt))))

pub whole_outside : (n : ℕ) → countable n ≡ false → of_row (whole_row n) ≡ void
whole_outside n h = ap of_row (whole_void n h) ∙ sym void_is

pub void_clocks : void.row.clocks ≡ 1
unfolding void void_row ranges_row
void_clocks = refl

pub void_empty : empty_row void.row ≡ true
unfolding void void_row ranges_row empty_row
void_empty = refl

-- ---- an empty row holds nothing

module _ (r : BoxRow) (h : proper r ≡ true) (k : ℕ) (v : Valuation) (l : 0 < k) (w : Holds r k v) where
  lying_inhabited : (g : Range) (x : ℕ) → Lies k g x → inhabited g ≢ false
  lying_inhabited g x (a, b) e = let t = obeys_itself k (plus g.lower g.upper) 0 l (obeys_plus k g.lower g.upper 0 x 0 a b) in rw e at t

  none_empty : (x : ℕ) → x < 6 → inhabited (range_at r.ranges x) ≡ false → (t : Bool) → nat_lt x r.clocks ≡ t → ⊥
  none_empty x m e true i = lying_inhabited (range_at r.ranges x) (v (x + 1)) (lies r k v w x (ltb-true x r.clocks i)) e
  none_empty x m e false i = true≢false (subst (λ (g : Range). inhabited g ≡ false) (fits_past r.clocks x (range_at r.ranges x) (proper_fits r h x m) i) e)

  row_full : empty_row r ≡ true → ⊥
  unfolding empty_row
  row_full e =
      let (x, i, f) = some_fails inhabited (record { lower = Free; upper = Free }) r.ranges (not-true _ e) in
      let m : x < 6 = omega (arith, proper_length r h) in
      none_empty x m f (nat_lt x r.clocks) refl

  pub not_empty : empty_row r ≡ false
  not_empty = ⊎_elim (λ e. absurd (row_full e)) (λ e. e) (cases_Bool (empty_row r))

pub empty_sound : (z : BoxZone) (k : ℕ) (v : Valuation) → empty_row z.row ≡ true → 0 < k → Holds z.row k v → ⊥
empty_sound z k v e l h = row_full z.row z.fitting k v l h e

-- ---- constraints

-- what a granted constraint gives
constrained_gives : (z y : BoxZone) (c : Constraint) → constrained z c ≡ Ok y → (in_range z.row.clocks c ≡ true) × (difference c ≡ false) × (y.row ≡ tightened_row z.row c.i c.j (bound_of c))
constrained_gives z y c e = go (in_range z.row.clocks c) refl (difference c) refl
  where
    go : (t : Bool) → in_range z.row.clocks c ≡ t → (u : Bool) → difference c ≡ u → (in_range z.row.clocks c ≡ true) × (difference c ≡ false) × (y.row ≡ tightened_row z.row c.i c.j (bound_of c))
    go false h u d = let g = constrained_out z c h in let v : ◌≡◌ {A = ℕ} 0 1 = cc in absurd (omega arith)
    go true h true d = let g = constrained_kind z c h d in let v : ◌≡◌ {A = ℕ} 0 1 = cc in absurd (omega arith)
    go true h false d =
        let g = constrained_in z c h d in
        let w : of_row (tightened_row z.row c.i c.j (bound_of c)) ≡ y = cc in
        (h, d, ap (λ (x : BoxZone). x.row) (sym w) ∙ row_of (tightened_row z.row c.i c.j (bound_of c)) (proper_tightened z.row z.fitting c.i c.j (bound_of c) (range_i z.row.clocks c h) (range_j z.row.clocks c h) (range_size z.row.clocks c h)))

pub constrained_clocks : (z y : BoxZone) (c : Constraint) → constrained z c ≡ Ok y → y.row.clocks ≡ z.row.clocks
constrained_clocks z y c e = ap (λ (r : BoxRow). r.clocks) (constrained_gives z y c e).2 ∙ changed_count (tightened c.i c.j (bound_of c)) z.row

-- a box is never too wide
pub constrained_wide : (z : BoxZone) (c : Constraint) (e : ZoneFault) → in_range z.row.clocks c ≡ true → difference c ≡ false → constrained z c ≡ Err e → e ≡ TooWide
constrained_wide z c e h d g = let f = constrained_in z c h d in let v : ◌≡◌ {A = ℕ} 0 1 = cc in absurd (omega arith)

-- where one of two clocks is above 0, the other is 0
other_zero : (i j : ℕ) → (nat_lt 0 i && nat_lt 0 j) ≡ false → 0 < i → j ≡ 0
other_zero i j d l = grind (arith, nat_tests)

first_zero : (i j : ℕ) → (nat_lt 0 i && nat_lt 0 j) ≡ false → 0 < j → i ≡ 0
first_zero i j d l = grind (arith, nat_tests)

module _ (k : ℕ) (v : Valuation) (c : Constraint) (m : Meets k v c) (d : difference c ≡ false) where
  reading_one : (x : ℕ) → reading v (x + 1) ≡ v (x + 1)
  reading_one x = rw (ne_eqb (x + 1) 0 (λ e. omega arith))

  lower_obeyed : (x : ℕ) → (c.j == x + 1) ≡ true → Obeys k (bound_of c) 0 (v (x + 1))
  lower_obeyed x e =
      let j : c.j ≡ x + 1 = eqb-true c.j (x + 1) e in
      let i : c.i ≡ 0 = first_zero c.i c.j d (omega arith) in
      subst (λ (y : ℕ). Obeys k (bound_of c) 0 y) (ap (reading v) j ∙ reading_one x) (subst (λ (y : ℕ). Obeys k (bound_of c) y (reading v c.j)) (ap (reading v) i) (meets_obeys k v c m))

  upper_obeyed : (x : ℕ) → (c.i == x + 1) ≡ true → Obeys k (bound_of c) (v (x + 1)) 0
  upper_obeyed x e =
      let i : c.i ≡ x + 1 = eqb-true c.i (x + 1) e in
      let j : c.j ≡ 0 = other_zero c.i c.j d (omega arith) in
      subst (λ (y : ℕ). Obeys k (bound_of c) y 0) (ap (reading v) i ∙ reading_one x) (subst (λ (y : ℕ). Obeys k (bound_of c) (reading v c.i) y) (ap (reading v) j) (meets_obeys k v c m))

  lies_tightened : (x : ℕ) (g : Range) → Lies k g (v (x + 1)) → Lies k (tightened c.i c.j (bound_of c) (x + 1) g) (v (x + 1))
  lies_tightened x g (a, b) = (
    cond_both (c.j == x + 1) (tighter g.lower (bound_of c)) g.lower (λ y. Obeys k y 0 (v (x + 1))) (λ e. tighter_of (λ y. Obeys k y 0 (v (x + 1))) g.lower (bound_of c) a (lower_obeyed x e)) (λ _. a),
    cond_both (c.i == x + 1) (tighter g.upper (bound_of c)) g.upper (λ y. Obeys k y (v (x + 1)) 0) (λ e. tighter_of (λ y. Obeys k y (v (x + 1)) 0) g.upper (bound_of c) b (upper_obeyed x e)) (λ _. b),
  )

pub constrained_holds : (z y : BoxZone) (c : Constraint) (k : ℕ) (v : Valuation) → constrained z c ≡ Ok y → 0 < k → Holds z.row k v → Meets k v c → Holds y.row k v
constrained_holds z y c k v e l h m =
    let g = constrained_gives z y c e in
    rw (g.2, changed_is (tightened c.i c.j (bound_of c)) z.row (not_empty z.row z.fitting k v l h)) (holds_ranges z.row.clocks k (λ x. tightened c.i c.j (bound_of c) (x + 1) (range_at z.row.ranges x)) v (six z) (λ x i. lies_tightened k v c m g.1 x (range_at z.row.ranges x) (lies z.row k v h x i)))

-- ---- time

pub elapsed_clocks : (z : BoxZone) → (of_row (elapsed_row z.row)).row.clocks ≡ z.row.clocks
elapsed_clocks z = ap (λ (r : BoxRow). r.clocks) (row_of (elapsed_row z.row) (proper_elapsed z.row z.fitting)) ∙ changed_count (λ _. elapsed) z.row

lies_elapsed : (k x d : ℕ) (g : Range) → Lies k g x → Lies k (elapsed g) (x + d)
lies_elapsed k x d g (a, b) = (obeys_later k g.lower 0 x d a, tt)

pub elapsed_holds : (z : BoxZone) (k d : ℕ) (v : Valuation) → 0 < k → Holds z.row k v → Holds (of_row (elapsed_row z.row)).row k (waited v d)
elapsed_holds z k d v l h =
    holds_of (elapsed_row z.row) k (waited v d) (proper_elapsed z.row z.fitting) (rw (changed_is (λ _. elapsed) z.row (not_empty z.row z.fitting k v l h)) (holds_ranges z.row.clocks k (λ x. elapsed (range_at z.row.ranges x)) (waited v d) (six z) (λ x i. lies_elapsed k (v (x + 1)) d (range_at z.row.ranges x) (lies z.row k v h x i))))

-- ---- a clock set to zero

pub reset_range : (z : BoxZone) (x : ℕ) → (nat_le 1 x && nat_le x z.row.clocks) ≡ false → reset_zone z x ≡ Err OutOfRange
unfolding reset_zone
reset_range z x h = rw h

pub reset_in : (z : BoxZone) (x : ℕ) → (nat_le 1 x && nat_le x z.row.clocks) ≡ true → reset_zone z x ≡ Ok (of_row (reset_row z.row x))
unfolding reset_zone
reset_in z x h = rw h

pub reset_grants : (z : BoxZone) (x : ℕ) → (nat_le 1 x && nat_le x z.row.clocks) ≡ true → (y : BoxZone) × (reset_zone z x ≡ Ok y)
reset_grants z x h = (of_row (reset_row z.row x), reset_in z x h)

reset_gives : (z y : BoxZone) (x : ℕ) → reset_zone z x ≡ Ok y → y.row ≡ reset_row z.row x
reset_gives z y x e = go (nat_le 1 x && nat_le x z.row.clocks) refl
  where
    go : (t : Bool) → (nat_le 1 x && nat_le x z.row.clocks) ≡ t → y.row ≡ reset_row z.row x
    go true h =
        let l : x ≤ z.row.clocks = leb-true x z.row.clocks (and_parts (nat_le 1 x) (nat_le x z.row.clocks) h).1 in
        let g = reset_in z x h in
        let u : of_row (reset_row z.row x) ≡ y = cc in
        ap (λ (w : BoxZone). w.row) (sym u) ∙ row_of (reset_row z.row x) (proper_reset z.row z.fitting x l)
    go false h = let g = reset_range z x h in let v : ◌≡◌ {A = ℕ} 0 1 = cc in absurd (omega arith)

pub reset_clocks : (z y : BoxZone) (x : ℕ) → reset_zone z x ≡ Ok y → y.row.clocks ≡ z.row.clocks
reset_clocks z y x e = ap (λ (r : BoxRow). r.clocks) (reset_gives z y x e) ∙ changed_count (reset x) z.row

lies_reset : (k x w : ℕ) (v : Valuation) (g : Range) → Lies k g (v (w + 1)) → (t : Bool) → (x == w + 1) ≡ t → Lies k (reset x (w + 1) g) (zeroed v x (w + 1))
lies_reset k x w v g h true e = let f : w + 1 ≡ x = sym (eqb-true x (w + 1) e) in rw (e, eq-eqb (w + 1) x f) (omega arith, omega arith)
lies_reset k x w v g h false e = rw (e, ne_eqb (w + 1) x (λ f. eqb-false x (w + 1) e (sym f))) h

pub reset_holds : (z y : BoxZone) (x k : ℕ) (v : Valuation) → reset_zone z x ≡ Ok y → 0 < k → Holds z.row k v → Holds y.row k (zeroed v x)
reset_holds z y x k v e l h =
    rw (reset_gives z y x e, changed_is (reset x) z.row (not_empty z.row z.fitting k v l h)) (holds_ranges z.row.clocks k (λ w. reset x (w + 1) (range_at z.row.ranges w)) (zeroed v x) (six z) (λ w i. lies_reset k x w v (range_at z.row.ranges w) (lies z.row k v h w i) (x == w + 1) refl))

-- ---- answers

pub within_clocks : (y z : BoxZone) → within_rows y.row z.row ≡ true → y.row.clocks ≡ z.row.clocks
unfolding within_rows
within_clocks y z e = eqb-true _ _ (and_parts _ _ e).0

lies_within : (k : ℕ) (g h : Range) (x : ℕ) → 0 < k → contains h g ≡ true → Lies k g x → Lies k h x
lies_within k g h x l e (a, b) =
    let c = and_parts (implies g.lower h.lower) (implies g.upper h.upper) e in
    (obeys_weaker k g.lower h.lower 0 x l (so _ c.0) a, obeys_weaker k g.upper h.upper x 0 l (so _ c.1) b)

pub within_sound : (y z : BoxZone) (k : ℕ) (v : Valuation) → within_rows y.row z.row ≡ true → 0 < k → Holds y.row k v → Holds z.row k v
unfolding within_rows Holds
within_sound y z k v e l h = go (or_cases (empty_row y.row) (list_all (λ p. contains p.1 p.0) (zip y.row.ranges z.row.ranges)) (and_parts _ _ e).1)
  where
    go : (empty_row y.row ≡ true) ⊎ (list_all (λ p. contains p.1 p.0) (zip y.row.ranges z.row.ranges) ≡ true) → Holds z.row k v
    go (inl f) = absurd (empty_sound y k v f l h)
    go (inr f) = λ x i.
        let s = six z in
        let n : y.row.clocks ≡ z.row.clocks = within_clocks y z e in
        lies_within k (range_at y.row.ranges x) (range_at z.row.ranges x) (v (x + 1)) l (all_at_zip (λ g o. contains o g) y.row.ranges z.row.ranges f x (record { lower = Free; upper = Free }) (omega (arith, proper_length y.row y.fitting)) (omega (arith, proper_length z.row z.fitting))) (h x (omega arith))

pub zero_sound : (z : BoxZone) (k : ℕ) → zero_row z.row ≡ true → 0 < k → Holds z.row k origin
unfolding zero_row Holds
zero_sound z k e l x i =
    let s = six z in
    let a = AllPass-from_list_all has_zero z.row.ranges e x (record { lower = Free; upper = Free }) (omega (arith, proper_length z.row z.fitting)) in
    let c = and_parts (implies nil (range_at z.row.ranges x).lower) (implies nil (range_at z.row.ranges x).upper) a in
    (obeys_zero k (range_at z.row.ranges x).lower 0 l (so _ c.0), obeys_zero k (range_at z.row.ranges x).upper 0 l (so _ c.1))

pub box_laws : Laws box_calls
box_laws = record {
  clocks_countable = λ z. proper_countable z.row z.fitting;
  whole_clocks = whole_clocks;
  void_clocks = void_clocks;
  constrained_clocks = constrained_clocks;
  elapsed_clocks = elapsed_clocks;
  reset_clocks = reset_clocks;
  constrained_range = constrained_out;
  constrained_kind = λ z c h d. constrained_kind z c h (and_parts (difference c) true d).0;
  constrained_wide = λ z c e h d. constrained_wide z c e h (left_false (difference c) d);
  reset_range = reset_range;
  reset_grants = reset_grants;
  whole_holds = whole_holds;
  constrained_holds = constrained_holds;
  elapsed_holds = elapsed_holds;
  reset_holds = reset_holds;
  empty_sound = empty_sound;
  within_sound = within_sound;
  within_clocks = within_clocks;
  zero_sound = zero_sound;
  void_empty = void_empty;
  whole_outside = whole_outside;
  row_back = row_back;
  row_of_none = row_of_none;
}
  where
    left_false : (t : Bool) → (t && true) ≡ false → t ≡ false
    left_false true e = e
    left_false false e = refl
