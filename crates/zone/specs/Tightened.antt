-- A closed grid with one more bound.
use Rattle.std.specs.Prelude.{◌≡◌, ℕ, ◌<◌, ◌≤◌, false, T, ◌⊎◌, nat_le}
use Rattle.std.proofs.Math.Path.{sym, ap}
use Rattle.std.proofs.Common.{◌∙◌, inl, inr, arith}
use Rattle.std.proofs.lemmas.Bool.{and_cases, and_left, and_right, cond-true}
use Rattle.zone.specs.declared.bound.Bound.{Bound}
use Rattle.zone.specs.declared.bound.Bound.TheVariants.{Free}
use Rattle.zone.specs.Bounds.{nil, implies, plus, size}
use Rattle.zone.specs.Grids.{Grid, tightened_grid}
use Rattle.zone.specs.Closed.{Closed}
use Rattle.zone.specs.Order.{implies_refl, implies_trans, plus_more, plus_assoc, plus_comm, plus_zero, zero_plus, plus_free, tighter_of, tighter_left, tighter_right}
use Rattle.zone.specs.Truth.{is_true}

regroup_first : (a x b y : Bound) → plus (plus (plus a x) b) y ≡ plus a (plus (plus x b) y)
regroup_first a x b y = ap (λ t. plus t y) (plus_assoc a x b) ∙ plus_assoc a (plus x b) y

regroup_last : (a b y c : Bound) → plus (plus a b) (plus y c) ≡ plus (plus (plus a b) y) c
regroup_last a b y c = sym (plus_assoc (plus a b) y c)

-- a + b + (y + x) + b + z, with the part from end to end in the middle
regroup_both : (a b y x z : Bound) → plus (plus (plus a b) y) (plus (plus x b) z) ≡ plus a (plus (plus b (plus y x)) (plus b z))
regroup_both a b y x z =
    plus_assoc (plus a b) y (plus (plus x b) z) ∙ (plus_assoc a b (plus y (plus (plus x b) z)) ∙ ap (plus a) (ap (plus b) (ap (plus y) (plus_assoc x b z) ∙ sym (plus_assoc y x (plus b z))) ∙ sym (plus_assoc b (plus y x) (plus b z))))

-- a cycle through b, from either end
regroup_cycle : (b y x : Bound) → plus b (plus y x) ≡ plus (plus x b) y
regroup_cycle b y x = ap (plus b) (plus_comm y x) ∙ (sym (plus_assoc b x y) ∙ ap (λ t. plus t y) (plus_comm b x))

module _ (n i j : ℕ) (b : Bound) (six : n ≤ 6) (i_in : i ≤ n) (j_in : j ≤ n) (d : Grid) (c : Closed n d) where
  -- the sum by way of the new bound
  via : ℕ → ℕ → Bound
  via p q = plus (plus (d p i) b) (d j q)

  pub tightened_old : (p q : ℕ) → T (implies (tightened_grid d i j b p q) (d p q))
  unfolding tightened_grid
  tightened_old p q = tighter_left (d p q) (plus (plus (d p i) b) (d j q))

  tightened_via : (p q : ℕ) → T (implies (tightened_grid d i j b p q) (via p q))
  unfolding tightened_grid via
  tightened_via p q = tighter_right (d p q) (plus (plus (d p i) b) (d j q))

  pub tightened_new : T (implies (tightened_grid d i j b i j) b)
  unfolding via
  tightened_new =
      let e : plus (plus (d i i) b) (d j j) ≡ b = ap (λ t. plus (plus t b) (d j j)) (c.diagonal i i_in) ∙ (ap (plus (plus nil b)) (c.diagonal j j_in) ∙ (plus_zero (plus nil b) ∙ zero_plus b)) in
      rw e at (tightened_via i j)

  tightened_of : (P : Bound → Type 0) (p q : ℕ) → P (d p q) → P (via p q) → P (tightened_grid d i j b p q)
  unfolding tightened_grid via
  tightened_of P p q h k = tighter_of P (d p q) (plus (plus (d p i) b) (d j q)) h k

  -- the new bound contradicts none of the old ones
  module _ (sound : T (implies nil (plus b (d j i)))) where
    one_way : (p q r : ℕ) → p < 7 → q < 7 → T (implies (via p r) (plus (d p q) (via q r)))
    unfolding via
    one_way p q r l k =
        rw (← (regroup_first (d p q) (d q i) b (d j r))) (plus_more (plus (d p i) b) (d j r) (plus (plus (d p q) (d q i)) b) (d j r) (plus_more (d p i) b (plus (d p q) (d q i)) b (c.triangles p q i l k (omega arith)) (implies_refl b)) (implies_refl (d j r)))

    other_way : (p q r : ℕ) → q < 7 → r < 7 → T (implies (via p r) (plus (via p q) (d q r)))
    unfolding via
    other_way p q r k h =
        rw (← (regroup_last (d p i) b (d j q) (d q r))) (plus_more (plus (d p i) b) (d j r) (plus (d p i) b) (plus (d j q) (d q r)) (implies_refl (plus (d p i) b)) (c.triangles j q r (omega arith) k h))

    cycle : (q : ℕ) → q < 7 → T (implies nil (plus b (plus (d j q) (d q i))))
    cycle q k = implies_trans nil (plus b (d j i)) (plus b (plus (d j q) (d q i))) sound (plus_more b (d j i) b (plus (d j q) (d q i)) (implies_refl b) (c.triangles j q i (omega arith) k (omega arith)))

    both_ways : (p q r : ℕ) → q < 7 → T (implies (via p r) (plus (via p q) (via q r)))
    unfolding via
    both_ways p q r k =
        let e : plus (d p i) (plus nil (plus b (d j r))) ≡ plus (plus (d p i) b) (d j r) = ap (plus (d p i)) (zero_plus (plus b (d j r))) ∙ sym (plus_assoc (d p i) b (d j r)) in
        rw (regroup_both (d p i) b (d j q) (d q i) (d j r), ← e) (plus_more (d p i) (plus nil (plus b (d j r))) (d p i) (plus (plus b (plus (d j q) (d q i))) (plus b (d j r))) (implies_refl (d p i)) (plus_more nil (plus b (d j r)) (plus b (plus (d j q) (d q i))) (plus b (d j r)) (cycle q k) (implies_refl (plus b (d j r)))))

    by_via : (p r : ℕ) (x : Bound) → T (implies (via p r) x) → T (implies (tightened_grid d i j b p r) x)
    by_via p r x h = implies_trans (tightened_grid d i j b p r) (via p r) x (tightened_via p r) h

    pub tightened_triangle : (p q r : ℕ) → p < 7 → q < 7 → r < 7 → T (implies (tightened_grid d i j b p r) (plus (tightened_grid d i j b p q) (tightened_grid d i j b q r)))
    tightened_triangle p q r l k h =
        tightened_of (λ x. T (implies (tightened_grid d i j b p r) (plus x (tightened_grid d i j b q r)))) p q
        (tightened_of (λ y. T (implies (tightened_grid d i j b p r) (plus (d p q) y))) q r
        (implies_trans (tightened_grid d i j b p r) (d p r) (plus (d p q) (d q r)) (tightened_old p r) (c.triangles p q r l k h))
        (by_via p r (plus (d p q) (via q r)) (one_way p q r l k)))
        (tightened_of (λ y. T (implies (tightened_grid d i j b p r) (plus (via p q) y))) q r
        (by_via p r (plus (via p q) (d q r)) (other_way p q r k h))
        (by_via p r (plus (via p q) (via q r)) (both_ways p q r k)))

    via_cycle : (p : ℕ) → p < 7 → T (implies nil (via p p))
    unfolding via
    via_cycle p l = rw (← (regroup_cycle b (d j p) (d p i))) (cycle p l)

    pub tightened_diagonal : (p : ℕ) → p ≤ n → tightened_grid d i j b p p ≡ nil
    unfolding tightened_grid via
    tightened_diagonal p l = rw (c.diagonal p l) (cond-true (implies nil (via p p)) nil (via p p) (is_true (implies nil (via p p)) (via_cycle p (omega arith))))

    pub tightened_outside : (p q : ℕ) → p < 7 → q < 7 → (nat_le p n ≡ false) ⊎ (nat_le q n ≡ false) → tightened_grid d i j b p q ≡ Free
    unfolding via
    tightened_outside p q l k (inl e) =
        tightened_of (λ x. x ≡ Free) p q (c.outside p q l k (and_left _ _ e)) (rw (c.outside p i l (omega arith) (and_left _ _ e)))
    tightened_outside p q l k (inr e) =
        tightened_of (λ x. x ≡ Free) p q (c.outside p q l k (and_right _ _ e)) (rw (c.outside j q (omega arith) k (and_right _ _ e)) (plus_free (plus (d p i) b)))

    pub closed_tightened : ((p q : ℕ) → p < 7 → q < 7 → size (tightened_grid d i j b p q) ≤ 1000000) → Closed n (tightened_grid d i j b)
    closed_tightened small = record {
      outside = λ p q l k o. tightened_outside p q l k (and_cases _ _ o);
      diagonal = tightened_diagonal;
      positive = λ q l. implies_trans (tightened_grid d i j b 0 q) (d 0 q) nil (tightened_old 0 q) (c.positive q l);
      small = small;
      triangles = tightened_triangle;
    }
