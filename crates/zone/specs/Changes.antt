-- Each change of a closed grid leaves a closed grid.
use Rattle.std.specs.Prelude.{◌≡◌, ℕ, zero, suc, ◌<◌, ◌≤◌, Bool, true, false, cond, ◌&&◌, ◌||◌, T, ◌⊎◌, ◌==◌, nat_le, nat_lt, refl}
use Rattle.std.proofs.Common.{◌∙◌, inl, inr, ⊎_elim, arith}
use Rattle.std.proofs.lemmas.Int.{ints}
use Rattle.std.proofs.lemmas.Bool.{and_parts, and_cases, and_left, and_right, or_cases, leb-true, leb-false, cond_both, eqb-true, ne_eqb, lt-ltb}
use Rattle.std.proofs.lemmas.Bool.Decides.{nat_tests}
use Rattle.zone.specs.declared.bound.Bound.{Bound}
use Rattle.zone.specs.declared.bound.Bound.TheVariants.{Free}
use Rattle.zone.specs.Bounds.{nil, implies, plus, size}
use Rattle.zone.specs.Grids.{Grid, whole_grid, elapsed_grid, reset_grid}
use Rattle.zone.specs.Closed.{Closed}
use Rattle.zone.specs.Order.{implies_refl, implies_trans, plus_more, plus_free}

-- ---- the whole zone

-- a bound of the whole grid is ≤ 0 or none
pub whole_nil : (n p q : ℕ) → p ≤ n → q ≤ n → (p ≡ 0) ⊎ (p ≡ q) → whole_grid n p q ≡ nil
unfolding whole_grid
whole_nil n p q l k h = grind (arith, nat_tests)

whole_free : (n p q : ℕ) → (nat_le p n && nat_le q n) ≡ false → whole_grid n p q ≡ Free
unfolding whole_grid
whole_free n p q o = rw o

pub whole_cases : (n p q : ℕ) → ((p ≤ n) × (q ≤ n) × ((p ≡ 0) ⊎ (p ≡ q))) ⊎ (whole_grid n p q ≡ Free)
unfolding whole_grid
whole_cases n p q = go (nat_le p n && nat_le q n && (p == 0 || p == q)) refl
  where
    go : (t : Bool) → (nat_le p n && nat_le q n && (p == 0 || p == q)) ≡ t → ((p ≤ n) × (q ≤ n) × ((p ≡ 0) ⊎ (p ≡ q))) ⊎ (whole_grid n p q ≡ Free)
    go true e =
        let a = and_parts (nat_le p n && nat_le q n) (p == 0 || p == q) e in
        let b = and_parts (nat_le p n) (nat_le q n) a.0 in
        inl (leb-true p n b.0, leb-true q n b.1, ⊎_elim (λ h. inl (eqb-true p 0 h)) (λ h. inr (eqb-true p q h)) (or_cases (p == 0) (p == q) a.1))
    go false e = inr (rw e)

nil_nil : T (implies nil nil)
nil_nil = implies_refl nil

whole_triangle : (n p q r : ℕ) → T (implies (whole_grid n p r) (plus (whole_grid n p q) (whole_grid n q r)))
whole_triangle n p q r = go (whole_cases n p q) (whole_cases n q r)
  where
    go : ((p ≤ n) × (q ≤ n) × ((p ≡ 0) ⊎ (p ≡ q))) ⊎ (whole_grid n p q ≡ Free) → ((q ≤ n) × (r ≤ n) × ((q ≡ 0) ⊎ (q ≡ r))) ⊎ (whole_grid n q r ≡ Free) → T (implies (whole_grid n p r) (plus (whole_grid n p q) (whole_grid n q r)))
    go (inl a) (inl b) =
        let h : (p ≡ 0) ⊎ (p ≡ r) = ⊎_elim (λ e. inl e) (λ e. ⊎_elim (λ f. inl (e ∙ f)) (λ f. inr (e ∙ f)) b.2) a.2 in
        rw (whole_nil n p q a.0 a.1 a.2, whole_nil n q r b.0 b.1 b.2, whole_nil n p r a.0 b.1 h) (omega (arith, ints))
    go (inl a) (inr e) = rw (e, plus_free (whole_grid n p q)) tt
    go (inr e) b = rw e tt

whole_small : (n p q : ℕ) → size (whole_grid n p q) ≤ 1000000
whole_small n p q = go (whole_cases n p q)
  where
    go : ((p ≤ n) × (q ≤ n) × ((p ≡ 0) ⊎ (p ≡ q))) ⊎ (whole_grid n p q ≡ Free) → size (whole_grid n p q) ≤ 1000000
    go (inl a) = rw (whole_nil n p q a.0 a.1 a.2) (omega arith)
    go (inr e) = rw e (omega arith)

pub closed_whole : (n : ℕ) → Closed n (whole_grid n)
closed_whole n = record {
  outside = λ p q l k o. whole_free n p q o;
  diagonal = λ p l. whole_nil n p p l l (inr refl);
  positive = λ q l. rw (whole_nil n 0 q (omega arith) l (inl refl)) nil_nil;
  small = λ p q l k. whole_small n p q;
  triangles = λ p q r l k j. whole_triangle n p q r;
}

-- ---- time

pub above : (p : ℕ) → (0 < p) ⊎ (p ≡ 0)
above zero = inr refl
above (suc p) = inl (omega arith)

pub elapsed_free : (d : Grid) (p : ℕ) → 0 < p → elapsed_grid d p 0 ≡ Free
unfolding elapsed_grid
elapsed_free d p l = rw (lt-ltb 0 p l)

pub elapsed_kept : (d : Grid) (p q : ℕ) → (p ≡ 0) ⊎ (0 < q) → elapsed_grid d p q ≡ d p q
unfolding elapsed_grid
elapsed_kept d p q h = grind (arith, nat_tests)

elapsed_more : (d : Grid) (p q : ℕ) → T (implies (d p q) (elapsed_grid d p q))
unfolding elapsed_grid
elapsed_more d p q = cond_both (nat_lt 0 p && q == 0) Free (d p q) (λ x. T (implies (d p q) x)) (λ _. tt) (λ _. implies_refl (d p q))

module _ (n : ℕ) (d : Grid) (c : Closed n d) where
  elapsed_open : (p q r : ℕ) → 0 < p → r ≡ 0 → (0 < q) ⊎ (q ≡ 0) → T (implies (elapsed_grid d p r) (plus (elapsed_grid d p q) (elapsed_grid d q r)))
  elapsed_open p q r l e (inl k) = rw (e, elapsed_free d q k, plus_free (elapsed_grid d p q)) tt
  elapsed_open p q r l e (inr f) = rw (e, f, elapsed_free d p l) tt

  elapsed_shut : (p q r : ℕ) → p < 7 → q < 7 → r < 7 → (p ≡ 0) ⊎ (0 < r) → T (implies (elapsed_grid d p r) (plus (elapsed_grid d p q) (elapsed_grid d q r)))
  elapsed_shut p q r l k j h =
      rw (elapsed_kept d p r h) (implies_trans (d p r) (plus (d p q) (d q r)) (plus (elapsed_grid d p q) (elapsed_grid d q r)) (c.triangles p q r l k j) (plus_more (d p q) (d q r) (elapsed_grid d p q) (elapsed_grid d q r) (elapsed_more d p q) (elapsed_more d q r)))

  elapsed_triangle : (p q r : ℕ) → p < 7 → q < 7 → r < 7 → (0 < p) ⊎ (p ≡ 0) → (0 < r) ⊎ (r ≡ 0) → (0 < q) ⊎ (q ≡ 0) → T (implies (elapsed_grid d p r) (plus (elapsed_grid d p q) (elapsed_grid d q r)))
  elapsed_triangle p q r l k j (inr e) b a = elapsed_shut p q r l k j (inl e)
  elapsed_triangle p q r l k j (inl e) (inl b) a = elapsed_shut p q r l k j (inr b)
  elapsed_triangle p q r l k j (inl e) (inr b) a = elapsed_open p q r e b a

  elapsed_of : (P : Bound → Type 0) (p q : ℕ) → P Free → P (d p q) → P (elapsed_grid d p q)
  unfolding elapsed_grid
  elapsed_of P p q h k = cond_both (nat_lt 0 p && q == 0) Free (d p q) P (λ _. h) (λ _. k)

  elapsed_diagonal : (p : ℕ) → p ≤ n → (0 < p) ⊎ (p ≡ 0) → elapsed_grid d p p ≡ nil
  elapsed_diagonal p l (inl h) = elapsed_kept d p p (inr h) ∙ c.diagonal p l
  elapsed_diagonal p l (inr h) = elapsed_kept d p p (inl h) ∙ c.diagonal p l

  pub closed_elapsed : Closed n (elapsed_grid d)
  closed_elapsed = record {
    outside = λ p q l k o. elapsed_of (λ x. x ≡ Free) p q refl (c.outside p q l k o);
    diagonal = λ p l. elapsed_diagonal p l (above p);
    positive = λ q l. rw (elapsed_kept d 0 q (inl refl)) (c.positive q l);
    small = λ p q l k. elapsed_of (λ x. size x ≤ 1000000) p q (omega arith) (c.small p q l k);
    triangles = λ p q r l k j. elapsed_triangle p q r l k j (above p) (above r) (above q);
  }

-- ---- a clock set to zero

-- the index that takes the place of p
abbrev pub in_place : ℕ → ℕ → ℕ
in_place x p = cond (p == x) 0 p

pub in_place_below : (x p m : ℕ) → p ≤ m → in_place x p ≤ m
in_place_below x p m l = cond_both (p == x) 0 p (λ y. y ≤ m) (λ _. omega arith) (λ _. l)

in_place_past : (x p n : ℕ) → x ≤ n → n < p → in_place x p ≡ p
in_place_past x p n l k = rw (ne_eqb p x (λ e. omega arith))

in_place_lt : (x p m : ℕ) → 0 < m → p < m → in_place x p < m
in_place_lt x p m z l = cond_both (p == x) 0 p (λ y. y < m) (λ _. z) (λ _. l)

module _ (n x : ℕ) (under : x ≤ n) (d : Grid) (c : Closed n d) where
  lt : (q : ℕ) → q < 7 → in_place x q < 7
  lt q k = in_place_lt x q 7 (omega arith) k

  reset_outside : (p q : ℕ) → p < 7 → q < 7 → (nat_le p n ≡ false) ⊎ (nat_le q n ≡ false) → d (in_place x p) (in_place x q) ≡ Free
  reset_outside p q l k (inl e) = rw (in_place_past x p n under (leb-false p n e)) (c.outside p (in_place x q) l (lt q k) (and_left _ _ e))
  reset_outside p q l k (inr e) = rw (in_place_past x q n under (leb-false q n e)) (c.outside (in_place x p) q (lt p l) k (and_right _ _ e))

  in_place_zero : in_place x 0 ≡ 0
  in_place_zero = cond_both (0 == x) 0 0 (λ y. y ≡ 0) (λ _. refl) (λ _. refl)

  pub closed_reset : Closed n (reset_grid d x)
  unfolding reset_grid
  closed_reset = record {
    outside = λ p q l k o. reset_outside p q l k (and_cases _ _ o);
    diagonal = λ p l. c.diagonal (in_place x p) (in_place_below x p n l);
    positive = λ q l. rw in_place_zero (c.positive (in_place x q) (in_place_below x q n l));
    small = λ p q l k. c.small (in_place x p) (in_place x q) (lt p l) (lt q k);
    triangles = λ p q r l k j. c.triangles (in_place x p) (in_place x q) (in_place x r) (lt p l) (lt q k) (lt r j);
  }
