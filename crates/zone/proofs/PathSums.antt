-- Sums along paths of a closed grid, and of one with a new bound.
use Rattle.std.proofs.Common.{◌≡◌, ℕ, ◌≤◌, false, T, sym, refl, ◌∙◌, inl, inr, arith}
use Rattle.std.proofs.lemmas.Bool.{true≢false}
use Rattle.zone.specs.declared.bound.Bound.{Bound}
use Rattle.zone.specs.Bounds.{nil, implies, plus}
use Rattle.zone.specs.Grids.{Grid, tightened_grid}
use Rattle.zone.specs.Paths.{Given, Entries, With, PathSum, one, more, Tightest, Contradiction}
use Rattle.zone.specs.Closed.{Closed}
use Rattle.zone.specs.Order.{implies_refl, implies_trans, plus_more, plus_assoc, tighter_of}
use Rattle.zone.specs.Tightened.{tightened_old, tightened_new, tightened_triangle, tightened_diagonal}
use Rattle.zone.specs.Truth.{is_true}

-- a grid under every given bound that keeps the triangles is under every sum
module _ (n : ℕ) (e : Grid) (given : Given)
    (triangles : (p q r : ℕ) → p ≤ n → q ≤ n → r ≤ n → T (implies (e p r) (plus (e p q) (e q r))))
    (inside : (p q : ℕ) (b : Bound) → given p q b → (p ≤ n) × (q ≤ n))
    (under : (p q : ℕ) (b : Bound) → given p q b → T (implies (e p q) b)) where
  path_inside : {p q : ℕ} {b : Bound} → PathSum given p q b → (p ≤ n) × (q ≤ n)
  path_inside (one {p = p} {q = q} {b = b} g) = inside p q b g
  path_inside (more {p = p} {q = q} {r = r} {b = b} {c = c} g s) = ((inside p q b g).0, (path_inside s).1)

  pub path_under : {p q : ℕ} {b : Bound} → PathSum given p q b → T (implies (e p q) b)
  path_under (one {p = p} {q = q} {b = b} g) = under p q b g
  path_under (more {p = p} {q = q} {r = r} {b = b} {c = c} g s) =
      implies_trans (e p r) (plus (e p q) (e q r)) (plus b c) (triangles p q r (inside p q b g).0 (inside p q b g).1 (path_inside s).1) (plus_more (e p q) (e q r) b c (under p q b g) (path_under s))

same_under : (a b : Bound) → b ≡ a → T (implies a b)
same_under a b e = rw e (implies_refl a)

module _ (n : ℕ) (six : n ≤ 6) (d : Grid) (c : Closed n d) where
  pub entry_tightest : (p q : ℕ) → p ≤ n → q ≤ n → Tightest (Entries n d) p q (d p q)
  entry_tightest p q l k =
      (one (l, k, refl), λ x s. is_true (implies (d p q) x) (path_under n d (Entries n d) (λ p q r l k h. c.triangles p q r (omega arith) (omega arith) (omega arith)) (λ p q b g. (g.0, g.1)) (λ p q b g. same_under (d p q) b g.2) s))

  module _ (i j : ℕ) (b : Bound) (i_in : i ≤ n) (j_in : j ≤ n) where
    -- the old entries and the new bound
    abbrev bounds : Given
    bounds = With (Entries n d) i j b

    bounds_inside : (p q : ℕ) (x : Bound) → bounds p q x → (p ≤ n) × (q ≤ n)
    bounds_inside p q x (inl g) = (g.0, g.1)
    bounds_inside p q x (inr g) = (rw g.0 i_in, rw g.1 j_in)

    bounds_under : (p q : ℕ) (x : Bound) → bounds p q x → T (implies (tightened_grid d i j b p q) x)
    bounds_under p q x (inl g) = rw g.2 (tightened_old n i j b six i_in j_in d c p q)
    bounds_under p q x (inr g) = rw (g.0, g.1, g.2) (tightened_new n i j b six i_in j_in d c)

    pub tightened_path : (p q : ℕ) → p ≤ n → q ≤ n → PathSum bounds p q (tightened_grid d i j b p q)
    unfolding tightened_grid
    tightened_path p q l k =
        tighter_of (PathSum bounds p q) (d p q) (plus (plus (d p i) b) (d j q)) (one (inl (l, k, refl))) (rw (plus_assoc (d p i) b (d j q)) (more (inl (l, i_in, refl)) (more (inr (refl, refl, refl)) (one (inl (j_in, k, refl))))))

    -- a contradiction through the new bound
    pub found : implies nil (plus b (d j i)) ≡ false → Contradiction bounds
    found e = (i, plus b (d j i), more (inr (refl, refl, refl)) (one (inl (j_in, i_in, refl))), e)

    module _ (sound : T (implies nil (plus b (d j i)))) where
      tightened_under : {p q : ℕ} {x : Bound} → PathSum bounds p q x → T (implies (tightened_grid d i j b p q) x)
      tightened_under = path_under n (tightened_grid d i j b) bounds (λ p q r l k h. tightened_triangle n i j b six i_in j_in d c sound p q r (omega arith) (omega arith) (omega arith)) bounds_inside bounds_under

      pub tightened_tightest : (p q : ℕ) → p ≤ n → q ≤ n → Tightest bounds p q (tightened_grid d i j b p q)
      tightened_tightest p q l k = (tightened_path p q l k, λ x s. is_true (implies (tightened_grid d i j b p q) x) (tightened_under s))

      cycle_inside : {p q : ℕ} {x : Bound} → PathSum bounds p q x → p ≤ n
      cycle_inside (one {p = p} {q = q} {b = x} g) = (bounds_inside p q x g).0
      cycle_inside (more {p = p} {q = q} {b = x} g s) = (bounds_inside p q x g).0

      pub none_found : Contradiction bounds → ⊥
      none_found (p, x, s, e) =
          let t : T (implies nil x) = rw (tightened_diagonal n i j b six i_in j_in d c sound p (cycle_inside s)) at (tightened_under s) in
          true≢false (sym (is_true (implies nil x) t) ∙ e)
