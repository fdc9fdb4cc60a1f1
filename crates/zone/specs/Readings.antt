-- What clocks read after a wait, after one is set to zero, and at the origin.
use Rattle.std.specs.Prelude.{◌≡◌, ℕ, ◌+◌, ◌<◌, Bool, true, false, ◌==◌, refl}
use Rattle.std.proofs.Common.{arith}
use Rattle.std.proofs.lemmas.Bool.{cond_both, ne_eqb}
use Rattle.zone.specs.declared.constraint.Constraint.{Constraint}
use Rattle.zone.specs.Bounds.{bound_of, Obeys}
use Rattle.zone.specs.Valuations.{Valuation, reading, waited, zeroed, origin, Meets}
use Rattle.zone.specs.Changes.{in_place}

pub reading_waited : (v : Valuation) (d p : ℕ) → 0 < p → reading (waited v d) p ≡ reading v p + d
reading_waited v d p l = rw (ne_eqb p 0 (λ e. omega arith))

pub reading_zeroed : (v : Valuation) (x p : ℕ) → reading (zeroed v x) p ≡ reading v (in_place x p)
reading_zeroed v x p = go (p == x) refl
  where
    go : (t : Bool) → (p == x) ≡ t → reading (zeroed v x) p ≡ reading v (in_place x p)
    go true e = rw e (cond_both (p == 0) 0 0 (λ y. y ≡ 0) (λ _. refl) (λ _. refl))
    go false e = rw e

pub reading_origin : (p : ℕ) → reading origin p ≡ 0
reading_origin p = cond_both (p == 0) 0 0 (λ y. y ≡ 0) (λ _. refl) (λ _. refl)

-- the bound that a constraint sets is obeyed where the constraint is met
pub meets_obeys : (k : ℕ) (v : Valuation) (c : Constraint) → Meets k v c → Obeys k (bound_of c) (reading v c.i) (reading v c.j)
meets_obeys k v c h = go c.strict refl
  where
    go : (t : Bool) → c.strict ≡ t → Obeys k (bound_of c) (reading v c.i) (reading v c.j)
    go true e = rw e (rw e at h)
    go false e = rw e (rw e at h)
