-- What a judgement that refuses nothing says of a clock, and of a constraint's clocks and constant.
use Rattle.std.specs.Prelude.{◌≡◌, ℕ, ◌≤◌, Bool, true, false, ◌&&◌, ℤ, pos, negsuc, Ok, Err, nat_le, unsigned_abs, refl}
use Rattle.std.proofs.Common.{arith}
use Rattle.std.proofs.lemmas.Bool.{and_parts, leb-true, ltb-true, cond_both}
use Rattle.zone.specs.declared.bound.Bound.TheVariants.{AtMost, Below}
use Rattle.zone.specs.declared.constraint.Constraint.{Constraint}
use Rattle.zone.specs.declared.fault.ZoneFault.TheVariants.{OutOfRange}
use Rattle.zone.specs.Bounds.{size, bound_of}
use Rattle.zone.specs.Judging.{judged, judged_clock}
use Rattle.zone.specs.Laws.{in_range, moderate}

moderate_size : (c : ℤ) → moderate c ≡ true → unsigned_abs c ≤ 10000
moderate_size (pos c) h = leb-true c 10000 h
moderate_size (negsuc c) h = ltb-true c 10000 h

module _ (n : ℕ) (c : Constraint) (h : in_range n c ≡ true) where
  pub range_i : c.i ≤ n
  range_i = leb-true _ _ (and_parts _ _ (and_parts _ _ (and_parts _ _ h).0).0).1

  pub range_j : c.j ≤ n
  range_j = leb-true _ _ (and_parts _ _ (and_parts _ _ h).0).1

  pub range_size : size (bound_of c) ≤ 10000
  range_size =
      let s : unsigned_abs c.constant ≤ 10000 = moderate_size c.constant (and_parts _ _ h).1 in
      cond_both c.strict (Below c.constant) (AtMost c.constant) (λ b. size b ≤ 10000) (λ _. s) (λ _. s)

-- a clock that is not refused is in range
pub judged_below : (n x : ℕ) (u : Unit {0}) → judged_clock n x ≡ Ok u → x ≤ n
judged_below n x u h = go (nat_le 1 x && nat_le x n) refl
  where
    go : (t : Bool) → (nat_le 1 x && nat_le x n) ≡ t → x ≤ n
    go true e = leb-true x n (and_parts (nat_le 1 x) (nat_le x n) e).1
    go false e =
        let f : judged_clock n x ≡ Err OutOfRange = rw e in
        let v : ◌≡◌ {A = ℕ} 0 1 = cc in
        absurd (omega arith)

-- a constraint that is not refused is in range
pub judged_range : (n : ℕ) (differences : Bool) (c : Constraint) (u : Unit {0}) → judged n differences c ≡ Ok u → in_range n c ≡ true
judged_range n differences c u h = go (in_range n c) refl
  where
    go : (t : Bool) → in_range n c ≡ t → in_range n c ≡ true
    go true e = e
    go false e =
        let f : judged n differences c ≡ Err OutOfRange = rw e in
        let v : ◌≡◌ {A = ℕ} 0 1 = cc in
        absurd (omega arith)
