-- What every zone kind keeps: its calls against the meaning of its zones, at every k ≥ 1.
use Rattle.std.specs.Prelude.{◌≡◌, ℕ, ◌<◌, Bool, true, false, not, ◌&&◌, ℤ, pos, negsuc, Ok, Err, ◌==◌, ◌≢◌, nat_le, nat_lt}
use Rattle.zone.specs.declared.constraint.Constraint.{Constraint}
use Rattle.zone.specs.declared.fault.ZoneFault.{ZoneFault}
use Rattle.zone.specs.declared.fault.ZoneFault.TheVariants.{OutOfRange, NoDifferences, TooWide}
use Rattle.zone.specs.Calls.{Calls}
use Rattle.zone.specs.Valuations.{Valuation, Meets, waited, zeroed, origin}

-- a number of clocks that a zone can have
abbrev pub countable : ℕ → Bool
countable n = nat_le 1 n && nat_le n 6

-- at most 10,000 either way
abbrev pub moderate : ℤ → Bool
moderate (pos c) = nat_le c 10000
moderate (negsuc c) = nat_lt c 10000

-- two different clocks of 0 to n, and a constant in range
abbrev pub in_range : ℕ → Constraint → Bool
in_range n c = not (c.i == c.j) && nat_le c.i n && nat_le c.j n && moderate c.constant

-- both clocks are above 0
abbrev pub difference : Constraint → Bool
difference c = nat_lt 0 c.i && nat_lt 0 c.j

pub record Laws {Z Row : Type 0} (calls : Calls Z Row) : Type 0 where
  -- the number of clocks, which every call keeps
  pub clocks_countable : (z : Z) → countable (calls.clocks z) ≡ true
  pub whole_clocks : (n : ℕ) → countable n ≡ true → calls.clocks (calls.whole n) ≡ n
  pub void_clocks : calls.clocks calls.void ≡ 1
  pub constrained_clocks : (z y : Z) (c : Constraint) → calls.constrained z c ≡ Ok y → calls.clocks y ≡ calls.clocks z
  pub elapsed_clocks : (z : Z) → calls.clocks (calls.elapsed z) ≡ calls.clocks z
  pub reset_clocks : (z y : Z) (x : ℕ) → calls.reset z x ≡ Ok y → calls.clocks y ≡ calls.clocks z
  -- the refusals
  pub constrained_range : (z : Z) (c : Constraint) → in_range (calls.clocks z) c ≡ false → calls.constrained z c ≡ Err OutOfRange
  pub constrained_kind : (z : Z) (c : Constraint) → in_range (calls.clocks z) c ≡ true → (difference c && not calls.differences) ≡ true → calls.constrained z c ≡ Err NoDifferences
  pub constrained_wide : (z : Z) (c : Constraint) (e : ZoneFault) → in_range (calls.clocks z) c ≡ true → (difference c && not calls.differences) ≡ false → calls.constrained z c ≡ Err e → e ≡ TooWide
  pub reset_range : (z : Z) (x : ℕ) → (nat_le 1 x && nat_le x (calls.clocks z)) ≡ false → calls.reset z x ≡ Err OutOfRange
  pub reset_grants : (z : Z) (x : ℕ) → (nat_le 1 x && nat_le x (calls.clocks z)) ≡ true → (y : Z) × (calls.reset z x ≡ Ok y)
  -- the valuations
  pub whole_holds : (n k : ℕ) (v : Valuation) → countable n ≡ true → 0 < k → calls.holds (calls.whole n) k v
  pub constrained_holds : (z y : Z) (c : Constraint) (k : ℕ) (v : Valuation) → calls.constrained z c ≡ Ok y → 0 < k → calls.holds z k v → Meets k v c → calls.holds y k v
  pub elapsed_holds : (z : Z) (k d : ℕ) (v : Valuation) → 0 < k → calls.holds z k v → calls.holds (calls.elapsed z) k (waited v d)
  pub reset_holds : (z y : Z) (x k : ℕ) (v : Valuation) → calls.reset z x ≡ Ok y → 0 < k → calls.holds z k v → calls.holds y k (zeroed v x)
  -- the answers
  pub empty_sound : (z : Z) (k : ℕ) (v : Valuation) → calls.empty z ≡ true → 0 < k → calls.holds z k v → ⊥
  pub within_sound : (y z : Z) (k : ℕ) (v : Valuation) → calls.within y z ≡ true → 0 < k → calls.holds y k v → calls.holds z k v
  pub within_clocks : (y z : Z) → calls.within y z ≡ true → calls.clocks y ≡ calls.clocks z
  pub zero_sound : (z : Z) (k : ℕ) → calls.holds_zero z ≡ true → 0 < k → calls.holds z k origin
  -- the empty zone of one clock, and rows
  pub void_empty : calls.empty calls.void ≡ true
  pub whole_outside : (n : ℕ) → countable n ≡ false → calls.whole n ≡ calls.void
  pub row_back : (z : Z) → calls.of_row (calls.row z) ≡ z
  pub row_of_none : (r : Row) → ((z : Z) → calls.row z ≢ r) → calls.of_row r ≡ calls.void
