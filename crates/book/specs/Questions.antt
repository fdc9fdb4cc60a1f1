-- What a question is, and the two questions.
use Rattle.std.specs.Prelude.{◌≡◌, ℕ, ◌+◌, ◌≤◌, Bool, true, cond, not, ◌||◌, nat_le, nat_lt}

pub record Asks : Type 0 where
  pub admits : Bool → ℕ → Bool
  pub passes : Bool → ℕ → ℕ → Bool
  pub left : ℕ → ℕ

pub record Keeps (asks : Asks) : Type 0 where
  -- a node at an accepting location leaves a visit
  pub admits_left : (number : ℕ) → asks.admits true number ≡ true → 1 ≤ asks.left number
  -- a step leaves no more visits than before, and one fewer from an accepting location
  pub passes_left : (accepting : Bool) (number next : ℕ) → asks.passes accepting number next ≡ true → asks.left next + cond accepting 1 0 ≤ asks.left number

abbrev pub unreachability : Asks
unreachability = record { admits = λ accepting number. not accepting; passes = λ accepting number next. not accepting; left = λ number. 0 }

abbrev pub emptiness : Asks
emptiness = record { admits = λ accepting number. not accepting || nat_lt 0 number; passes = λ accepting number next. nat_le (next + cond accepting 1 0) number; left = λ number. number }
