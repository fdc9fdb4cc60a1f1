-- Clock valuations in ticks, and when one meets a constraint.
use Rattle.std.specs.Prelude.{ℕ, suc, ◌+◌, ◌*◌, ◌<◌, ◌≤◌, Bool, true, false, cond, ℤ, pos, negsuc, ◌==◌}
use Rattle.zone.specs.declared.constraint.Constraint.{Constraint}

-- the number of ticks that each clock shows, from clock 1 on
abbrev pub Valuation : Type 0
Valuation = ℕ → ℕ

-- what clock i shows; clock 0 always shows 0
abbrev pub reading : Valuation → ℕ → ℕ
reading v i = cond (i == 0) 0 (v i)

-- every clock after a wait of d ticks
abbrev pub waited : Valuation → ℕ → Valuation
waited v d = λ i. v i + d

-- clock x set to zero
abbrev pub zeroed : Valuation → ℕ → Valuation
zeroed v x = λ i. cond (i == x) 0 (v i)

-- every clock at zero
abbrev pub origin : Valuation
origin = λ i. 0

-- x − y ≤ k · c, or < where it is strict, at k ticks to the unit
abbrev pub Bounded : ℕ → Bool → ℤ → ℕ → ℕ → Type 0
Bounded k false (pos c) x y = x ≤ y + k * c
Bounded k true (pos c) x y = x < y + k * c
Bounded k false (negsuc c) x y = x + k * suc c ≤ y
Bounded k true (negsuc c) x y = x + k * suc c < y

abbrev pub Meets : ℕ → Valuation → Constraint → Type 0
Meets k v c = Bounded k c.strict c.constant (reading v c.i) (reading v c.j)
