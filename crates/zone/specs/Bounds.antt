-- Bounds on the difference of two clocks: their order, their sum, and what they ask of two readings.
use Rattle.std.specs.Prelude.{ℕ, Bool, true, false, cond, pos, ◌+ℤ◌, int_le, int_lt, nat_le, unsigned_abs}
use Rattle.zone.specs.declared.bound.Bound.{Bound}
use Rattle.zone.specs.declared.bound.Bound.TheVariants.{Free, AtMost, Below}
use Rattle.zone.specs.declared.constraint.Constraint.{Constraint}
use Rattle.zone.specs.Valuations.{Bounded}

-- at most 0
abbrev pub nil : Bound
nil = AtMost (pos 0)

-- the first is at least as tight as the second
abbrev pub implies : Bound → Bound → Bool
implies a Free = true
implies Free (AtMost d) = false
implies (AtMost c) (AtMost d) = int_le c d
implies (Below c) (AtMost d) = int_le c d
implies Free (Below d) = false
implies (AtMost c) (Below d) = int_lt c d
implies (Below c) (Below d) = int_le c d

-- the tighter of the two
abbrev pub tighter : Bound → Bound → Bound
tighter a b = cond (implies a b) a b

-- the bound of x − z from those of x − y and y − z
abbrev pub plus : Bound → Bound → Bound
plus Free b = Free
plus (AtMost c) Free = Free
plus (AtMost c) (AtMost d) = AtMost (c +ℤ d)
plus (AtMost c) (Below d) = Below (c +ℤ d)
plus (Below c) Free = Free
plus (Below c) (AtMost d) = Below (c +ℤ d)
plus (Below c) (Below d) = Below (c +ℤ d)

-- the constant without its sign
abbrev pub size : Bound → ℕ
size Free = 0
size (AtMost c) = unsigned_abs c
size (Below c) = unsigned_abs c

-- within 1,000,000 either way
abbrev pub narrow : Bound → Bool
narrow b = nat_le (size b) 1000000

-- the bound that a constraint sets
abbrev pub bound_of : Constraint → Bound
bound_of c = cond c.strict (Below c.constant) (AtMost c.constant)

-- x − y obeys the bound, at k ticks to the unit
abbrev pub Obeys : ℕ → Bound → ℕ → ℕ → Type 0
Obeys k Free x y = Unit {0}
Obeys k (AtMost c) x y = Bounded k false c x y
Obeys k (Below c) x y = Bounded k true c x y
