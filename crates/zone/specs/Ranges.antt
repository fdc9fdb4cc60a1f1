-- The range of one clock x: a bound of 0 − x, which is its lower end, and one of x − 0, its upper end.
use Rattle.std.specs.Prelude.{ℕ, Bool, cond, ◌&&◌, pos, ◌==◌, nat_le, nat_lt}
use Rattle.zone.specs.declared.bound.Bound.{Bound}
use Rattle.zone.specs.declared.bound.Bound.TheVariants.{Free, Below}
use Rattle.zone.specs.declared.boxed.range.Range.{Range}
use Rattle.zone.specs.Bounds.{nil, implies, tighter, plus, size, Obeys}

-- 0 and above
abbrev pub whole_range : Range
whole_range = record { lower = nil; upper = Free }

-- 0 alone
abbrev pub zero_range : Range
zero_range = record { lower = nil; upper = nil }

-- below 0
abbrev pub no_range : Range
no_range = record { lower = nil; upper = Below (pos 0) }

-- the two ends leave some time between them
abbrev pub inhabited : Range → Bool
inhabited g = implies nil (plus g.lower g.upper)

-- the first has all of the second
abbrev pub contains : Range → Range → Bool
contains h g = implies g.lower h.lower && implies g.upper h.upper

-- 0 lies in the range
abbrev pub has_zero : Range → Bool
has_zero g = implies nil g.lower && implies nil g.upper

-- a range that a box of n clocks can have at place k: 0 at least with constants within 10,000, and past n the whole range
abbrev pub fits : ℕ → ℕ → Range → Bool
fits n k g = cond (nat_lt k n) (implies g.lower nil && nat_le (size g.lower) 10000 && nat_le (size g.upper) 10000) (contains whole_range g && contains g whole_range)

-- without its upper end
abbrev pub elapsed : Range → Range
elapsed g = record { lower = g.lower; upper = Free }

-- the range of clock y, with clock x set to zero
abbrev pub reset : ℕ → ℕ → Range → Range
reset x y g = cond (x == y) zero_range g

-- the range of clock y, with the bound b of x_i − x_j
abbrev pub tightened : ℕ → ℕ → Bound → ℕ → Range → Range
tightened i j b y g = record { lower = cond (j == y) (tighter g.lower b) g.lower; upper = cond (i == y) (tighter g.upper b) g.upper }

-- the reading x lies in the range, at k ticks to the unit
abbrev pub Lies : ℕ → Range → ℕ → Type 0
Lies k g x = Obeys k g.lower 0 x × Obeys k g.upper x 0
