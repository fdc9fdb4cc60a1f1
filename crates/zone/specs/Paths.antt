-- Paths of bounds, their sums, and the tightest of these.
use Rattle.std.specs.Prelude.{◌≡◌, ℕ, ◌≤◌, true, false, ◌⊎◌}
use Rattle.zone.specs.declared.bound.Bound.{Bound}
use Rattle.zone.specs.Bounds.{nil, implies, plus}
use Rattle.zone.specs.Grids.{Grid}

-- which bounds of x_p − x_q are given
abbrev pub Given : Type 1
Given = ℕ → ℕ → Bound → Type 0

-- the entries of a grid of n clocks
abbrev pub Entries : ℕ → Grid → Given
Entries n d p q b = (p ≤ n) × (q ≤ n) × (b ≡ d p q)

-- those, and a new bound c of x_i − x_j
abbrev pub With : Given → ℕ → ℕ → Bound → Given
With given i j c p q b = given p q b ⊎ ((p ≡ i) × (q ≡ j) × (b ≡ c))

-- b is the sum along some path of given bounds from p to q
pub data PathSum (given : Given) : ℕ → ℕ → Bound → Type 0 where
  one : {p q : ℕ} {b : Bound} → given p q b → PathSum given p q b
  more : {p q r : ℕ} {b c : Bound} → given p q b → PathSum given q r c → PathSum given p r (plus b c)

-- b is the tightest sum along any path from p to q
abbrev pub Tightest : Given → ℕ → ℕ → Bound → Type 0
Tightest given p q b = PathSum given p q b × ((c : Bound) → PathSum given p q c → implies b c ≡ true)

-- some cycle sums to tighter than ≤ 0
abbrev pub Contradiction : Given → Type 0
Contradiction given = (p : ℕ) × (b : Bound) × PathSum given p p b × (implies nil b ≡ false)
