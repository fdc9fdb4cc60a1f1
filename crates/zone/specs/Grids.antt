-- Square grids of bounds: row p and column q have the bound of x_p − x_q.
use Rattle.std.specs.Prelude.{ℕ, ◌+◌, ◌*◌, ◌/◌, ◌%◌, Bool, cond, ◌&&◌, ◌||◌, List, map, ◌==◌, nat_le, nat_lt, slice_index_or}
use Rattle.std.specs.List.{range_with_len}
use Rattle.zone.specs.declared.bound.Bound.{Bound}
use Rattle.zone.specs.declared.bound.Bound.TheVariants.{Free}
use Rattle.zone.specs.Bounds.{nil, implies, tighter, plus, narrow}

-- a bound for each row and column
abbrev pub Grid : Type 0
Grid = ℕ → ℕ → Bound

-- the entry of a list of 49 bounds, seven to a row
unfoldable pub entry : List Bound → Grid
entry m p q = slice_index_or m (7 * p + q) Free

-- the 49 bounds of a grid, row by row
unfoldable pub listed : Grid → List Bound
listed d = map (λ k. d (k / 7) (k % 7)) (range_with_len 0 49)

-- clocks 0 to n are not negative, and nothing else is said
unfoldable pub whole_grid : ℕ → Grid
whole_grid n p q = cond (nat_le p n && nat_le q n && (p == 0 || p == q)) nil Free

-- no bound of any x_p − x_0
unfoldable pub elapsed_grid : Grid → Grid
elapsed_grid d p q = cond (nat_lt 0 p && q == 0) Free (d p q)

-- row and column x are those of 0
unfoldable pub reset_grid : Grid → ℕ → Grid
reset_grid d x p q = d (cond (p == x) 0 p) (cond (q == x) 0 q)

-- each bound, or the sum by way of the bound b of x_i − x_j
unfoldable pub tightened_grid : Grid → ℕ → ℕ → Bound → Grid
tightened_grid d i j b p q = tighter (d p q) (plus (plus (d p i) b) (d j q))

-- a bound of x_p − x_q that a closed grid of n clocks can hold
abbrev pub fits : ℕ → ℕ → ℕ → Bound → Bool
fits n p q b = cond (nat_le p n && nat_le q n) (cond (p == q) (implies b nil && implies nil b) (narrow b && (nat_lt 0 p || implies b nil))) (implies Free b)

-- the bound of x_p − x_r is at least as tight as the sum by way of q
abbrev pub triangle : Grid → ℕ → ℕ → ℕ → Bool
triangle d p q r = implies (d p r) (plus (d p q) (d q r))
