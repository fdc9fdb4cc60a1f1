use Rattle.std.proofs.Common.{◌≡◌, ℕ, ◌+◌, ◌*◌, ◌<◌, length}
use Rattle.zone.specs.declared.bound.Bound.{Bound}
use Rattle.zone.specs.Grids.{Grid}
use Rattle.zone.proofs.Filling.{Written}
use Rattle.zone.proofs.difference.bounds.grid.Given as goal

-- the rows before p
abbrev pub invariant-loop-p : goal.invariant-loop-p
invariant-loop-p g l =
    (length l.bounds ≡ 49) × ((d : Grid) → ((p q : ℕ) (b : Bound) → p < 7 → q < 7 → g.F.Fn.post l.rule (p, (q, tt)) b → b ≡ d p q) → Written d l.bounds (7 * l.p))

-- and of row p the bounds before q
abbrev pub invariant-loop-q : goal.invariant-loop-q
invariant-loop-q g l =
    (length l.bounds ≡ 49) × ((d : Grid) → ((p q : ℕ) (b : Bound) → p < 7 → q < 7 → g.F.Fn.post l.rule (p, (q, tt)) b → b ≡ d p q) → Written d l.bounds (7 * l.p + l.q))
