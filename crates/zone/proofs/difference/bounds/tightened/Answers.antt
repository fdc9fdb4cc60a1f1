use Rattle.std.proofs.Common.{rules}
use Rattle.zone.specs.Bounds.{bound_of}
use Rattle.zone.specs.Grids.{entry, tightened_grid}
use Rattle.zone.proofs.difference.bounds.tightened.Goals as goal

pub returns : goal.returns
unfolding entry tightened_grid
returns c = c.grid.ensures (tightened_grid (entry c.args.bounds.now) c.args.constraint.i c.args.constraint.j (bound_of c.args.constraint)) (λ p q b l k e. search rules)
