use Rattle.std.proofs.Common.{rules}
use Rattle.zone.specs.Grids.{entry, elapsed_grid}
use Rattle.zone.proofs.difference.bounds.elapsed.Goals as goal

pub returns : goal.returns
unfolding entry elapsed_grid
returns c = c.grid.ensures (elapsed_grid (entry c.args.bounds.now)) (λ p q b l k e. search rules)
