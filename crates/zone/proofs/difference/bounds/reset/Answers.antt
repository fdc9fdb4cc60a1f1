use Rattle.std.proofs.Common.{rules}
use Rattle.zone.specs.Grids.{entry, reset_grid}
use Rattle.zone.proofs.difference.bounds.reset.Goals as goal

pub returns : goal.returns
unfolding entry reset_grid
returns c = c.grid.ensures (reset_grid (entry c.args.bounds.now) c.args.clock) (λ p q b l k e. search rules)
