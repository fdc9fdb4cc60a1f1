use Rattle.std.proofs.Common.{rules}
use Rattle.zone.specs.Grids.{whole_grid}
use Rattle.zone.proofs.difference.bounds.whole.Goals as goal

pub returns : goal.returns
unfolding whole_grid
returns c = c.grid.ensures (whole_grid c.args.clocks) (λ p q b l k e. search rules)
