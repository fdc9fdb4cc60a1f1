use Rattle.zone.proofs.Promises.{row_closed}
use Rattle.zone.proofs.difference.kind.DifferenceZoneZone.row.Goals as goal

pub returns-clause-paths : goal.returns-clause-paths
returns-clause-paths c = row_closed c.args.self.now.row c.args.self.now.fitting
