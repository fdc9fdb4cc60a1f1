use Rattle.zone.proofs.Promises.{row_closed}
use Rattle.zone.proofs.difference.kind.DifferenceZoneZone.from_row.Goals as goal

pub returns-then-is_proper-clause-paths : goal.returns-then-is_proper-clause-paths
returns-then-is_proper-clause-paths c = row_closed c.args.row.now
