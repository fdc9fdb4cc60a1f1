use Rattle.std.proofs.Common.{refl}
use Rattle.zone.specs.Zones.{zone_is}
use Rattle.zone.proofs.difference.DifferenceZone.of.Goals as goal

pub returns : goal.returns
returns c = zone_is _ c.args.row refl
