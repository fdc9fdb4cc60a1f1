use Rattle.std.proofs.Common.{refl}
use Rattle.zone.specs.BoxZones.{zone_is}
use Rattle.zone.proofs.boxed.BoxZone.of.Goals as goal

pub returns : goal.returns
returns c = zone_is _ c.args.row refl
