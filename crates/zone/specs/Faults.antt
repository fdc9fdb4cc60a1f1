-- The ground of every refusal of a zone.
use Rattle.reader.specs.declared.ground.Ground.{Ground}
use Rattle.reader.specs.declared.ground.Ground.TheVariants as ground
use Rattle.zone.specs.declared.fault.ZoneFault.{ZoneFault}
use Rattle.zone.specs.declared.fault.ZoneFault.TheVariants.{OutOfRange, NoDifferences, TooWide}

abbrev pub ground_of : ZoneFault → Ground
ground_of OutOfRange = ground.OutOfRange
ground_of NoDifferences = ground.NoDifferences
ground_of TooWide = ground.TooWide
