-- The ground and the offset of every refusal of the file layer.
use Rattle.std.specs.Prelude.{ℕ}
use Rattle.reader.specs.declared.fault.FileFault.{FileFault}
use Rattle.reader.specs.declared.fault.FileFault.TheVariants as fault
use Rattle.reader.specs.declared.ground.Ground.{Ground}
use Rattle.reader.specs.declared.ground.Ground.TheVariants as ground

abbrev pub ground_of : FileFault → Ground
ground_of (fault.UnknownKind offset) = ground.UnknownKind
ground_of (fault.Truncated offset) = ground.Truncated
ground_of (fault.OutOfPlace offset) = ground.OutOfPlace
ground_of fault.TooLong = ground.TooMany

abbrev pub offset_of : FileFault → ℕ
offset_of (fault.UnknownKind offset) = offset
offset_of (fault.Truncated offset) = offset
offset_of (fault.OutOfPlace offset) = offset
offset_of fault.TooLong = 0
