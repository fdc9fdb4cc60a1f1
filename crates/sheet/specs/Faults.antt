-- The ground and the layer of every refusal of a draft.
use Rattle.std.specs.Prelude.{Some, None, Option}
use Rattle.reader.specs.Faults as reader
use Rattle.reader.specs.declared.ground.Ground.{Ground}
use Rattle.reader.specs.declared.ground.Ground.TheVariants as ground
use Rattle.reader.specs.declared.ground.Layer.{Layer}
use Rattle.reader.specs.declared.ground.Layer.TheVariants as layer
use Rattle.sheet.specs.declared.fault.SheetFault.{SheetFault}
use Rattle.sheet.specs.declared.fault.SheetFault.TheVariants.{File, OutOfPlace, OutOfRange, TooMany, StartOutsideLimit, Memory}

abbrev pub ground_of : SheetFault → Option Ground
ground_of (File fault) = Some (reader.ground_of fault)
ground_of OutOfPlace = Some ground.OutOfPlace
ground_of OutOfRange = Some ground.OutOfRange
ground_of TooMany = Some ground.TooMany
ground_of StartOutsideLimit = Some ground.StartOutsideLimit
ground_of (Memory error) = None

abbrev pub layer_of : SheetFault → Option Layer
layer_of (File fault) = Some layer.File
layer_of OutOfPlace = Some layer.File
layer_of OutOfRange = Some layer.Sheet
layer_of TooMany = Some layer.Sheet
layer_of StartOutsideLimit = Some layer.Sheet
layer_of (Memory error) = None
