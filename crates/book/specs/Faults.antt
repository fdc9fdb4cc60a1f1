-- The ground, the layer, the place and the edge of every refusal of a book.
use Rattle.std.specs.Prelude.{ℕ, Some, None, Option}
use Rattle.reader.specs.declared.ground.Ground.{Ground}
use Rattle.reader.specs.declared.ground.Ground.TheVariants as ground
use Rattle.reader.specs.declared.ground.Layer.{Layer}
use Rattle.reader.specs.declared.ground.Layer.TheVariants as layer
use Rattle.zone.specs.Faults as zones
use Rattle.zone.specs.declared.fault.ZoneFault.{ZoneFault}
use Rattle.zone.specs.declared.fault.ZoneFault.TheVariants as zone_fault
use Rattle.book.specs.declared.fault.BookFault.{BookFault}
use Rattle.book.specs.declared.fault.BookFault.TheVariants.{OutOfRange, PlaceTaken, PlaceVacant, EmptyZone, NotAdmitted, Uncovered, MarkedUncovered, StartUncovered, Unmarked, Zone}

abbrev pub ground_of : BookFault → Ground
ground_of OutOfRange = ground.OutOfRange
ground_of (PlaceTaken place) = ground.PlaceTaken
ground_of PlaceVacant = ground.PlaceVacant
ground_of (EmptyZone place) = ground.EmptyZone
ground_of (NotAdmitted place) = ground.NotAdmitted
ground_of (Uncovered place edge) = ground.Uncovered
ground_of (MarkedUncovered place edge) = ground.MarkedUncovered
ground_of StartUncovered = ground.StartUncovered
ground_of (Unmarked place) = ground.Unmarked
ground_of (Zone fault place edge) = zones.ground_of fault

abbrev pub layer_of : BookFault → Layer
layer_of OutOfRange = layer.Book
layer_of (PlaceTaken place) = layer.Book
layer_of PlaceVacant = layer.Book
layer_of (EmptyZone place) = layer.Book
layer_of (NotAdmitted place) = layer.Book
layer_of (Uncovered place edge) = layer.Book
layer_of (MarkedUncovered place edge) = layer.Book
layer_of StartUncovered = layer.Book
layer_of (Unmarked place) = layer.Book
layer_of (Zone fault place edge) = layer.Zone

-- x, where the zone's refusal names the node and the edge
abbrev pub named_by : {X : Type 0} → ZoneFault → X → Option X
named_by zone_fault.OutOfRange x = None
named_by zone_fault.NoDifferences x = Some x
named_by zone_fault.TooWide x = Some x

abbrev pub place_of : BookFault → Option ℕ
place_of OutOfRange = None
place_of (PlaceTaken place) = Some place
place_of PlaceVacant = None
place_of (EmptyZone place) = Some place
place_of (NotAdmitted place) = Some place
place_of (Uncovered place edge) = Some place
place_of (MarkedUncovered place edge) = Some place
place_of StartUncovered = None
place_of (Unmarked place) = Some place
place_of (Zone fault place edge) = named_by fault place

abbrev pub edge_of : BookFault → Option ℕ
edge_of OutOfRange = None
edge_of (PlaceTaken place) = None
edge_of PlaceVacant = None
edge_of (EmptyZone place) = None
edge_of (NotAdmitted place) = None
edge_of (Uncovered place edge) = Some edge
edge_of (MarkedUncovered place edge) = Some edge
edge_of StartUncovered = None
edge_of (Unmarked place) = None
edge_of (Zone fault place edge) = named_by fault edge
