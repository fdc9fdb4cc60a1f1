-- The number of every ground of refusal and the letter of every layer.
use Rattle.std.specs.Prelude.{ℕ}
use Rattle.reader.specs.declared.ground.Ground.{Ground}
use Rattle.reader.specs.declared.ground.Ground.TheVariants.{UnknownKind, Truncated, OutOfPlace, OutOfRange, TooMany, StartOutsideLimit, PlaceTaken, PlaceVacant, NoDifferences, TooWide, EmptyZone, NotAdmitted, Uncovered, MarkedUncovered, StartUncovered, Unmarked}
use Rattle.reader.specs.declared.ground.Layer.{Layer}
use Rattle.reader.specs.declared.ground.Layer.TheVariants.{File, Sheet, Zone, Book}

abbrev pub number_of : Ground → ℕ
number_of UnknownKind = 1
number_of Truncated = 2
number_of OutOfPlace = 3
number_of OutOfRange = 4
number_of TooMany = 5
number_of StartOutsideLimit = 6
number_of PlaceTaken = 7
number_of PlaceVacant = 8
number_of NoDifferences = 9
number_of TooWide = 10
number_of EmptyZone = 11
number_of NotAdmitted = 12
number_of Uncovered = 13
number_of MarkedUncovered = 14
number_of StartUncovered = 15
number_of Unmarked = 16

-- the letters F, S, Z and B, as character codes
abbrev pub letter_of : Layer → ℕ
letter_of File = 70
letter_of Sheet = 83
letter_of Zone = 90
letter_of Book = 66
