-- The text of each line that the lister prints.
use Rattle.std.specs.Prelude.{ℕ, List, ◌++◌, Ok, Err, codes, decimal}
use Rattle.std.proofs.Math.Utf8.{encode}
use Rattle.std.specs.Fmt.{signed_decimal}
use Rattle.reader.specs.Faults.{ground_of, offset_of}
use Rattle.reader.specs.Grounds.{number_of, letter_of}
use Rattle.reader.specs.declared.fields.Fields.{Fields}
use Rattle.reader.specs.declared.fields.Fields.TheVariants.{Head, Accepting, Limit, Edge, Guard, SheetEnd, Book, Node, Bound, FileEnd}
use Rattle.reader.specs.declared.ground.Layer.TheVariants as layer
use Rattle.reader.specs.Endings.{Ending}

-- a record by its kind, and its fields by name
abbrev pub described : Fields → List ℕ
described (Head clocks locations start) = codes " head clocks=" ++ (decimal clocks ++ (codes " locations=" ++ (decimal locations ++ (codes " start=" ++ decimal start))))
described (Accepting location) = codes " accepting location=" ++ decimal location
described (Limit location clock relation constant) = codes " limit location=" ++ (decimal location ++ (codes " clock=" ++ (decimal clock ++ (codes " relation=" ++ (decimal relation ++ (codes " constant=" ++ decimal constant))))))
described (Edge source target zeros) = codes " edge source=" ++ (decimal source ++ (codes " target=" ++ (decimal target ++ (codes " zeros=" ++ decimal zeros))))
described (Guard clock relation constant) = codes " guard clock=" ++ (decimal clock ++ (codes " relation=" ++ (decimal relation ++ (codes " constant=" ++ decimal constant))))
described SheetEnd = codes " sheet end"
described (Book zone_kind question) = codes " book zone-kind=" ++ (decimal zone_kind ++ (codes " question=" ++ decimal question))
described (Node place location number) = codes " node place=" ++ (decimal place ++ (codes " location=" ++ (decimal location ++ (codes " number=" ++ decimal number))))
described (Bound i j strict constant) = codes " bound i=" ++ (decimal i ++ (codes " j=" ++ (decimal j ++ (codes " strict=" ++ (decimal strict ++ (codes " constant=" ++ signed_decimal constant))))))
described FileEnd = codes " file end"

abbrev pub record_line : ℕ → Fields → List ℕ
record_line offset fields = decimal offset ++ described fields

abbrev pub ending_line : Ending → List ℕ
ending_line (Ok done) = codes "END"
ending_line (Err f) = codes "REFUSED " ++ (decimal (number_of (ground_of f)) ++ (codes " " ++ (encode (letter_of layer.File) ++ (codes " " ++ decimal (offset_of f)))))
