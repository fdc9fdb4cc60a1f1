-- What a record is to a certificate.
use Rattle.std.specs.Prelude.{ℕ, ℤ}
use Rattle.reader.specs.Entries.{Entry}
use Rattle.reader.specs.Fields.{fields_of}
use Rattle.reader.specs.declared.fields.Fields.{Fields}
use Rattle.reader.specs.declared.fields.Fields.TheVariants.{Head, Accepting, Limit, Edge, Guard, SheetEnd, Book, Node, Bound, FileEnd}

pub data Part : Type 0 where
  book : (kind question : ℕ) → Part
  node : (place location number : ℕ) → Part
  bound : (i j strict : ℕ) → ℤ → Part
  end : Part
  -- a record of the sheet
  other : Part

abbrev pub part_by : Fields → Part
part_by (Book kind question) = book kind question
part_by (Node place location number) = node place location number
part_by (Bound i j strict constant) = bound i j strict constant
part_by FileEnd = end
part_by (Head clocks locations start) = other
part_by (Accepting location) = other
part_by (Limit location clock relation constant) = other
part_by (Edge source target zeros) = other
part_by (Guard clock relation constant) = other
part_by SheetEnd = other

abbrev pub part_of : Entry → Part
part_of e = part_by (fields_of e)
