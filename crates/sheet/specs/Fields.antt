-- The fields of a record.
use Rattle.std.specs.Prelude.{ℕ, ◌+◌, ◌-◌, ◌*◌, ◌/◌, ◌%◌, ◌^◌, Bool, List, filter, ◌==◌, slice_index}
use Rattle.std.specs.List.{range_with_len}
use Rattle.std.specs.Option.{unwrap_or}
use Rattle.reader.specs.Entries.{Entry}
use Rattle.reader.specs.Kinds.{byte_of}
use Rattle.reader.specs.declared.kind.Kind.{Kind}
use Rattle.sheet.specs.Relations.{relation_of}
use Rattle.sheet.specs.declared.atom.Atom.{Atom}
use Rattle.sheet.specs.declared.atom.Relation.TheVariants.{Less}

-- the record is of kind k
abbrev pub is : Kind → Entry → Bool
is k e = byte_of k == byte_of e.kind

-- byte i of the body
abbrev pub field : Entry → ℕ → ℕ
field e i = slice_index e.body i

-- the two-byte number that begins at byte i, low byte first
abbrev pub wide : Entry → ℕ → ℕ
wide e i = field e i + field e (i + 1) * 256

-- the atom of a clock, the number of a relation, and a constant
abbrev pub atom_of : ℕ → ℕ → ℕ → Atom
atom_of clock relation constant = record { clock = clock; relation = unwrap_or (relation_of relation) Less; constant = constant }

-- the atom that begins at byte i
abbrev pub atom_at : ℕ → Entry → Atom
atom_at i e = atom_of (field e i) (field e (i + 1)) (wide e (i + 2))

-- bit x − 1 of a byte stands for clock x
abbrev pub names : ℕ → ℕ → Bool
names byte x = byte / 2 ^ (x - 1) % 2 == 1

-- the clocks that a byte names, in ascending order
unfoldable pub clocks_named : ℕ → List ℕ
clocks_named byte = filter (names byte) (range_with_len 1 8)
