-- The fields of each kind of record, by name and value.
use Rattle.std.specs.Prelude.{ℕ, ◌+◌, ◌*◌, List, ℤ, slice_index}
use Rattle.std.specs.Int.{w16}
use Rattle.std.proofs.Common.{to_z}
use Rattle.reader.specs.Entries.{Entry}
use Rattle.reader.specs.declared.fields.Fields.{Fields}
use Rattle.reader.specs.declared.fields.Fields.TheVariants.{Head, Accepting, Limit, Edge, Guard, SheetEnd, Book, Node, Bound, FileEnd}
use Rattle.reader.specs.declared.kind.Kind.{Kind}
use Rattle.reader.specs.declared.kind.Kind.TheVariants as kind

-- byte i of a body
abbrev pub byte : List ℕ → ℕ → ℕ
byte body i = slice_index body i

-- the number in bytes i and j of a body, the low byte and the high byte
abbrev pub word : List ℕ → ℕ → ℕ → ℕ
word body i j = byte body i + byte body j * 256

-- the same as a signed number, in two's complement
abbrev pub signed_word : List ℕ → ℕ → ℕ → ℤ
signed_word body i j = to_z w16 (word body i j)

abbrev pub fields_in : Kind → List ℕ → Fields
fields_in kind.Head b = Head (byte b 0) (byte b 1) (byte b 2)
fields_in kind.Accepting b = Accepting (byte b 0)
fields_in kind.Limit b = Limit (byte b 0) (byte b 1) (byte b 2) (word b 3 4)
fields_in kind.Edge b = Edge (byte b 0) (byte b 1) (byte b 2)
fields_in kind.Guard b = Guard (byte b 0) (byte b 1) (word b 2 3)
fields_in kind.SheetEnd b = SheetEnd
fields_in kind.Book b = Book (byte b 0) (byte b 1)
fields_in kind.Node b = Node (byte b 0) (byte b 1) (word b 2 3)
fields_in kind.Bound b = Bound (byte b 0) (byte b 1) (byte b 2) (signed_word b 3 4)
fields_in kind.FileEnd b = FileEnd

abbrev pub fields_of : Entry → Fields
fields_of e = fields_in e.kind e.body
