-- The byte and the body length of every kind of record.
use Rattle.std.specs.Prelude.{ℕ, cond, List, [], ◌∷◌, Some, None, Option, Result, ◌==◌, ok_or}
use Rattle.reader.specs.declared.kind.Kind.{Kind}
use Rattle.reader.specs.declared.kind.UnknownByte.{UnknownByte}
use Rattle.reader.specs.declared.kind.Kind.TheVariants.{Head, Accepting, Limit, Edge, Guard, SheetEnd, Book, Node, Bound, FileEnd}

-- the byte that begins a record
abbrev pub byte_of : Kind → ℕ
byte_of Head = 0x01
byte_of Accepting = 0x02
byte_of Limit = 0x03
byte_of Edge = 0x04
byte_of Guard = 0x05
byte_of SheetEnd = 0x06
byte_of Book = 0x10
byte_of Node = 0x11
byte_of Bound = 0x12
byte_of FileEnd = 0x1f

-- the number of bytes after it
abbrev pub body_length : Kind → ℕ
body_length Head = 3
body_length Accepting = 1
body_length Limit = 5
body_length Edge = 3
body_length Guard = 4
body_length SheetEnd = 0
body_length Book = 2
body_length Node = 4
body_length Bound = 5
body_length FileEnd = 0

abbrev pub all_kinds : List Kind
all_kinds = Head ∷ Accepting ∷ Limit ∷ Edge ∷ Guard ∷ SheetEnd ∷ Book ∷ Node ∷ Bound ∷ FileEnd ∷ []

-- the first of some kinds that begins with byte b
abbrev pub kind_among : ℕ → List Kind → Option Kind
kind_among b [] = None
kind_among b (k ∷ ks) = cond (b == byte_of k) (Some k) (kind_among b ks)

-- the kind that begins with byte b
abbrev pub kind_of : ℕ → Option Kind
kind_of b = kind_among b all_kinds

-- the same as a result, with a byte that begins no record as the error
abbrev pub kind_from : ℕ → Result Kind UnknownByte
kind_from b = ok_or (kind_of b) (record { 0 = b })
