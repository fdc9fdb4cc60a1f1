-- Which sequences of records are in order.
use Rattle.std.specs.Prelude.{Bool, true, false, not, ◌&&◌, ◌||◌, List, [], ◌∷◌, ◌++◌, ◌==◌}
use Rattle.reader.specs.Kinds.{byte_of}
use Rattle.reader.specs.declared.kind.Kind.{Kind}
use Rattle.reader.specs.declared.kind.Kind.TheVariants.{Head, Accepting, Limit, Edge, Guard, SheetEnd, Book, Node, Bound, FileEnd}

-- a record of kind k is among those of kinds ks
abbrev pub has : Kind → List Kind → Bool
has k [] = false
has k (j ∷ js) = byte_of k == byte_of j || has k js

-- a record of kind k may come after those of kinds `before`
abbrev pub allowed : List Kind → Kind → Bool
allowed before Head = not (has Head before)
allowed before Accepting = has Head before && not (has SheetEnd before)
allowed before Limit = has Head before && not (has SheetEnd before)
allowed before Edge = has Head before && not (has SheetEnd before)
allowed before Guard = has Edge before && not (has SheetEnd before)
allowed before SheetEnd = has Head before && not (has SheetEnd before)
allowed before Book = has SheetEnd before && not (has Book before)
allowed before Node = has Book before && not (has FileEnd before)
allowed before Bound = has Node before && not (has FileEnd before)
allowed before FileEnd = has Book before && not (has FileEnd before)

-- after those of kinds `before`, each of the records ks may come in its turn
abbrev pub in_order : List Kind → List Kind → Bool
in_order before [] = true
in_order before (k ∷ ks) = allowed before k && in_order (before ++ k ∷ []) ks
