-- The stage that a sequence of records leaves, and the stage after one more.
use Rattle.std.specs.Prelude.{◌≡◌, true, false, cond, List, [], ◌∷◌, ◌++◌, Some, None, Option, ◌==◌}
use Rattle.reader.specs.Kinds.{byte_of}
use Rattle.reader.specs.Order.{has, allowed}
use Rattle.reader.specs.declared.kind.Kind.{Kind}
use Rattle.reader.specs.declared.kind.Kind.TheVariants as kind
use Rattle.reader.specs.declared.stage.Stage.{Stage}
use Rattle.reader.specs.declared.stage.Stage.TheVariants.{Start, Sheet, Edges, Sealed, Book, Nodes, Ended}

-- the stage that records of kinds ks leave
abbrev pub stage_of : List Kind → Stage
stage_of ks =
    cond (has kind.FileEnd ks) Ended
    (cond (has kind.Node ks) Nodes
    (cond (has kind.Book ks) Book
    (cond (has kind.SheetEnd ks) Sealed
    (cond (has kind.Edge ks) Edges
    (cond (has kind.Head ks) Sheet Start)))))

-- r is the stage after those of kinds `before` and one of kind k, where that may come
abbrev pub Follows : List Kind → Kind → Option Stage → Type 0
Follows before k None = allowed before k ≡ false
Follows before k (Some s) = (allowed before k ≡ true) × (stage_of (before ++ k ∷ []) ≡ s)

-- the kinds that may come at each stage, with the stage after each
abbrev pub moves : Stage → List (Kind × Stage)
moves Start = (kind.Head, Sheet) ∷ []
moves Sheet = (kind.Accepting, Sheet) ∷ (kind.Limit, Sheet) ∷ (kind.Edge, Edges) ∷ (kind.SheetEnd, Sealed) ∷ []
moves Edges = (kind.Accepting, Edges) ∷ (kind.Limit, Edges) ∷ (kind.Edge, Edges) ∷ (kind.Guard, Edges) ∷ (kind.SheetEnd, Sealed) ∷ []
moves Sealed = (kind.Book, Book) ∷ []
moves Book = (kind.Node, Nodes) ∷ (kind.FileEnd, Ended) ∷ []
moves Nodes = (kind.Node, Nodes) ∷ (kind.Bound, Nodes) ∷ (kind.FileEnd, Ended) ∷ []
moves Ended = []

-- the stage that a list of moves gives for kind k
abbrev pub moved_by : Kind → List (Kind × Stage) → Option Stage
moved_by k [] = None
moved_by k (m ∷ ms) = cond (byte_of k == byte_of m.0) (Some m.1) (moved_by k ms)

-- the stage after s and a record of kind k, where that may come
abbrev pub next_stage : Stage → Kind → Option Stage
next_stage s k = moved_by k (moves s)
