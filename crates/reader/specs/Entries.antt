-- A record as its kind and the bytes of its body.
use Rattle.std.specs.Prelude.{ℕ, cond, List, [], ◌∷◌, length, take, Some, None, Option, nat_le}
use Rattle.reader.specs.Kinds.{byte_of, body_length}
use Rattle.reader.specs.declared.kind.Kind.{Kind}
use Rattle.reader.specs.declared.kind.Kind.TheVariants as kind
use Rattle.reader.specs.declared.record.Record.{Record}
use Rattle.reader.specs.declared.record.Record.TheVariants.{Head, Accepting, Limit, Edge, Guard, SheetEnd, Book, Node, Bound, FileEnd}

pub record Entry : Type 0 where
  pub kind : Kind
  pub body : List ℕ

abbrev pub entry : Kind → List ℕ → Entry
entry k body = record { kind = k; body = body }

-- the bytes of a record
abbrev pub encoded : Entry → List ℕ
encoded e = byte_of e.kind ∷ e.body

-- the record of kind k whose body begins the bytes `after`, if they hold all of it
abbrev pub cut : Kind → List ℕ → Option Entry
cut k after = cond (nat_le (body_length k) (length after)) (Some (entry k (take (body_length k) after))) None

-- what a `Record` of the code stands for
abbrev pub entry_of : Record → Entry
entry_of (Head body) = entry kind.Head body.now
entry_of (Accepting body) = entry kind.Accepting body.now
entry_of (Limit body) = entry kind.Limit body.now
entry_of (Edge body) = entry kind.Edge body.now
entry_of (Guard body) = entry kind.Guard body.now
entry_of SheetEnd = entry kind.SheetEnd []
entry_of (Book body) = entry kind.Book body.now
entry_of (Node body) = entry kind.Node body.now
entry_of (Bound body) = entry kind.Bound body.now
entry_of FileEnd = entry kind.FileEnd []
