-- The automaton that a list of records describes.
use Rattle.std.specs.Prelude.{ℕ, Bool, false, cond, ◌&&◌, ◌||◌, List, [], ◌∷◌, map, length, Some, None, filter, Option, ◌==◌}
use Rattle.std.specs.List.{range_with_len}
use Rattle.reader.specs.Entries.{Entry}
use Rattle.reader.specs.declared.kind.Kind.{Kind}
use Rattle.reader.specs.declared.kind.Kind.TheVariants as kind
use Rattle.sheet.specs.Automata.{Location, Edge, Automaton}
use Rattle.sheet.specs.Fields.{is, field, atom_at, clocks_named}
use Rattle.sheet.specs.Sheets.{blank_automaton}
use Rattle.sheet.specs.declared.atom.Atom.{Atom}

-- some record passes the test
abbrev pub any : (Entry → Bool) → List Entry → Bool
any test [] = false
any test (e ∷ es) = test e || any test es

-- how many records are of kind k
abbrev pub count : Kind → List Entry → ℕ
count k es = length (filter (is k) es)

-- the first head
abbrev pub head_of : List Entry → Option Entry
head_of [] = None
head_of (e ∷ es) = cond (is kind.Head e) (Some e) (head_of es)

-- the record is of kind k and names location l
abbrev pub concerns : Kind → ℕ → Entry → Bool
concerns k l e = is k e && field e 0 == l

-- location l: accepting if some accepting record names it, and limited by the atoms of its limit records
abbrev pub described_location : List Entry → ℕ → Location
described_location es l = record { accepting = any (concerns kind.Accepting l) es; limit = map (atom_at 1) (filter (concerns kind.Limit l) es) }

-- the atoms of the guard records that come before the next edge record
abbrev pub guard_before_edge : List Entry → List Atom
guard_before_edge [] = []
guard_before_edge (e ∷ es) = cond (is kind.Edge e) [] (cond (is kind.Guard e) (atom_at 0 e ∷ guard_before_edge es) (guard_before_edge es))

-- the edge of an edge record, with the guard that the records after it give
abbrev pub described_edge : Entry → List Entry → Edge
described_edge e after = record { source = field e 0; target = field e 1; resets = clocks_named (field e 2); guard = guard_before_edge after }

abbrev pub described_edges : List Entry → List Edge
described_edges [] = []
described_edges (e ∷ es) = cond (is kind.Edge e) (described_edge e es ∷ described_edges es) (described_edges es)

abbrev pub described_by : Option Entry → List Entry → Automaton
described_by None es = blank_automaton
described_by (Some head) es = record { clocks = field head 0; start = field head 2; locations = map (described_location es) (range_with_len 0 (field head 1)); edges = described_edges es }

-- the automaton that records describe, which is blank without a head
abbrev pub described : List Entry → Automaton
described es = described_by (head_of es) es
