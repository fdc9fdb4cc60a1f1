-- What a record adds to a draft.
use Rattle.std.specs.Prelude.{◌≡◌, ℕ, ◌+◌, ◌<◌, true, ◌&&◌, List, [], ◌∷◌, ◌++◌, length, replicate, is_some, Some, None, Ok, Err, Option, Result, slice_index_or, slice_set}
use Rattle.reader.specs.Entries.{Entry}
use Rattle.reader.specs.Stages.{next_stage}
use Rattle.reader.specs.declared.kind.Kind.{Kind}
use Rattle.reader.specs.declared.kind.Kind.TheVariants as kind
use Rattle.reader.specs.declared.stage.Stage.TheVariants as stage
use Rattle.sheet.specs.Automata.{Location, Edge}
use Rattle.sheet.specs.Fields.{field, atom_at, clocks_named}
use Rattle.sheet.specs.Judged.{drafted, fits, room, refusal_by}
use Rattle.sheet.specs.Sheets.{plain}
use Rattle.sheet.specs.Taken.{Contents}
use Rattle.sheet.specs.declared.atom.Atom.{Atom}
use Rattle.sheet.specs.declared.fault.SheetFault.{SheetFault}
use Rattle.sheet.specs.declared.fault.SheetFault.TheVariants.{Memory}
use Rattle.sheet.specs.declared.part.Head.{Head}
use Rattle.sheet.specs.declared.part.NewEdge.{NewEdge}
use Rattle.sheet.specs.declared.part.Part.{Part}
use Rattle.sheet.specs.declared.part.Part.TheVariants as part

-- the refusal that record e meets in a draft, if any
abbrev pub refusal_in : Contents → Entry → Option SheetFault
refusal_in c e =
    refusal_by
    (drafted e.kind && is_some (next_stage c.stage e.kind))
    (fits c.automaton.clocks (length c.automaton.locations) e.kind e)
    (room (length c.automaton.edges) c.limit_atoms c.guard_atoms e.kind)

-- the fields of a head record
abbrev pub head_at : Entry → Head
head_at e = record { clocks = field e 0; locations = field e 1; start = field e 2 }

-- the fields of an edge record
abbrev pub edge_at : Entry → NewEdge
edge_at e = record { source = field e 0; target = field e 1; zeros = field e 2 }

-- what a record of kind k adds to a draft
abbrev pub part_by : Kind → Entry → Option Part
part_by kind.Head e = Some (part.Head (head_at e))
part_by kind.Accepting e = Some (part.Accepting (field e 0))
part_by kind.Limit e = Some (part.Limit (field e 0) (atom_at 1 e))
part_by kind.Edge e = Some (part.Edge (edge_at e))
part_by kind.Guard e = Some (part.Guard (atom_at 0 e))
part_by kind.SheetEnd e = None
part_by kind.Book e = None
part_by kind.Node e = None
part_by kind.Bound e = None
part_by kind.FileEnd e = None

-- the counters are below their bounds where the part raises one
abbrev pub Room : Contents → Part → Type 0
Room c (part.Head head) = Unit {0}
Room c (part.Accepting l) = Unit {0}
Room c (part.Limit l atom) = c.limit_atoms < 64
Room c (part.Edge edge) = Unit {0}
Room c (part.Guard atom) = c.guard_atoms < 256

-- what judging record e answers
abbrev pub Judges : Contents → Entry → Result Part SheetFault → Type 0
Judges c e (Ok p) = (refusal_in c e ≡ None) × (part_by e.kind e ≡ Some p) × Room c p
Judges c e (Err fault) = refusal_in c e ≡ Some fault

abbrev pub accepted : Location → Location
accepted l = record { accepting = true; limit = l.limit }

abbrev pub limited : Atom → Location → Location
limited atom l = record { accepting = l.accepting; limit = l.limit ++ atom ∷ [] }

-- location l changed by f
abbrev pub with_location : (Location → Location) → List Location → ℕ → List Location
with_location f ls l = slice_set ls l (f (slice_index_or ls l plain))

-- the atom added to the guard of the last edge
abbrev pub guarded : Atom → List Edge → List Edge
guarded atom [] = []
guarded atom (e ∷ []) = record { source = e.source; target = e.target; resets = e.resets; guard = e.guard ++ atom ∷ [] } ∷ []
guarded atom (e ∷ f ∷ es) = e ∷ guarded atom (f ∷ es)

-- what a draft holds with one more part
abbrev pub added : Contents → Part → Contents
added c (part.Head head) = record {
  stage = stage.Sheet;
  automaton = record { clocks = head.clocks; start = head.start; locations = replicate head.locations plain; edges = c.automaton.edges };
  limit_atoms = c.limit_atoms;
  guard_atoms = c.guard_atoms;
}
added c (part.Accepting l) = record {
  stage = c.stage;
  automaton = record { clocks = c.automaton.clocks; start = c.automaton.start; locations = with_location accepted c.automaton.locations l; edges = c.automaton.edges };
  limit_atoms = c.limit_atoms;
  guard_atoms = c.guard_atoms;
}
added c (part.Limit l atom) = record {
  stage = c.stage;
  automaton = record { clocks = c.automaton.clocks; start = c.automaton.start; locations = with_location (limited atom) c.automaton.locations l; edges = c.automaton.edges };
  limit_atoms = c.limit_atoms + 1;
  guard_atoms = c.guard_atoms;
}
added c (part.Edge edge) = record {
  stage = stage.Edges;
  automaton = record { clocks = c.automaton.clocks; start = c.automaton.start; locations = c.automaton.locations; edges = c.automaton.edges ++ record { source = edge.source; target = edge.target; resets = clocks_named edge.zeros; guard = [] } ∷ [] };
  limit_atoms = c.limit_atoms;
  guard_atoms = c.guard_atoms;
}
added c (part.Guard atom) = record {
  stage = c.stage;
  automaton = record { clocks = c.automaton.clocks; start = c.automaton.start; locations = c.automaton.locations; edges = guarded atom c.automaton.edges };
  limit_atoms = c.limit_atoms;
  guard_atoms = c.guard_atoms + 1;
}

-- what adding a part answers, and what the draft holds afterwards
abbrev pub Adds : Contents → Part → Result (Unit {0}) SheetFault → Contents → Type 0
Adds before p (Ok done) after = after ≡ added before p
Adds before p (Err fault) after = (fault ≡ Memory (record {})) × (after ≡ before)
