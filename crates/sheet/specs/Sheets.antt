-- The automaton of a sheet.
use Rattle.std.specs.Prelude.{false, [], map, vec_items}
use Rattle.sheet.specs.Automata.{Location, Edge, Automaton}
use Rattle.sheet.specs.declared.edge.Edge as code_edge
use Rattle.sheet.specs.declared.sheet.Location as code_location
use Rattle.sheet.specs.declared.sheet.Sheet.{Sheet}

abbrev pub location_of : code_location.Location → Location
location_of l = record { accepting = l.accepting; limit = vec_items l.limit }

abbrev pub edge_of : code_edge.Edge → Edge
edge_of e = record { source = e.source; target = e.target; resets = vec_items e.resets; guard = vec_items e.guard }

-- a location without a limit that is not accepting
abbrev pub plain : Location
plain = record { accepting = false; limit = [] }

abbrev pub automaton_of : Sheet → Automaton
automaton_of s = record { clocks = s.clocks; start = s.start; locations = map location_of (vec_items s.locations); edges = map edge_of (vec_items s.edges) }

-- the automaton of one clock and no locations
abbrev pub blank_automaton : Automaton
blank_automaton = record { clocks = 1; start = 0; locations = []; edges = [] }
