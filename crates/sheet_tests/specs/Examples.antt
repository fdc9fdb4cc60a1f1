-- A sheet of one clock x and two locations: x ≤ 5 at the start, and an edge to the accepting location that needs x ≥ 2 and sets x to zero.
use Rattle.std.specs.Prelude.{true, false, [], ◌∷◌}
use Rattle.sheet.specs.Automata.{Automaton}
use Rattle.sheet.specs.declared.atom.Relation.TheVariants.{AtMost, AtLeast}

abbrev pub example_automaton : Automaton
example_automaton = record {
  clocks = 1;
  start = 0;
  locations =
      record { accepting = false; limit = record { clock = 1; relation = AtMost; constant = 5 } ∷ [] }
      ∷ record { accepting = true; limit = [] }
      ∷ [];
  edges = record { source = 0; target = 1; resets = 1 ∷ []; guard = record { clock = 1; relation = AtLeast; constant = 2 } ∷ [] } ∷ [];
}
