-- Timed automata.
use Rattle.std.specs.Prelude.{ℕ, Bool, false, List, [], slice_index_or}
use Rattle.sheet.specs.declared.atom.Atom.{Atom}

pub record Location : Type 0 where
  pub accepting : Bool
  pub limit : List Atom

-- an edge, the clocks that it sets to zero, and its guard
pub record Edge : Type 0 where
  pub source : ℕ
  pub target : ℕ
  pub resets : List ℕ
  pub guard : List Atom

-- clocks are numbered from 1, locations and edges from 0
pub record Automaton : Type 0 where
  pub clocks : ℕ
  pub start : ℕ
  pub locations : List Location
  pub edges : List Edge

-- location l; one past the last is not accepting and has no limit
abbrev pub location : Automaton → ℕ → Location
location a l = slice_index_or a.locations l (record { accepting = false; limit = [] })
