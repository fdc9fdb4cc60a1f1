-- The zone that following an edge leads to.
use Rattle.std.specs.Prelude.{ℕ, true, false, List, [], ◌∷◌, pos, neg_ℤ, Ok, Err, Result}
use Rattle.sheet.specs.Automata.{Automaton, Edge, location}
use Rattle.sheet.specs.declared.atom.Atom.{Atom}
use Rattle.sheet.specs.declared.atom.Relation.{Relation}
use Rattle.sheet.specs.declared.atom.Relation.TheVariants.{Less, AtMost, Equal, AtLeast, Greater}
use Rattle.zone.specs.Calls.{Calls}
use Rattle.zone.specs.declared.constraint.Constraint.{Constraint}
use Rattle.zone.specs.declared.fault.ZoneFault.{ZoneFault}
pub use Rattle.zone.specs.Judging.{and_then}

-- x − 0 ≤ c, or < where strict
abbrev pub above : ℕ → ℕ → Constraint
above x c = record { i = x; j = 0; strict = false; constant = pos c }

abbrev pub strictly_above : ℕ → ℕ → Constraint
strictly_above x c = record { i = x; j = 0; strict = true; constant = pos c }

-- 0 − x ≤ −c, or < where strict
abbrev pub below : ℕ → ℕ → Constraint
below x c = record { i = 0; j = x; strict = false; constant = neg_ℤ (pos c) }

abbrev pub strictly_below : ℕ → ℕ → Constraint
strictly_below x c = record { i = 0; j = x; strict = true; constant = neg_ℤ (pos c) }

-- the constraints that an atom stands for, in the order in which they are applied
abbrev pub constraints_by : Relation → ℕ → ℕ → List Constraint
constraints_by Less x c = strictly_above x c ∷ []
constraints_by AtMost x c = above x c ∷ []
constraints_by Equal x c = above x c ∷ below x c ∷ []
constraints_by AtLeast x c = below x c ∷ []
constraints_by Greater x c = strictly_below x c ∷ []

abbrev pub constraints_of : Atom → List Constraint
constraints_of atom = constraints_by atom.relation atom.clock atom.constant

module _ {Z Row : Type 0} (calls : Calls Z Row) where
  abbrev pub all_constrained : Z → List Constraint → Result Z ZoneFault
  all_constrained z [] = Ok z
  all_constrained z (c ∷ cs) = and_then (calls.constrained z c) (λ y. all_constrained y cs)

  -- under the atoms in their order
  abbrev pub limited : Z → List Atom → Result Z ZoneFault
  limited z [] = Ok z
  limited z (atom ∷ atoms) = and_then (all_constrained z (constraints_of atom)) (λ y. limited y atoms)

  abbrev pub all_reset : Z → List ℕ → Result Z ZoneFault
  all_reset z [] = Ok z
  all_reset z (x ∷ xs) = and_then (calls.reset z x) (λ y. all_reset y xs)

  -- time, the source's limit, the guard, the resets, and the target's limit
  abbrev pub followed : Automaton → Z → Edge → Result Z ZoneFault
  followed a z e =
      and_then (limited (calls.elapsed z) (location a e.source).limit) λ y.
      and_then (limited y e.guard) λ x.
      and_then (all_reset x e.resets) λ w.
      limited w (location a e.target).limit
