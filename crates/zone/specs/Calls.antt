-- The calls of a zone kind as functions, and the meaning of its zones.
use Rattle.std.specs.Prelude.{ℕ, Bool, Result}
use Rattle.zone.specs.declared.constraint.Constraint.{Constraint}
use Rattle.zone.specs.declared.fault.ZoneFault.{ZoneFault}
use Rattle.zone.specs.Valuations.{Valuation}

pub record Calls (Z Row : Type 0) : Type 1 where
  -- the valuations of a zone at k ticks to the unit
  pub holds : Z → ℕ → Valuation → Type 0
  pub differences : Bool
  pub clocks : Z → ℕ
  pub whole : ℕ → Z
  -- the empty zone of one clock
  pub void : Z
  pub constrained : Z → Constraint → Result Z ZoneFault
  pub elapsed : Z → Z
  pub reset : Z → ℕ → Result Z ZoneFault
  pub empty : Z → Bool
  pub within : Z → Z → Bool
  pub holds_zero : Z → Bool
  pub row : Z → Row
  pub of_row : Row → Z
