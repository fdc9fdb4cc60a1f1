-- The zone of one clock at 0 is what the laws of its kind say.
use Rattle.std.proofs.Common.{◌≡◌, false, Ok, Err, Result, IfOk, pos, sym, ◌∙◌, refl, arith}
use Rattle.bookwalk.specs.Walks.{at_zero, IsAtZero}
use Rattle.zone.specs.DifferenceCalls.{difference_calls}
use Rattle.zone.specs.DifferenceLaws.{difference_laws}
use Rattle.zone.specs.declared.constraint.Constraint.{Constraint}
use Rattle.zone.specs.declared.difference.DifferenceZone.{DifferenceZone}
use Rattle.zone.specs.declared.fault.ZoneFault.{ZoneFault}

abbrev pub at_most_zero : Constraint
at_most_zero = record { i = 1; j = 0; strict = false; constant = pos 0 }

pub at_zero_is : (r : Result DifferenceZone ZoneFault) → r ≡ at_zero → IfOk r IsAtZero
at_zero_is (Ok z) e = record {
  clocks = difference_laws.constrained_clocks (difference_calls.whole 1) z at_most_zero (sym e) ∙ difference_laws.whole_clocks 1 refl;
  holds = λ k v h zero. difference_laws.constrained_holds (difference_calls.whole 1) z at_most_zero k v (sym e) h (difference_laws.whole_holds 1 k v refl h) (omega arith);
}
at_zero_is (Err fault) e = tt
