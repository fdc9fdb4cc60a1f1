-- How a clock and a constraint are judged before a zone is changed.
use Rattle.std.specs.Prelude.{ℕ, Bool, cond, not, ◌&&◌, Ok, Err, Result, nat_le}
use Rattle.zone.specs.declared.constraint.Constraint.{Constraint}
use Rattle.zone.specs.declared.fault.ZoneFault.{ZoneFault}
use Rattle.zone.specs.declared.fault.ZoneFault.TheVariants.{OutOfRange, NoDifferences}
use Rattle.zone.specs.Laws.{in_range, difference}

-- in a zone of n clocks, of a kind that holds differences or does not
abbrev pub judged : ℕ → Bool → Constraint → Result (Unit {0}) ZoneFault
judged n differences c = cond (in_range n c) (cond (not differences && difference c) (Err NoDifferences) (Ok tt)) (Err OutOfRange)

-- a clock of 1 to n, in a zone of n clocks
abbrev pub judged_clock : ℕ → ℕ → Result (Unit {0}) ZoneFault
judged_clock n x = cond (nat_le 1 x && nat_le x n) (Ok tt) (Err OutOfRange)

-- what comes after an answer that refuses nothing
abbrev pub and_then : {X Y E : Type 0} → Result X E → (X → Result Y E) → Result Y E
and_then (Ok x) f = f x
and_then (Err e) f = Err e
