-- Whether a draft of some records is ready, and the automaton of the sheet that it is sealed to.
use Rattle.std.specs.Prelude.{ℕ, ◌<◌, Bool, cond, List, is_ok, Ok, Err, Result, ◌==◌, nat_le, nat_lt}
use Rattle.std.specs.List.{AllByRecursion, list_all}
use Rattle.reader.specs.Entries.{Entry}
use Rattle.reader.specs.Files.{kinds}
use Rattle.reader.specs.Order.{has}
use Rattle.reader.specs.declared.kind.Kind.TheVariants as kind
use Rattle.sheet.specs.Automata.{Automaton, location}
use Rattle.sheet.specs.Described.{described}
use Rattle.sheet.specs.Runs.{Holds, origin}
use Rattle.sheet.specs.Sheets.{blank_automaton}
use Rattle.sheet.specs.declared.atom.Atom.{Atom}
use Rattle.sheet.specs.declared.atom.Relation.{Relation}
use Rattle.sheet.specs.declared.atom.Relation.TheVariants.{Less, AtMost, Equal, AtLeast, Greater}
use Rattle.sheet.specs.declared.fault.SheetFault.{SheetFault}
use Rattle.sheet.specs.declared.fault.SheetFault.TheVariants.{File, OutOfPlace, OutOfRange, TooMany, StartOutsideLimit, Memory}

-- n compares with c by the relation
abbrev pub compares : Relation → ℕ → ℕ → Bool
compares Less n c = nat_lt n c
compares AtMost n c = nat_le n c
compares Equal n c = n == c
compares AtLeast n c = nat_le c n
compares Greater n c = nat_lt c n

-- every atom holds with all clocks at zero
abbrev pub hold_at_zero : List Atom → Bool
hold_at_zero = list_all (λ x. compares x.relation 0 x.constant)

-- whether a draft of the records es is ready: it has a head, and the limit of the start holds with all clocks at zero
abbrev pub readiness : List Entry → Result (Unit {0}) SheetFault
readiness es =
    cond (has kind.Head (kinds es))
    (cond (hold_at_zero (location (described es) (described es).start).limit) (Ok tt) (Err StartOutsideLimit))
    (Err OutOfPlace)

-- what a draft's answer on being ready says of the start's limit at any number k of ticks to the unit
abbrev pub Starts : Automaton → Result (Unit {0}) SheetFault → Type 0
Starts a (Ok done) = (k : ℕ) → 0 < k → AllByRecursion (Holds k origin) (location a a.start).limit
Starts a (Err StartOutsideLimit) = (k : ℕ) → 0 < k → AllByRecursion (Holds k origin) (location a a.start).limit → ⊥
Starts a (Err OutOfPlace) = Unit {0}
Starts a (Err OutOfRange) = Unit {0}
Starts a (Err TooMany) = Unit {0}
Starts a (Err (Memory error)) = Unit {0}
Starts a (Err (File fault)) = Unit {0}

-- the automaton of the sheet that is sealed from the records es
abbrev pub sealed : List Entry → Automaton
sealed es = cond (is_ok (readiness es)) (described es) blank_automaton
