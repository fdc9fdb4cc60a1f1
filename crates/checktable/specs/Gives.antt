-- What reading a part of a case answers.
use Rattle.std.specs.Prelude.{◌≡◌, ℕ, List, Some, None, Ok, Err, Option, Result, Vec, vec_items}
use Rattle.checktable.specs.Cases.{after}
use Rattle.std.specs.declared.alloc.Global.{Global}
use Rattle.checktable.specs.declared.fault.CaseFault.{CaseFault}
use Rattle.checktable.specs.declared.fault.CaseFault.TheVariants.{Malformed, NoMemory}

-- the bytes, or that it is malformed where there are none; memory may be wanting
abbrev pub Gives : Option (List ℕ) → Result (Vec ℕ Global) CaseFault → Type 0
Gives bytes (Ok v) = bytes ≡ Some (vec_items v)
Gives bytes (Err Malformed) = bytes ≡ None
Gives bytes (Err (NoMemory error)) = Unit {0}

-- these bytes behind those before, or that they are malformed; memory may be wanting
abbrev pub Adds : Option (List ℕ) → List ℕ → Result (Unit {0}) CaseFault → List ℕ → Type 0
Adds bytes before (Ok done) now = after before bytes ≡ Some now
Adds bytes before (Err Malformed) now = bytes ≡ None
Adds bytes before (Err (NoMemory error)) now = Unit {0}
