-- What taking a record answers.
use Rattle.std.specs.Prelude.{◌≡◌, ◌⊎◌, List, [], ◌∷◌, ◌++◌, Some, None, Ok, Err, Result}
use Rattle.reader.specs.Entries.{Entry}
use Rattle.sheet.specs.Judged.{refusal}
use Rattle.sheet.specs.Taken.{Contents, Took}
use Rattle.sheet.specs.declared.fault.SheetFault.{SheetFault}
use Rattle.sheet.specs.declared.fault.SheetFault.TheVariants.{Memory}

-- what taking record e after the records es answers, and what the draft holds afterwards; memory may be wanting for a record that meets no refusal
abbrev pub Takes : List Entry → Entry → Contents → Result (Unit {0}) SheetFault → Contents → Type 0
Takes es e before (Ok done) after = (refusal es e ≡ None) × Took (es ++ e ∷ []) after
Takes es e before (Err fault) after = ((refusal es e ≡ Some fault) ⊎ ((refusal es e ≡ None) × (fault ≡ Memory (record {})))) × (after ≡ before)
