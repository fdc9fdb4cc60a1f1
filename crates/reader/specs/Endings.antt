-- How the reading of a file ends.
use Rattle.std.specs.Prelude.{Result}
use Rattle.reader.specs.declared.fault.FileFault.{FileFault}

-- where the file should end, or with a refusal
abbrev pub Ending : Type 0
Ending = Result (Unit {0}) FileFault
