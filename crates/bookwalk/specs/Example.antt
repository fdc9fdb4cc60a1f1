-- The records of a file that describe its sheet.
use Rattle.std.specs.Prelude.{cond, List, [], ◌∷◌}
use Rattle.reader.specs.Entries.{Entry}
use Rattle.reader.specs.declared.kind.Kind.TheVariants.{SheetEnd}
use Rattle.sheet.specs.Fields.{is}

-- those that come before the sheet end
abbrev pub before_sheet_end : List Entry → List Entry
before_sheet_end [] = []
before_sheet_end (e ∷ es) = cond (is SheetEnd e) [] (e ∷ before_sheet_end es)
