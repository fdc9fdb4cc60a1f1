use Rattle.std.proofs.Common.{◌≡◌, List, ◌++◌, drop}
use Rattle.reader.specs.Entries.{Entry}
use Rattle.reader.specs.Listings.{entries}
use Rattle.sheet.specs.Taken.{Took}
use Rattle.bookwalk.specs.Example.{before_sheet_end}
use Rattle.bookwalk.proofs.example.draft_of_file.Given as goal

-- the records taken so far, and those that are left before the sheet end
abbrev pub invariant-loop-placed : goal.invariant-loop-placed
invariant-loop-placed l = (es : List Entry) × Took es l.draft × (es ++ before_sheet_end (entries (drop l.placed-index l.placed-items)) ≡ before_sheet_end (entries l.placed-items))
