use Rattle.std.proofs.Common.{◌≡◌, List, [], map, drop}
use Rattle.reader.specs.Entries.{Entry}
use Rattle.sheet.specs.Taken.{Took}
use Rattle.judgement.specs.Drafting.{drafting}
use Rattle.reader.specs.Readings.{sited_of}
use Rattle.judgement.proofs.drafting.drafted.Given as goal

abbrev pub invariant-loop-placed : goal.invariant-loop-placed
invariant-loop-placed l = (es : List Entry) × (drafting es (map sited_of (drop l.placed-index l.records)) ≡ drafting [] (map sited_of l.records)) × Took es l.draft
