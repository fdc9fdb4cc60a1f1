use Rattle.std.proofs.Common.{◌≡◌, map, drop}
use Rattle.std.specs.List.{range_with_len}
use Rattle.reader.specs.Readings.{sited_of}
use Rattle.sheet.specs.Sheets.{automaton_of}
use Rattle.judgement.specs.Certifying.{all_examined}
use Rattle.judgement.proofs.certifier.Certifier.examine_all.Given as goal

abbrev pub invariant-loop-place : goal.invariant-loop-place
invariant-loop-place g l =
    let all = all_examined g.Z.Zone.calls (g.Q.Question.asks l.self.book.now.question) (automaton_of l.self.book.now.sheet) (map sited_of l.self.records.now) in
    all l.places (drop l.place (range_with_len 0 64)) ≡ all l.initial.places (range_with_len 0 64)
