use Rattle.std.proofs.Common.{◌≡◌, map, drop, None}
use Rattle.sheet.specs.Sheets.{automaton_of}
use Rattle.judgement.specs.Nodes.{all_advanced}
use Rattle.reader.specs.Readings.{sited_of}
use Rattle.judgement.proofs.certifier.Certifier.take_nodes.Given as goal

abbrev pub invariant-loop-placed : goal.invariant-loop-placed
invariant-loop-placed g l =
    let all = all_advanced g.Z.Zone.calls (g.Q.Question.asks l.self.book.now.question) (automaton_of l.self.book.now.sheet) in
    all (l.places, l.latest) (map sited_of (drop l.placed-index l.self.records.now)) ≡ all (l.initial.places, None) (map sited_of l.self.records.now)
