use Rattle.std.proofs.Common.{◌≡◌, ◌+◌, map, length, position}
use Rattle.std.specs.List.{position_from}
use Rattle.sheet.specs.Sheets.{automaton_of, edge_of}
use Rattle.book.specs.Covering.{covers, walked}
use Rattle.book.specs.Marks.{none}
use Rattle.book.proofs.book.Book.walk.Given as goal

abbrev pub invariant-places : goal.invariant-places
invariant-places g l =
    let test = covers g.Z.Zone.calls (g.Q.Question.asks l.self.question) l.step.accepting l.step.number l.step.target l.step.zone in
    (l.others.count + length l.others.iter.rest.now ≡ length l.places) × (position_from test l.others.count l.others.iter.rest.now ≡ position test l.places)

abbrev pub invariant-edges : goal.invariant-edges
invariant-edges g l =
    let from = walked g.Z.Zone.calls (g.Q.Question.asks l.self.question) (automaton_of l.self.sheet) l.node l.places in
    (length l.leans ≡ 64) × (from l.edges.count (map edge_of l.edges.iter.rest.now) l.leans ≡ from 0 (automaton_of l.self.sheet).edges none)
