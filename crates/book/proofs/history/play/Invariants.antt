use Rattle.std.proofs.Common.{◌≡◌, drop}
use Rattle.sheet.specs.Sheets.{automaton_of}
use Rattle.book.specs.Calls.{played}
use Rattle.book.proofs.history.play.Given as goal

abbrev pub invariant-loop-call : goal.invariant-loop-call
invariant-loop-call g l =
    let from = played g.Z.Zone.calls (g.Q.Question.asks l.book.question) (automaton_of l.book.sheet) in
    from (drop l.call-index l.calls) l.places ≡ from l.calls l.initial.places
