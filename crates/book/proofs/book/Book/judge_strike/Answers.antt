use Rattle.std.proofs.Common.{sym}
use Rattle.sheet.specs.Sheets.{automaton_of}
use Rattle.book.proofs.Judging.{strike_vacant, strike_grants}
use Rattle.book.proofs.book.Book.judge_strike.Goals as goal

pub returns-then-not-old : goal.returns-then-not-old
returns-then-not-old g c =
    sym (strike_vacant g.Z.Zone.calls (g.Q.Question.asks c.args.self.now.question) (automaton_of c.args.self.now.sheet) c.args.places.now c.args.place c.in_ok-old.old.now c.in_ok-old.ensures c.if-not-old.true)

pub returns : goal.returns
returns g c =
    sym (strike_grants g.Z.Zone.calls (g.Q.Question.asks c.args.self.now.question) (automaton_of c.args.self.now.sheet) c.args.places.now c.args.place c.in_ok-old.old.now c.in_ok-old.ensures c.if-not-old.false)
