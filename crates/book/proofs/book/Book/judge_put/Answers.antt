use Rattle.std.proofs.Common.{sym, arith}
use Rattle.sheet.specs.Sheets.{automaton_of}
use Rattle.book.proofs.Judging.{put_taken, put_empty, put_grants}
use Rattle.book.proofs.book.Book.judge_put.Goals as goal

pub returns-then-old : goal.returns-then-old
returns-then-old g c =
    sym
    (put_taken g.Z.Zone.calls (g.Q.Question.asks c.args.self.now.question) (automaton_of c.args.self.now.sheet) c.args.places.now c.args.place c.in_ok-old.old.now c.in_ok-old.ensures c.args.location c.args.number c.args.zone.now
    (omega arith)
    (cc) c.if-old.true)

pub returns-then-is_empty : goal.returns-then-is_empty
returns-then-is_empty g c =
    sym
    (put_empty g.Z.Zone.calls (g.Q.Question.asks c.args.self.now.question) (automaton_of c.args.self.now.sheet) c.args.places.now c.args.place c.in_ok-old.old.now c.in_ok-old.ensures c.args.location c.args.number c.args.zone.now
    (omega arith)
    (cc) c.if-old.false (cc))

pub returns : goal.returns
returns g c =
    sym
    (put_grants g.Z.Zone.calls (g.Q.Question.asks c.args.self.now.question) (automaton_of c.args.self.now.sheet) c.args.places.now c.args.place c.in_ok-old.old.now c.in_ok-old.ensures c.args.location c.args.number c.args.zone.now
    (omega arith)
    (cc) c.if-old.false (cc))
