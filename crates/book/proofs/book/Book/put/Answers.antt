use Rattle.std.proofs.Common.{sym, ◌∙◌}
use Rattle.sheet.specs.Sheets.{automaton_of}
use Rattle.book.specs.Calls.{putting}
use Rattle.book.proofs.Judging.{refused_keeps, put_granted, within}
use Rattle.book.proofs.book.Book.put.Goals as goal

pub returns-in_err-judge_put-clause-places : goal.returns-in_err-judge_put-clause-places
returns-in_err-judge_put-clause-places g c =
    let asks = g.Q.Question.asks c.args.self.now.question in
    let a = automaton_of c.args.self.now.sheet in
    sym (refused_keeps (putting g.Z.Zone.calls asks a c.args.places.now c.args.place c.args.location c.args.number c.args.zone.now) _ c.args.places.now (sym c.judge_put.ensures ∙ c.in_err-judge_put.was))

pub write_at-requires : goal.write_at-requires
write_at-requires g c =
    let calls = g.Z.Zone.calls in
    let asks = g.Q.Question.asks c.args.self.now.question in
    let a = automaton_of c.args.self.now.sheet in
    within calls asks a c.args.places.now c.args.place (put_granted calls asks a c.args.places.now c.args.place c.args.location c.args.number c.args.zone.now (sym c.judge_put.ensures ∙ c.in_ok-judge_put.was)).0
