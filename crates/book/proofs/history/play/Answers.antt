use Rattle.std.proofs.Common.{◌≡◌, arith}
use Rattle.std.proofs.lemmas.Grind.{common_steps}
use Rattle.sheet.specs.Sheets.{automaton_of}
use Rattle.book.specs.Calls.{opened, played}
use Rattle.book.proofs.history.play.Goals as goal

pub returns-clause-bounds : goal.returns-clause-bounds
returns-clause-bounds g c =
    let calls = g.Z.Zone.calls in
    let asks = g.Q.Question.asks c.open-book.result.question in
    let a = automaton_of c.open-book.result.sheet in
    let ended : c.loop-call.places ≡ played calls asks a c.args.calls.now (opened calls asks a c.args.places.now) = grind (arith, common_steps) in
    rw c.open-book.ensures.sheet at (c.conclude.ensures.bounds c.args.calls.now c.args.places.now ended)
