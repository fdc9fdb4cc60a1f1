use Rattle.sheet.specs.Sheets.{automaton_of}
use Rattle.book.proofs.Judging.{within, examine_granted}
use Rattle.book.proofs.book.Book.mark.Goals as goal

pub write_at-requires : goal.write_at-requires
write_at-requires g c =
    let calls = g.Z.Zone.calls in
    let asks = g.Q.Question.asks c.args.self.now.question in
    let a = automaton_of c.args.self.now.sheet in
    within calls asks a c.args.places.now c.args.place (examine_granted calls asks a c.args.places.now c.args.place _ c.in_ok-node.ensures)
