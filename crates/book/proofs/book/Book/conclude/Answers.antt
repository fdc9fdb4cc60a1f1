use Rattle.sheet.specs.Sheets.{automaton_of}
use Rattle.book.proofs.Answering.{conclude_exactly, conclude_least}
use Rattle.book.proofs.Simulation.{concluded_made}
use Rattle.book.proofs.book.Book.conclude.Goals as goal

pub returns : goal.returns
returns g c =
    let asks = g.Q.Question.asks c.args.self.now.question in
    let a = automaton_of c.args.self.now.sheet in
    record {
      answer = c.verdict.ensures;
      bounds = concluded_made g.Z.Zone.calls asks (automaton_of c.args.self.now.sheet) g.met.Z.Zone.sound (g.met.Q.Question.lawful c.args.self.now.question) c.args.places.now c.verdict.result c.verdict.ensures;
      exactly = conclude_exactly g.Z.Zone.calls asks a c.args.places.now c.verdict.result c.verdict.ensures;
      least = conclude_least g.Z.Zone.calls asks a c.args.places.now c.verdict.result c.verdict.ensures;
    }
