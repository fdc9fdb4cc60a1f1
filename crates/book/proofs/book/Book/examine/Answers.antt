use Rattle.sheet.specs.Sheets.{automaton_of}
use Rattle.book.proofs.Answering.{examine_exactly, examine_names}
use Rattle.book.proofs.book.Book.examine.Goals as goal

pub returns : goal.returns
returns g c =
    let calls = g.Z.Zone.calls in
    let asks = g.Q.Question.asks c.args.self.now.question in
    let a = automaton_of c.args.self.now.sheet in
    record {
      answer = c.mark.ensures.answer;
      places = c.mark.ensures.places;
      exactly = examine_exactly calls asks a c.args.places.now c.args.place c.mark.result c.mark.ensures.answer;
      first = examine_names calls asks a c.args.places.now c.args.place c.mark.result c.mark.ensures.answer;
    }
