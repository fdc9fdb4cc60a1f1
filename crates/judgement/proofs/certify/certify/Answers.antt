use Rattle.std.proofs.Common.{map, ◌∙◌}
use Rattle.reader.specs.Readings.{sited_of}
use Rattle.sheet.specs.Sheets.{automaton_of}
use Rattle.judgement.specs.Certifying.{certifying_from}
use Rattle.judgement.proofs.Sound.{certified_bounds}
use Rattle.judgement.proofs.certify.certify.Goals as goal

pub returns-clause-bounds : goal.returns-clause-bounds
returns-clause-bounds g c =
    let calls = g.Z.Zone.calls in
    let asks = g.Q.Question.asks in
    let new = c.open-book.ensures in
    let xs = map sited_of c.args.nodes.now.records.now in
    let value = c.certify.ensures ∙ (λ i. certifying_from calls (asks (new.question i)) (automaton_of (new.sheet i)) (new.places i) xs c.args.nodes.now.ending) in
    certified_bounds calls (asks c.args.question) (automaton_of c.args.sheet) g.met.Z.Zone.sound (g.met.Q.Question.lawful c.args.question) c.args.places.now xs c.args.nodes.now.ending c.certify.result value
