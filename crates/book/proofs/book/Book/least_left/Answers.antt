use Rattle.std.proofs.Common.{min, rules, tests, ◌∙◌}
use Rattle.std.proofs.lemmas.Iterator.{YieldsList-from_slice, YieldsList-from_map}
use Rattle.std.proofs.lemmas.Iterator.Consumers.{YieldsList-at, YieldsList-from_filter}
use Rattle.sheet.specs.Sheets.{automaton_of}
use Rattle.book.specs.Calls.{covers_start}
use Rattle.book.proofs.Least.{reduce_is, least_is}
use Rattle.book.proofs.book.Book.least_left.Goals as goal

pub returns : goal.returns
returns g c =
    let calls = g.Z.Zone.calls in
    let asks = g.Q.Question.asks c.args.self.now.question in
    let a = automaton_of c.args.self.now.sheet in
    reduce_is _ min _ (λ m n r q k. search rules) _ _ c.reduce.ensures.ran
    (YieldsList-from_map _ (λ p. asks.left p.number)
    (YieldsList-at c.map.ensures.source (YieldsList-from_filter _ (covers_start calls a) (YieldsList-from_slice c.args.places.now cc) c.filter.ensures.closure (λ x r q k. search (rules, tests))))
    c.map.ensures.closure (λ x r q k. search rules))
    ∙ least_is calls asks a c.args.places.now
