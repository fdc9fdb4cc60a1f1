use Rattle.std.proofs.Common.{◌≡◌, sym, ap, ◌∙◌, arith}
use Rattle.sheet.specs.Sheets.{automaton_of}
use Rattle.book.specs.Calls.{kept, vacant}
use Rattle.book.proofs.Judging.{strike_granted, struck_by, within, below_64}
use Rattle.book.proofs.book.Book.strike.Goals as goal

pub unlean_all-requires : goal.unlean_all-requires
unlean_all-requires g c =
    let calls = g.Z.Zone.calls in
    let asks = g.Q.Question.asks c.args.self.now.question in
    let a = automaton_of c.args.self.now.sheet in
    below_64 calls asks a c.args.places.now c.args.place (strike_granted calls asks a c.args.places.now c.args.place (sym c.judge_strike.ensures ∙ c.in_ok-judge_strike.was)).0

pub write_at-requires : goal.write_at-requires
write_at-requires g c =
    let calls = g.Z.Zone.calls in
    let asks = g.Q.Question.asks c.args.self.now.question in
    let a = automaton_of c.args.self.now.sheet in
    let granted = strike_granted calls asks a c.args.places.now c.args.place (sym c.judge_strike.ensures ∙ c.in_ok-judge_strike.was) in
    omega (arith, within calls asks a c.args.places.now c.args.place granted.0)

pub returns-clause-places : goal.returns-clause-places
returns-clause-places g c =
    let calls = g.Z.Zone.calls in
    let asks = g.Q.Question.asks c.args.self.now.question in
    let a = automaton_of c.args.self.now.sheet in
    let granted = strike_granted calls asks a c.args.places.now c.args.place (sym c.judge_strike.ensures ∙ c.in_ok-judge_strike.was) in
    let empty : c.vacant.result ≡ vacant calls asks a = cc in
    struck_by calls asks a c.args.places.now c.args.place _ _ c.vacant.result granted.0 c.unlean_all.ensures c.write_at.ensures empty ∙ sym (ap (λ r. kept r c.args.places.now) granted.1)
