use Rattle.std.proofs.Common.{rules, Ok, Err, sym, ap, ◌∙◌}
use Rattle.std.proofs.lemmas.Result.{err_from_is_err_and, MatchResult-at_ok, MatchResult-at_err}
use Rattle.sheet.specs.Sheets.{automaton_of}
use Rattle.book.specs.Calls.{examined}
use Rattle.book.proofs.Judging.{examine_vacant, examine_unadmitted, examine_walks, walk_named}
use Rattle.book.proofs.book.Book.judge_examine.Goals as goal

pub returns-then-not-node : goal.returns-then-not-node
returns-then-not-node g c =
    sym (examine_vacant g.Z.Zone.calls (g.Q.Question.asks c.args.self.now.question) (automaton_of c.args.self.now.sheet) c.args.places.now c.args.place c.in_ok-node.node.now c.in_ok-node.ensures c.if-not-node.true)

pub returns-then-not-admits : goal.returns-then-not-admits
returns-then-not-admits g c =
    sym (examine_unadmitted g.Z.Zone.calls (g.Q.Question.asks c.args.self.now.question) (automaton_of c.args.self.now.sheet) c.args.places.now c.args.place c.in_ok-node.node.now c.in_ok-node.ensures c.if-not-node.false (cc))

pub returns-in_err-leans : goal.returns-in_err-leans
returns-in_err-leans g c =
    let calls = g.Z.Zone.calls in
    let asks = g.Q.Question.asks c.args.self.now.question in
    let a = automaton_of c.args.self.now.sheet in
    let node = c.in_ok-node.node.now in
    let raised = err_from_is_err_and c.from_residual-in_err-leans.result c.from_residual-in_err-leans.ensures.1 in
    let named = walk_named calls asks a c.args.places.now c.args.place node c.in_ok-node.ensures _ (λ stop e is. search rules) c.walk.result c.map_err.result c.map_err.ensures.cases in
    ap (examined c.args.places.now c.args.place) (raised.1 ∙ ap Err raised.2 ∙ sym (MatchResult-at_err _ _ _ c.in_err-leans.was named))
    ∙ sym (examine_walks calls asks a c.args.places.now c.args.place node c.in_ok-node.ensures c.if-not-node.false (cc) _ c.front.ensures.first c.walk.result c.walk.ensures)

pub returns : goal.returns
returns g c =
    let calls = g.Z.Zone.calls in
    let asks = g.Q.Question.asks c.args.self.now.question in
    let a = automaton_of c.args.self.now.sheet in
    let node = c.in_ok-node.node.now in
    let named = walk_named calls asks a c.args.places.now c.args.place node c.in_ok-node.ensures _ (λ stop e is. search rules) c.walk.result c.map_err.result c.map_err.ensures.cases in
    ap (examined c.args.places.now c.args.place) (ap Ok c.granted.ensures ∙ sym (MatchResult-at_ok _ _ _ c.in_ok-leans.was named))
    ∙ sym (examine_walks calls asks a c.args.places.now c.args.place node c.in_ok-node.ensures c.if-not-node.false (cc) _ c.front.ensures.first c.walk.result c.walk.ensures)
