use Rattle.std.proofs.Common.{rules, ◌≡◌, ◌+◌, true, map, length, Some, Ok, position, sym, ap, ◌∙◌, arith}
use Rattle.std.proofs.lemmas.List.{length-set}
use Rattle.std.proofs.lemmas.Iterator.Adapters.{position_from-zero}
use Rattle.sheet.specs.Sheets.{automaton_of, edge_of}
use Rattle.book.specs.Covering.{covers, walked}
use Rattle.book.proofs.Walking.{search_here, walk_next}
use Rattle.book.proofs.book.Book.walk.Goals as goal

pub places-init : goal.places-init
places-init g c =
    let test = covers g.Z.Zone.calls (g.Q.Question.asks c.args.self.now.question) c.in-Ok-Some.step.accepting c.in-Ok-Some.step.number c.in-Ok-Some.step.target c.in-Ok-Some.step.zone in
    let first : c.enumerate-others.result.count ≡ 0 = search rules in
    let all : c.enumerate-others.result.iter.rest.now ≡ c.args.places.now = search rules in
    let sized : c.enumerate-others.result.count + length c.enumerate-others.result.iter.rest.now ≡ length c.args.places.now = rw (first, all) (omega arith) in
    (sized, rw (first, all) (sym (position_from-zero test c.args.places.now)))

pub edges-preserved : goal.edges-preserved
edges-preserved g c =
    let calls = g.Z.Zone.calls in
    let asks = g.Q.Question.asks c.args.self.now.question in
    let a = automaton_of c.args.self.now.sheet in
    let ps = c.args.places.now in
    let step = c.in-Ok-Some.step in
    let edge = c.in-Some.ensures.steps in
    let place = c.in-Some-next.ensures.steps in
    let test = covers calls asks step.accepting step.number step.target step.zone in
    let covered : position test ps ≡ Some c.in-Some-next.j = sym c.places.invariant.1 ∙ search_here test _ _ c.in-Some-next.place.now _ place.0 c.if-covers.ensures ∙ ap Some (sym place.1) in
    let on = walk_next calls asks a c.args.node.now ps c.edges.edges.count (edge_of c.in-Some.edge.now) (map edge_of c.next.new.self.iter.rest.now) c.edges.leans step c.in-Some-next.j (ap Ok (sym c.in-Ok-Some.field-0-is) ∙ c.in-Ok-Some.ensures) covered in (
      length-set c.edges.leans c.in-Some-next.j true ∙ c.edges.invariant.0,
      rw edge.2 (sym on ∙ ap (λ l. walked calls asks a c.args.node.now ps c.edges.edges.count (map edge_of l) c.edges.leans) (sym edge.0) ∙ c.edges.invariant.1),
    )
