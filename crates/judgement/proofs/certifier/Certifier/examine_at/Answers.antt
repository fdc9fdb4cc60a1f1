use Rattle.std.proofs.Common.{ℕ, Bool, cond, map, Ok, sym, ap, ◌∙◌}
use Rattle.std.proofs.lemmas.Result.{err_from_is_err_and}
use Rattle.reader.specs.Readings.{sited_of}
use Rattle.sheet.specs.Sheets.{automaton_of}
use Rattle.book.specs.Calls.{told, examining}
use Rattle.judgement.specs.Certifying.{node_offset}
use Rattle.judgement.specs.Faults.{located}
use Rattle.judgement.specs.Nodes.{in_book}
use Rattle.judgement.proofs.Offsets.{in_book_err}
use Rattle.judgement.proofs.certifier.Certifier.examine_at.Goals as goal

pub returns-in_err-at : goal.returns-in_err-at
returns-in_err-at g c =
    let left = err_from_is_err_and c.from_residual.result c.from_residual.ensures.1 in
    let ps = c.args.places.now in
    let marks = examining g.Z.Zone.calls (g.Q.Question.asks c.args.self.now.book.now.question) (automaton_of c.args.self.now.book.now.sheet) ps c.args.place in
    let offset = node_offset (map sited_of c.args.self.now.records.now) c.args.place in
    let answered =
    ap (λ (m : ℕ). located m (told marks)) (sym c.node_offset.ensures)
    ∙ ap (located c.node_offset.result) (sym c.examine.ensures.answer)
    ∙ sym c.at.ensures ∙ c.in_err-at.was in
    rw (left.1, left.2)
    (sym (ap (λ (t : Bool). cond t (in_book offset marks) (Ok ps)) (sym c.stands.ensures ∙ c.if-stands.true) ∙ in_book_err offset marks _ answered))
