use Rattle.std.proofs.Common.{sym, ap, ◌∙◌}
use Rattle.std.proofs.lemmas.Result.{err_from_is_err_and}
use Rattle.judgement.specs.Faults.{located}
use Rattle.judgement.specs.Nodes.{put_latest}
use Rattle.judgement.proofs.Offsets.{in_book_err}
use Rattle.sheet.specs.Sheets.{automaton_of}
use Rattle.judgement.proofs.certifier.Certifier.put_latest.Goals as goal

pub returns-in_err-at : goal.returns-in_err-at
returns-in_err-at g c =
    let left = err_from_is_err_and c.from_residual.result c.from_residual.ensures.1 in
    let put = put_latest g.Z.Zone.calls (g.Q.Question.asks c.args.self.now.book.now.question) (automaton_of c.args.self.now.book.now.sheet) in
    let answered = ap (located c.in-Some.node.offset) (sym c.put.ensures.answer) ∙ sym c.at.ensures ∙ c.in_err-at.was in
    rw (left.1, left.2) (sym (ap (λ n. put (c.args.places.now, n)) c.in-Some.is ∙ in_book_err c.in-Some.node.offset _ _ answered))
