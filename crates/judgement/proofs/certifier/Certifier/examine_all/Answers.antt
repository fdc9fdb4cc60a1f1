use Rattle.std.proofs.Common.{◌≡◌, ◌<◌, map, length, sym, refl, ap, ◌∙◌, arith}
use Rattle.std.proofs.lemmas.List.FromFn.{length-range_with_len, get_or-range_with_len}
use Rattle.std.proofs.lemmas.Result.{err_from_is_err_and}
use Rattle.std.specs.List.{range_with_len}
use Rattle.reader.specs.Readings.{sited_of}
use Rattle.sheet.specs.Sheets.{automaton_of}
use Rattle.judgement.proofs.Folding.{folded_more, folded_stop}
use Rattle.judgement.specs.Certifying.{examined_at, all_examined}
use Rattle.judgement.specs.Nodes.{places_by}
use Rattle.judgement.proofs.certifier.Certifier.examine_all.Goals as goal

pub returns-in_err-examine_at : goal.returns-in_err-examine_at
returns-in_err-examine_at g c =
    let at = examined_at g.Z.Zone.calls (g.Q.Question.asks c.args.self.now.book.now.question) (automaton_of c.args.self.now.book.now.sheet) (map sited_of c.args.self.now.records.now) in
    let all = all_examined g.Z.Zone.calls (g.Q.Question.asks c.args.self.now.book.now.question) (automaton_of c.args.self.now.book.now.sheet) (map sited_of c.args.self.now.records.now) in
    let left = err_from_is_err_and c.from_residual.result c.from_residual.ensures.1 in
    let within : c.loop-place.place < length (range_with_len 0 64) = omega (arith, length-range_with_len 0 64) in
    let is : _ ≡ c.loop-place.place = get_or-range_with_len 0 64 c.loop-place.place 0 (omega arith) ∙ omega arith in
    let stop = ap (at c.loop-place.places) is ∙ sym c.examine_at.ensures ∙ ap (λ r. places_by r c.examine_at.new.places) c.in_err-examine_at.was in
    rw (left.1, left.2) (sym (folded_stop at all (λ ps. refl) (λ ps i is. refl) (range_with_len 0 64) c.loop-place.place 0 c.loop-place.places _ within stop) ∙ c.loop-place.invariant)

pub loop-place-preserved : goal.loop-place-preserved
loop-place-preserved g c =
    let at = examined_at g.Z.Zone.calls (g.Q.Question.asks c.args.self.now.book.now.question) (automaton_of c.args.self.now.book.now.sheet) (map sited_of c.args.self.now.records.now) in
    let all = all_examined g.Z.Zone.calls (g.Q.Question.asks c.args.self.now.book.now.question) (automaton_of c.args.self.now.book.now.sheet) (map sited_of c.args.self.now.records.now) in
    let within : c.loop-place.place < length (range_with_len 0 64) = omega (arith, length-range_with_len 0 64) in
    let is : _ ≡ c.loop-place.place = get_or-range_with_len 0 64 c.loop-place.place 0 (omega arith) ∙ omega arith in
    let ok = ap (at c.loop-place.places) is ∙ sym c.examine_at.ensures ∙ ap (λ r. places_by r c.examine_at.new.places) c.in_ok-examine_at.was in
    folded_more at all (λ ps. refl) (λ ps i is. refl) (range_with_len 0 64) c.loop-place.place 0 c.loop-place.places _ within ok ∙ c.loop-place.invariant
