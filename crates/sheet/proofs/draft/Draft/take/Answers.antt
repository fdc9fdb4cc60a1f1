use Rattle.std.proofs.Common.{Err, refl, ap, ◌∙◌}
use Rattle.std.proofs.lemmas.Result.{err_from_is_err_and}
use Rattle.reader.specs.Entries.{entry_of}
use Rattle.sheet.specs.Taken.{built}
use Rattle.sheet.proofs.Taking.{refuses, takes, still_taken}
use Rattle.sheet.proofs.draft.Draft.take.Goals as goal

pub returns-in_err-part-clause-takes : goal.returns-in_err-part-clause-takes
returns-in_err-part-clause-takes c =
    let before = built c.self.inside.builder in
    let p = err_from_is_err_and c.from_residual.result c.from_residual.ensures.1 in
    rw (← c.self.view_is) (λ es took. refuses es before took (entry_of c.args.«record») c.from_residual.result c.in_err-part.field-0.0 before c.in_err-part.ensures (p.1 ∙ ap Err p.2) refl)

pub returns-clause-takes : goal.returns-clause-takes
returns-clause-takes c =
    let judged = c.in_ok-part.ensures in
    rw (← c.self.view_is) (λ es took. takes es (built c.self.inside.builder) took (entry_of c.args.«record») c.in_ok-part.part c.add.result _ judged.0 judged.1 c.add.ensures)

pub invariant_of-self : goal.invariant_of-self
invariant_of-self c =
    let judged = c.in_ok-part.ensures in
    still_taken (built c.self.inside.builder) (entry_of c.args.«record») c.in_ok-part.part c.add.result (built c.add.new.self) judged.0 judged.1 c.add.ensures c.self.invariant
