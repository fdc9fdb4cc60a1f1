use Rattle.std.proofs.Common.{◌≡◌, sym, ap, ◌∙◌, subst, arith}
use Rattle.std.proofs.lemmas.List.{length-drop}
use Rattle.std.proofs.lemmas.Result.{err_from_is_err_and}
use Rattle.reader.specs.Entries.{entry_of}
use Rattle.reader.specs.Files.{Continues}
use Rattle.reader.specs.Kinds.{body_length}
use Rattle.reader.specs.Steps.{step_of, refuses}
use Rattle.reader.proofs.Framing.{continues}
use Rattle.reader.proofs.Stepping.{reaches}
use Rattle.reader.proofs.reader.Reader.next.Goals as goal

pub invariant_of-self : goal.invariant_of-self
invariant_of-self c =
    let reader = c.args.self.now in
    let step = rw c.in-Some.is at c.in_ok-record.ensures in
    let reach = reaches reader.input.now reader.stage reader.offset (entry_of c.in-Some.record) step.0 in
    let long = c.body_len.ensures ∙ ap body_length c.kind.ensures in
    record { inside = omega (arith, reach.within, length-drop reader.offset reader.input.now, long) }

pub returns-in-Some-clause-offset : goal.returns-in-Some-clause-offset
returns-in-Some-clause-offset c =
    let reader = c.args.self.now in
    let step = rw c.in-Some.is at c.in_ok-record.ensures in
    let reach = reaches reader.input.now reader.stage reader.offset (entry_of c.in-Some.record) step.0 in
    let long = c.body_len.ensures ∙ ap body_length c.kind.ensures in
    omega (arith, reach.body, long)

pub returns-in-Some-clause-reads : goal.returns-in-Some-clause-reads
returns-in-Some-clause-reads c =
    let reader = c.args.self.now in
    let step = rw c.in-Some.is at c.in_ok-record.ensures in
    λ es before. subst (Continues reader.input.now es reader.offset reader.stage) step.0 (continues reader.input.now es reader.offset reader.stage before)

pub returns-in-None-clause-reads : goal.returns-in-None-clause-reads
returns-in-None-clause-reads c =
    let reader = c.args.self.now in
    let step = rw c.in-None.is at c.in_ok-record.ensures in
    λ es before. subst (Continues reader.input.now es reader.offset reader.stage) step (continues reader.input.now es reader.offset reader.stage before)

pub returns-in_err-record-clause-reads : goal.returns-in_err-record-clause-reads
returns-in_err-record-clause-reads c =
    let reader = c.args.self.now in
    let p = err_from_is_err_and c.from_residual.result c.from_residual.ensures.1 in
    let gives : step_of c.from_residual.result ≡ refuses c.in_err-record.field-0.0 = ap step_of p.1 ∙ ap refuses p.2 in
    λ es before. subst (Continues reader.input.now es reader.offset reader.stage) (c.in_err-record.ensures ∙ sym gives) (continues reader.input.now es reader.offset reader.stage before)
