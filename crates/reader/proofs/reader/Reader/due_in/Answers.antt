use Rattle.std.proofs.Common.{sym, ◌∙◌, subst}
use Rattle.reader.specs.Steps.{Due}
use Rattle.reader.proofs.Framing.{kind_read}
use Rattle.reader.proofs.Stepping.{step_of_kind}
use Rattle.reader.proofs.reader.Reader.due_in.Goals as goal

pub returns : goal.returns
returns c =
    let kind = kind_read c.in-Some.byte.now c.in-Ok.kind (sym c.try_from.ensures ∙ c.in-Ok.is) in
    let step = step_of_kind c.args.self.now.stage c.args.self.now.offset _ c.in-Ok.kind c.in-Some.rest.now c.args.after.now c.in_default.not-Ended c.in-Some.ensures.cases.0 kind in
    subst (λ p. Due c.args.self.now.stage p c.whole.result) (sym step) c.whole.ensures
