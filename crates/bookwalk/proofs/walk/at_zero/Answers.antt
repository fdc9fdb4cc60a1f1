use Rattle.std.proofs.Common.{ap, ◌∙◌}
use Rattle.bookwalk.proofs.AtZero.{at_zero_is, at_most_zero}
use Rattle.bookwalk.proofs.walk.at_zero.Goals as goal
use Rattle.zone.specs.DifferenceCalls.{difference_calls}

pub returns-clause-meaning : goal.returns-clause-meaning
returns-clause-meaning c = at_zero_is c.constrain.result (c.constrain.ensures.value ∙ ap (λ z. difference_calls.constrained z at_most_zero) c.whole.ensures)
