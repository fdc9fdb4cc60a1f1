use Rattle.std.proofs.Common.{ap, ◌∙◌}
use Rattle.std.proofs.lemmas.Result.{IfOk-weaker}
use Rattle.judgement.specs.Judged.{printed}
use Rattle.judgement.proofs.Worked.{worked_examples}
use Rattle.judgement.proofs.example.one_visit_line.Goals as goal

pub returns : goal.returns
returns c = record {
  value = IfOk-weaker c.verdict_line.result _ _ (λ text is. is ∙ ap printed c.one_visit.ensures ∙ worked_examples.differences) c.verdict_line.ensures.value;
  worked = worked_examples;
}
