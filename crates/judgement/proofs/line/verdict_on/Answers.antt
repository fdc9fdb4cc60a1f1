use Rattle.std.proofs.Common.{arith}
use Rattle.std.proofs.lemmas.Grind.{common_steps}
use Rattle.judgement.proofs.Telling.{judgeable}
use Rattle.judgement.proofs.line.verdict_on.Goals as goal

pub returns-in_ok-refusal-in-Err-clause-value : goal.returns-in_ok-refusal-in-Err-clause-value
returns-in_ok-refusal-in-Err-clause-value c = grind (arith, common_steps)

pub returns-in_ok-refusal-in-Err-clause-always : goal.returns-in_ok-refusal-in-Err-clause-always
returns-in_ok-refusal-in-Err-clause-always c = judgeable c.args.input.now

pub returns-in_err-refusal-in-Err-clause-always : goal.returns-in_err-refusal-in-Err-clause-always
returns-in_err-refusal-in-Err-clause-always c = judgeable c.args.input.now
