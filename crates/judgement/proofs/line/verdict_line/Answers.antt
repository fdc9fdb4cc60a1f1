use Rattle.std.proofs.Common.{sym, ◌∙◌}
use Rattle.std.proofs.lemmas.Result.{IfOk-weaker}
use Rattle.judgement.proofs.Telling.{line_bounds}
use Rattle.judgement.proofs.line.verdict_line.Goals as goal

pub returns-clause-bounds : goal.returns-clause-bounds
returns-clause-bounds c =
    IfOk-weaker c.line_of.result _ _ (λ text is n same. line_bounds c.args.input.now c.in_ok-verdict.verdict n c.in_ok-verdict.ensures.bounds (sym is ∙ same)) c.line_of.ensures
