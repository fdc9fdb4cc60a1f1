use Rattle.std.proofs.Common.{length, unwrap_or, ap, ◌∙◌}
use Rattle.judgement.proofs.Sheets.{length_found}
use Rattle.judgement.proofs.drafting.sheet_length.Goals as goal

pub returns-clause-value : goal.returns-clause-value
returns-clause-value c = c.unwrap_or.ensures ∙ ap (λ o. unwrap_or o (length c.args.records.now)) c.sheet_end.ensures ∙ length_found c.args.records.now
