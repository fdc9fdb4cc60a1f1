use Rattle.std.proofs.Common.{ℕ, ◌∷◌, ◌≢◌, List, lit<, sym, ◌∙◌}
use Rattle.std.proofs.lemmas.Option.{MatchOption-at_none}
use Rattle.std.proofs.lemmas.Result.{err_from_is_err_and}
use Rattle.std.proofs.lemmas.Str.Pattern.{strip_prefix_char}
use Rattle.checktable.proofs.Joining.{malformed}
use Rattle.checktable.proofs.token.file.Goals as goal

pub returns-in_err-ok_or : goal.returns-in_err-ok_or
returns-in_err-ok_or c =
    let text = c.args.text.now in
    let p = err_from_is_err_and c.from_residual.result c.from_residual.ensures.1 in
    let unstripped = MatchOption-at_none ((rest : List ℕ) → text ≢ 32 ∷ rest) _ c.in_err-ok_or.ensures.ok_part (strip_prefix_char 32 text c.strip_prefix.result c.strip_prefix.ensures.cases (lit< tt)) in
    malformed text c.strip_prefix.result p.0 c.in_err-ok_or.field-0.0 c.from_residual.result (sym c.is_empty.ensures ∙ c.if-is_empty.false) unstripped c.in_err-ok_or.ensures.ok_part c.in_err-ok_or.ensures.value p.1 p.2
