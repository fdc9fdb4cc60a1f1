use Rattle.std.proofs.Common.{sym, ◌∙◌, arith}
use Rattle.std.proofs.lemmas.Bool.Decides.{nat_tests}
use Rattle.checktable.proofs.Counting.{count_read, count_unread}
use Rattle.checktable.proofs.token.count.Goals as goal

pub returns-in_err-count : goal.returns-in_err-count
returns-in_err-count c =
    c.from_residual.ensures
    ∙ sym (count_unread c.args.text.now c.parse.result c.parse.ensures.value.0 (sym c.is_decimal.ensures ∙ c.if-not-is_decimal.false) c.in_err-count.ensures.value)

pub returns : goal.returns
returns c =
    let e = count_read c.args.text.now c.parse.result c.in_ok-count.count c.parse.ensures.value.0 (sym c.is_decimal.ensures ∙ c.if-not-is_decimal.false) c.in_ok-count.ensures.value in
    grind (arith, nat_tests)
