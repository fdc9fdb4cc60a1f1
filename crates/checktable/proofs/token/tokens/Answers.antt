use Rattle.std.proofs.Common.{◌≤◌, length, lit<, arith}
use Rattle.std.proofs.lemmas.Iterator.Consumers.{YieldsList-turn, YieldsList-end}
use Rattle.std.proofs.lemmas.Iterator.Splits.{YieldsList-from_str_split}
use Rattle.std.proofs.lemmas.List.{length_push}
use Rattle.std.proofs.lemmas.Result.{err_from_is_err_and}
use Rattle.std.specs.List.{slice_split}
use Rattle.checktable.specs.Cases.{is_space}
use Rattle.checktable.proofs.Joining.{one_added, refused, all_read}
use Rattle.checktable.proofs.token.tokens.Goals as goal

pub returns-in_err-add_token : goal.returns-in_err-add_token
returns-in_err-add_token c =
    let road = YieldsList-from_str_split {s = c.into_iter-part-iterator.result} 32 c.args.text.now (lit< tt) (cc) (cc) (cc) in
    let turn = YieldsList-turn road c.loop-part.yielded _ c.loop-part.yielded_by _ _ c.in-Some.part c.in-Some.is c.next.ensures.steps in
    let p = err_from_is_err_and c.from_residual.result c.from_residual.ensures.1 in
    refused _ _ _ c.loop-part.invariant _ _ p.0 c.in_err-add_token.field-0.0 c.from_residual.result turn p.1 p.2 c.in_err-add_token.ensures

pub loop-part-preserved : goal.loop-part-preserved
loop-part-preserved c =
    let road = YieldsList-from_str_split {s = c.into_iter-part-iterator.result} 32 c.args.text.now (lit< tt) (cc) (cc) (cc) in
    let turn = YieldsList-turn road c.loop-part.yielded _ c.loop-part.yielded_by _ _ c.in-Some.part c.in-Some.is c.next.ensures.steps in
    one_added _ _ _ c.loop-part.invariant _ _ _ turn c.in_ok-add_token.ensures
    (length_push c.loop-part.yielded c.in-Some.part)

pub returns : goal.returns
returns c =
    let road = YieldsList-from_str_split {s = c.into_iter-part-iterator.result} 32 c.args.text.now (lit< tt) (cc) (cc) (cc) in
    let end = YieldsList-end road c.loop-part.yielded _ c.loop-part.yielded_by _ _ c.in-None.is c.next.ensures.steps in
    let past : length (slice_split is_space c.args.text.now) ≤ length c.loop-part.yielded = omega (arith, end.1) in
    all_read _ _ _ c.loop-part.invariant past
