use Rattle.sheet.specs.Fields.{clocks_named}
use Rattle.sheet_tests.proofs.example.Goals as goal

pub returns : goal.returns
unfolding clocks_named
returns c =
    let t0 = c.new-draft.ensures in
    let t1 = (c.in_ok-take.ensures.takes _ t0).1 in
    let t2 = (c.in_ok-take-2.ensures.takes _ t1).1 in
    let t3 = (c.in_ok-take-3.ensures.takes _ t2).1 in
    let t4 = (c.in_ok-take-4.ensures.takes _ t3).1 in
    let t5 = (c.in_ok-take-5.ensures.takes _ t4).1 in
    c.seal.ensures.value _ t5
