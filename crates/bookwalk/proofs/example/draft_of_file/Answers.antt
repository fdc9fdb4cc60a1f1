use Rattle.bookwalk.proofs.Drafting.{one_more, stopped, all_taken, took_left}
use Rattle.bookwalk.proofs.example.draft_of_file.Goals as goal
use Rattle.bookwalk.proofs.example.draft_of_file.Goals.{else-loop-placed-test, then-loop-placed-test+in-SheetEnd}

pub loop-placed-preserved : goal.loop-placed-preserved
loop-placed-preserved c =
    let inv = c.loop-placed.invariant in
    (_, (c.in_ok-take.ensures.takes inv.0 inv.1).1, one_more _ c.loop-placed.placed-index inv.0 inv.2 _ c.loop-placed-test.true c.in_default.not-SheetEnd)

pub returns : goal.returns
returns c =
    let inv = c.loop-placed.invariant in
    took_left c.args.bytes.now _ _ _ inv.0 c.loop-placed.draft c.in_ok-listing.ensures c.deref-placed-items.ensures.value
    (elim c.loop-placed-test.branch [
      | else-loop-placed-test w ↦ all_taken _ c.loop-placed.placed-index inv.0 inv.2 w.loop-placed-test.false
      | then-loop-placed-test+in-SheetEnd w ↦ stopped _ c.loop-placed.placed-index inv.0 inv.2 _ w.loop-placed-test.true w.in-SheetEnd.is
    ])
    inv.1
